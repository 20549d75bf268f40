-- `model::rules::read_row` meets its contract, rule by rule.
-- Assumes nothing.
use mathlib.Core.Path.{ap}
use Rattle.records.specs.declared.model.Sizes.{Sizes}
use Rattle.records.specs.Rows.{sizes_of}
use Rattle.records.proofs.RowTests.{thread_answered, period_answered, activity_answered, loop_answered, width_answered}
use Rattle.records.proofs.RowTests.{masks_answered}
use Rattle.records.proofs.model.rules.read_row.Goals as goal

pub returns-in-Thread : goal.returns-in-Thread
returns-in-Thread c =
    rw c.in-Thread.is
    (thread_answered _ _ _ _ _ c.thread_row-row.ensures c.thread_holds.ensures
    (rw c.in-Thread.is at c.answer.ensures))

pub returns-in-Period : goal.returns-in-Period
returns-in-Period c =
    rw c.in-Period.is
    (period_answered _ _ _ _ _ _ c.thread_row-row-in-Period.ensures c.rounds.ensures c.period_holds.ensures
    (rw c.in-Period.is at c.answer-in-Period.ensures))

pub returns-in-Activity : goal.returns-in-Activity
unfolding sizes_of
returns-in-Activity c =
    rw c.in-Activity.is
    (activity_answered _ _ _ _ _ _ c.activity_row-row.ensures
    (ap (λ (y : Sizes). y.threads) c.counts-one.ensures) c.activity_holds.ensures
    (rw c.in-Activity.is at c.answer-in-Activity.ensures))

pub returns-in-Loop : goal.returns-in-Loop
unfolding sizes_of
returns-in-Loop c =
    rw c.in-Loop.is
    (loop_answered _ _ _ _ _ _ c.loop_byte-q.ensures
    (ap (λ (y : Sizes). y.activities) c.counts-one-in-Loop.ensures) c.loop_holds.ensures
    (rw c.in-Loop.is at c.answer-in-Loop.ensures))

pub returns-in-Width : goal.returns-in-Width
unfolding sizes_of
returns-in-Width c =
    rw c.in-Width.is
    (width_answered _ _ _ _ _ _ c.width-width.ensures
    (ap (λ (y : Sizes). y.cores) c.counts-one-in-Width.ensures) c.width_holds.ensures
    (rw c.in-Width.is at c.answer-in-Width.ensures))

pub returns-in-Masks : goal.returns-in-Masks
returns-in-Masks c =
    rw c.in-Masks.is
    (masks_answered _ _ _ _ _ c.activity_row-row-in-Masks.ensures c.masks_hold.ensures
    (rw c.in-Masks.is at c.answer-in-Masks.ensures))
