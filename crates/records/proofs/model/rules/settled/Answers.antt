-- `model::rules::settled` meets its contract, rule by rule.
-- Assumes nothing.
use mathlib.Core.Path.{ap}
use Rattle.records.specs.declared.model.Sizes.{Sizes}
use Rattle.records.specs.Rows.{sizes_of}
use Rattle.records.proofs.Settled.{period_settled, loop_settled, width_settled}
use Rattle.records.proofs.model.rules.settled.Goals as goal

pub returns-in-Thread : goal.returns-in-Thread
returns-in-Thread c told = cc

pub returns-in-Period : goal.returns-in-Period
returns-in-Period c one =
    rw c.in-Period.is (period_settled _ _ c.rounds.ensures one)

pub returns-in-Activity : goal.returns-in-Activity
returns-in-Activity c told = cc

pub returns-in-Loop : goal.returns-in-Loop
returns-in-Loop c told =
    rw c.in-Loop.is (loop_settled _ _ c.has_loops.ensures told)

pub returns-then-not-has_widths : goal.returns-then-not-has_widths
unfolding sizes_of
returns-then-not-has_widths c core =
    rw c.in-Width.is
    (width_settled _ _ _ c.has_widths.ensures (ap (λ (y : Sizes). y.cores) c.counts-one.ensures)
    c.if-not-has_widths.true core)

pub returns-else-not-has_widths : goal.returns-else-not-has_widths
returns-else-not-has_widths c told = cc

pub returns-in-Masks : goal.returns-in-Masks
returns-in-Masks c told = cc
