-- `model::rules::rows_of` meets its contract, rule by rule.
-- Assumes nothing.
use mathlib.Core.Path.{ap}
use Rattle.schedule.specs.Opened.{form_rules}
use Rattle.records.specs.declared.model.Sizes.{Sizes}
use Rattle.records.specs.Rows.{sizes_of}
use Rattle.records.proofs.model.rules.rows_of.Goals as goal

pub returns-in-Thread : goal.returns-in-Thread
unfolding form_rules sizes_of
returns-in-Thread c = rw c.in-Thread.is (ap (λ (y : Sizes). y.threads) c.counts-one.ensures)

pub returns-in-Period : goal.returns-in-Period
unfolding form_rules sizes_of
returns-in-Period c = rw c.in-Period.is (ap (λ (y : Sizes). y.threads) c.counts-one.ensures)

pub returns-in-Activity : goal.returns-in-Activity
unfolding form_rules sizes_of
returns-in-Activity c = rw c.in-Activity.is (ap (λ (y : Sizes). y.activities) c.counts-one.ensures)

pub returns-in-Loop : goal.returns-in-Loop
unfolding form_rules sizes_of
returns-in-Loop c = rw c.in-Loop.is (ap (λ (y : Sizes). y.activities) c.counts-one.ensures)

pub returns-in-Width : goal.returns-in-Width
unfolding form_rules sizes_of
returns-in-Width c = rw c.in-Width.is (ap (λ (y : Sizes). y.activities) c.counts-one.ensures)

pub returns-in-Masks : goal.returns-in-Masks
unfolding form_rules sizes_of
returns-in-Masks c = rw c.in-Masks.is (ap (λ (y : Sizes). y.activities) c.counts-one.ensures)
