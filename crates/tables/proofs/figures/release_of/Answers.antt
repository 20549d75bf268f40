-- `tables::figures::release_of` meets its contract: the row is that of the definition. Assumes nothing.
use mathlib.Core.Path.{ap, ◌∙◌}
use Rattle.records.specs.declared.plan.Timing.{Timing}
use Rattle.records.specs.Rows.{timing}
use Rattle.tables.proofs.figures.release_of.Goals as goal

pub returns-in-Choice : goal.returns-in-Choice
unfolding timing
returns-in-Choice c =
    rw c.in-Choice.is (c.from.ensures ∙ ap (λ (y : Timing). y.release) c.timing_at.ensures)

pub returns-in-Plan : goal.returns-in-Plan
unfolding timing
returns-in-Plan c =
    rw c.in-Plan.is (c.from-in-Plan.ensures ∙ ap (λ (y : Timing). y.release) c.timing_at-in-Plan.ensures)
