-- `checks::efe::Predecessors::earliest` meets its contract: the larger of the release and what the predecessors let go. Assumes nothing.
use Prim.Native.Nat.{max}
use mathlib.Core.Path.{ap, ap₂, ◌∙◌}
use Rattle.schedule.specs.Plan.{plan}
use Rattle.records.specs.declared.plan.Timing.{Timing}
use Rattle.records.specs.Rows.{timing}
use Rattle.checks.proofs.efe.Predecessors.earliest.Goals as goal

pub returns : goal.returns
unfolding timing
returns c =
    let x = c.args in
    c.max.ensures
    ∙ ap₂ max
    (ap (λ (y : Timing). y.release) c.thread_row-row.ensures
    ∙ ap (plan x.r.now).release c.owner.ensures)
    c.after.ensures
