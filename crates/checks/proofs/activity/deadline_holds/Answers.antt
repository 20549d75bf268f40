-- `checks::activity::deadline_holds` meets its contract: the thread's release and period, and the activity's end.
-- Assumes nothing.
use Prim.Native.Nat.{ℕ}
use mathlib.Core.Path.{ap, ap₂, ◌∙◌}
use Rattle.schedule.specs.Plan.{plan}
use Rattle.schedule.specs.Timing.{on_time, in_time}
use Rattle.records.specs.declared.plan.Span.{Span}
use Rattle.records.specs.declared.plan.Timing.{Timing}
use Rattle.records.specs.Rows.{timing, span_of}
use Rattle.checks.proofs.activity.deadline_holds.Goals as goal

pub returns : goal.returns
unfolding timing span_of in_time
returns c =
    let x = c.args in
    c.on_time.ensures
    ∙ ap₂ (λ (y : Timing) (z : Span). on_time y.release y.period z.end)
    (c.thread_row-row.ensures
    ∙ ap (λ (j : ℕ). timing ((plan x.r.now).release j) ((plan x.r.now).period j)) c.owner.ensures)
    c.activity_row-span.ensures
