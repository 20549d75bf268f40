-- `records::plan::words` meets its contract: the part behind the rows, or an empty one at the end where the bytes end before it.
-- Assumes nothing.
use mathlib.Core.Path.{ap, ◌∙◌}
use lib.ListN.{length}
use Rattle.schedule.specs.Plan.{grid_at}
use Rattle.records.specs.declared.plan.PlanSizes.{PlanSizes}
use Rattle.records.specs.Rows.{plan_sizes_of}
use Rattle.records.proofs.GridPart.{grid_part, begins_behind, begins_at_end}
use Rattle.records.proofs.plan.words.Goals as goal

pub returns-then-at-end : goal.returns-then-at-end
unfolding plan_sizes_of
returns-then-at-end c =
    let r = c.args.r in
    let at = c.grid_at-at in
    grid_part r.now r.ref_ptr.0 r.ref_ptr.1 at.result
    (begins_behind at.result _ _ (at.ensures
    ∙ ap (λ (y : PlanSizes). grid_at y.threads y.activities) c.counts-sizes.ensures) c.if-at-end.true)

pub returns-else-at-end : goal.returns-else-at-end
unfolding plan_sizes_of
returns-else-at-end c =
    let r = c.args.r in
    let at = c.grid_at-at in
    grid_part r.now r.ref_ptr.0 r.ref_ptr.1 (length r.now)
    (begins_at_end at.result _ _ (at.ensures
    ∙ ap (λ (y : PlanSizes). grid_at y.threads y.activities) c.counts-sizes.ensures) c.if-at-end.false)
