-- `edits::stroke::row_of` meets its contract: the row of the plan's own grid. Assumes nothing.
use mathlib.Core.Path.{ap}
use Rattle.records.specs.declared.plan.PlanSizes.{PlanSizes}
use Rattle.records.specs.Rows.{plan_sizes_of}
use Rattle.edits.proofs.StrokeLaws.{row_told}
use Rattle.edits.proofs.stroke.row_of.Goals as goal

pub returns : goal.returns
unfolding plan_sizes_of
returns c =
    let r = c.args.r in
    row_told r.now _ _ _ _ _ (ap (λ (y : PlanSizes). y.horizon) c.counts-sizes.ensures) c.words.ensures.0
    c.row_in.ensures.0 c.row_in.ensures.1
