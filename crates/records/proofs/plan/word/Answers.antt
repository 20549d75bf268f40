-- `plan::word` meets its contract: the field read is that of the definition.
-- Assumes nothing.
use Prim.Native.Nat.{ℕ, ◌+◌}
use mathlib.Core.Path.{ap, ap₂, ◌∙◌}
use Rattle.schedule.specs.Fields.{field}
use Rattle.schedule.specs.Plan.{plan, grid_at}
use Rattle.records.specs.Rows.{plan_sizes_of}
use Rattle.records.specs.declared.plan.PlanSizes.{PlanSizes}
use Rattle.records.proofs.plan.word.Goals as goal

pub returns : goal.returns
unfolding plan_sizes_of plan
returns c =
    let x = c.args in
    let counted = ap (λ (x : PlanSizes). grid_at x.threads x.activities) c.counts-sizes.ensures in
    c.be32.ensures
    ∙ ap₂ (λ (i j : ℕ). field x.r.now (i + j) 4) (c.grid_at-at.ensures ∙ counted) c.tick_at.ensures
