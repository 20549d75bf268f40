-- `text::ticks` meets its contract: the plan's H, or none. Assumes nothing.
use native.Mathlib.Omega.{arith}
use mathlib.Core.Path.{ap}
use Rattle.records.specs.Rows.{plan_sizes_of}
use Rattle.records.specs.declared.plan.PlanSizes.{PlanSizes}
use Rattle.text.specs.Appended.{ticks_of}
use Rattle.text.proofs.ticks.Goals as goal

pub returns-in-Ok : goal.returns-in-Ok
unfolding ticks_of plan_sizes_of
returns-in-Ok c =
    let horizon = ap (λ (x : PlanSizes). x.horizon) c.counts-sizes.ensures in
    (simp c.in-Ok.is horizon, omega (arith, c.struct_known-1.given))

pub returns-in-Err : goal.returns-in-Err
unfolding ticks_of
returns-in-Err c = (simp c.in-Err.is, omega arith)
