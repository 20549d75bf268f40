-- `view::refusal` meets its contract: the model's reader, then the plan's. Assumes nothing.
use Rattle.std.proofs.Common.{rules}
use Rattle.std.specs.Prelude.{◌≡◌, Err}
use mathlib.Core.Path.{ap, ◌∙◌}
use Rattle.records.specs.Reads.{pass_numbers}
use Rattle.view.proofs.RefusalLaws.{model_stops, plan-answers}
use Rattle.view.proofs.refusal.Goals as goal

pub returns-in_err-read : goal.returns-in_err-read
returns-in_err-read c =
    let told : c.from_residual.result ≡ Err c.in_err-read.field-0.0 = search rules in
    let x = c.args in
    ap pass_numbers told ∙ model_stops x.model.now x.plan.now _ c.read.ensures _ c.in_err-read.was

pub returns : goal.returns
returns c =
    let x = c.args in
    plan-answers x.model.now x.plan.now _ c.read.ensures _ c.in_ok-read.was _ c.read-2.ensures
