-- `edits::ask` meets its contract: the refusal of the edit, or the verdict on the plan with it. Assumes nothing.
use mathlib.Core.Path.{◌∙◌}
use Rattle.edits.proofs.StrokeLaws.{is_done}
use Rattle.edits.proofs.StateLaws.{ask-refused, ask_erases, ask-told, ask-asks}
use Rattle.edits.proofs.ask.Goals as goal

pub returns-in-Err : goal.returns-in-Err
returns-in-Err c =
    let x = c.args in
    let told = c.tried.ensures in
    let is = c.in-Err.is in (
      ask-refused x.model.now x.plan.now x.state x.e _ told _ is,
      c.begin.ensures ∙ ask_erases x.model.now x.plan.now x.state x.e _ told _ is,
    )

pub verdict_after-requires : goal.verdict_after-requires
verdict_after-requires c =
    let x = c.args in
    is_done x.model.now x.plan.now x.e _ c.tried.ensures c.in-Ok.is

pub returns-in-Ok : goal.returns-in-Ok
returns-in-Ok c =
    let x = c.args in
    let told = c.tried.ensures in
    let is = c.in-Ok.is in (
      ask-told x.model.now x.plan.now x.state x.e _ told is c.verdict_after.result c.verdict_after.ensures,
      ask-asks x.model.now x.plan.now x.state x.e _ told is c.verdict_after.result c.verdict_after.ensures,
    )
