-- `edits::apply_with` meets its contract: the edit, and behind an unrefused one nothing is asked. Assumes nothing.
use mathlib.Core.Path.{sym, ap, ◌∙◌}
use Rattle.edit_rules.specs.EditNumbers.{edited_numbers}
use Rattle.edits.proofs.StrokeLaws.{is_done}
use Rattle.edits.proofs.StateLaws.{state_stays, state_moves}
use Rattle.edits.proofs.apply_with.Goals as goal

pub returns-in-Err : goal.returns-in-Err
returns-in-Err c =
    let x = c.args in
    let told = c.apply.ensures.0 in
    let is = c.in-Err.is in (
      sym (ap edited_numbers is) ∙ told,
      state_stays x.s.now x.r.now x.state x.e _ told _ is,
      c.apply.ensures.1,
    )

pub returns-in-Ok : goal.returns-in-Ok
returns-in-Ok c =
    let x = c.args in
    let told = c.apply.ensures.0 in
    let is = c.in-Ok.is in (
      sym (is_done x.s.now x.r.now x.e _ told is),
      c.begin.ensures ∙ state_moves x.s.now x.r.now x.state x.e _ told is,
      c.apply.ensures.1,
    )
