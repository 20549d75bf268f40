-- `edits::tried` meets its contract: the form of the records, then the edit's own rules. Assumes nothing.
use Rattle.std.proofs.Common.{rules}
use Rattle.std.specs.Prelude.{◌≡◌, Err}
use mathlib.Core.Path.{ap, ◌∙◌}
use Rattle.edit_rules.specs.declared.Reason.{Reason}
use Rattle.edit_rules.specs.EditNumbers.{edited_numbers}
use Rattle.edits.proofs.StrokeLaws.{records_refused, records_pass}
use Rattle.edits.proofs.tried.Goals as goal

pub returns-in_err-refusal : goal.returns-in_err-refusal
returns-in_err-refusal c =
    let told : c.from_residual.result ≡ Err (Reason.Record c.in_err-refusal.field-0.0) = search rules in
    let x = c.args in
    ap edited_numbers told
    ∙ records_refused x.s.now x.r.now x.e _ c.refusal.ensures _ c.in_err-refusal.was

pub returns : goal.returns
returns c =
    let x = c.args in
    c.rules.ensures
    ∙ records_pass x.s.now x.r.now x.e _ c.refusal.ensures c.in_ok-refusal.was
