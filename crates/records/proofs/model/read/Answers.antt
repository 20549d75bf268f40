-- `model::read` meets its contract: the first pass that is refused gives the answer.
-- Assumes nothing.
use Rattle.std.proofs.Common.{rules}
use Rattle.std.specs.Prelude.{◌≡◌, Err}
use mathlib.Core.Path.{sym, ap, ◌∙◌}
use Rattle.records.specs.Reads.{model_read_numbers}
use Rattle.records.proofs.Forms.{model-form}
use Rattle.records.proofs.Reading.{pass_refused, pass_holds, last_refused, last_holds, answer-refused, answer-accepted}
use Rattle.records.proofs.model.read.Goals as goal

pub returns-in_err-head : goal.returns-in_err-head
returns-in_err-head c =
    let told : c.from_residual.result ≡ Err c.in_err-head.field-0.0 = search rules in
    ap model_read_numbers told
    ∙ answer-refused _ _ _ (pass_refused _ _ _ _ (model-form _) c.head.ensures _ c.in_err-head.was)

pub returns-in_err-row_rules : goal.returns-in_err-row_rules
returns-in_err-row_rules c =
    let told : c.from_residual-in_err-row_rules.result ≡ Err c.in_err-row_rules.field-0.0 = search rules in
    let rows = pass_holds _ _ _ _ (model-form _) c.head.ensures c.in_ok-head.was in
    ap model_read_numbers told
    ∙ answer-refused _ _ _ (last_refused _ _ (c.row_rules.ensures ∙ sym rows) _ c.in_err-row_rules.was)

pub returns : goal.returns
returns c =
    let rows = pass_holds _ _ _ _ (model-form _) c.head.ensures c.in_ok-head.was in
    answer-accepted _ _ _ (last_holds _ _ (c.row_rules.ensures ∙ sym rows) c.in_ok-row_rules.was)
    c.counts.ensures
