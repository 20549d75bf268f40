-- `records::choice::read_both` meets its contract: the model's refusal, or the choice's.
-- Assumes nothing.
use Rattle.std.proofs.Common.{rules}
use Rattle.std.specs.Prelude.{◌≡◌, Err}
use mathlib.Core.Path.{sym, ap, ◌∙◌}
use Rattle.laws.proofs.VerdictLaws.{model_breaks, model-holds}
use Rattle.records.specs.Reads.{model_read_numbers, pass_numbers}
use Rattle.records.proofs.Reading.{answer-refuses, answer-accepts}
use Rattle.records.proofs.choice.read_both.Goals as goal

pub returns-in_err-read : goal.returns-in_err-read
returns-in_err-read c =
    let told : c.from_residual.result ≡ Err c.in_err-read.field-0.0 = search rules in
    ap pass_numbers told
    ∙ sym (model_breaks _ _ _
    (answer-refuses _ _ _ (sym (ap model_read_numbers c.in_err-read.was) ∙ c.read.ensures)))

pub returns : goal.returns
returns c =
    c.read-2.ensures
    ∙ sym (model-holds _ _ (answer-accepts _ _ _ (sym (ap model_read_numbers c.in_ok-read.was) ∙ c.read.ensures)))
