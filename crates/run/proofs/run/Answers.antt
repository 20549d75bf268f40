-- `run::run` meets its contract: the first break of the input rules; past them the outcome counts.
-- Assumes nothing.
use Rattle.std.proofs.Common.{rules}
use Rattle.std.specs.Prelude.{◌≡◌, Err}
use mathlib.Core.Path.{sym, ap, ◌∙◌}
use Rattle.laws.proofs.Formed.{input-holds}
use Rattle.records.specs.Reads.{pass_numbers}
use Rattle.run.proofs.RunLaws.{input-refused, input-passed}
use Rattle.run.proofs.run.Goals as goal

pub returns-in_err-read_both : goal.returns-in_err-read_both
returns-in_err-read_both c =
    let told : c.from_residual.result ≡ Err c.in_err-read_both.field-0.0 = search rules in
    rw told (input-refused _ _ _ _ (sym c.read_both.ensures ∙ ap pass_numbers c.in_err-read_both.was))

pub attempt-requires : goal.attempt-requires
attempt-requires c =
    input-holds _ _ (sym c.read_both.ensures ∙ ap pass_numbers c.in_ok-read_both.was)

pub returns : goal.returns
returns c =
    input-passed _ _ _ _ _ (sym c.read_both.ensures ∙ ap pass_numbers c.in_ok-read_both.was)
    c.attempt.ensures
