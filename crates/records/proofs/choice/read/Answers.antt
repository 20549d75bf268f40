-- `choice::read` meets its contract: the first pass that is refused gives the answer.
-- Assumes nothing.
use Rattle.std.proofs.Common.{rules}
use Rattle.std.specs.Prelude.{◌≡◌, Err}
use mathlib.Core.Path.{sym, ap, ◌∙◌}
use Rattle.records.specs.Reads.{pass_numbers}
use Rattle.records.proofs.Forms.{choice-form}
use Rattle.records.proofs.Reading.{pass_holds, pass_refused}
use Rattle.records.proofs.choice.read.Goals as goal

pub returns-in_err-second_head : goal.returns-in_err-second_head
returns-in_err-second_head c =
    let told : c.from_residual.result ≡ Err c.in_err-second_head.field-0.0 = search rules in
    let form = choice-form _ _ _ c.formula.ensures in
    ap pass_numbers told ∙ pass_refused _ _ _ _ form (rw c.counts_hold.ensures at c.second_head.ensures) _ c.in_err-second_head.was

pub returns-in_err-over_timings : goal.returns-in_err-over_timings
returns-in_err-over_timings c =
    let told : c.from_residual-in_err-over_timings.result ≡ Err c.in_err-over_timings.field-0.0 = search rules in
    let form = choice-form _ _ _ c.formula.ensures in
    let rows = pass_holds _ _ _ _ form (rw c.counts_hold.ensures at c.second_head.ensures) c.in_ok-second_head.was in
    ap pass_numbers told ∙ pass_refused _ _ _ _ rows c.over_timings.ensures _ c.in_err-over_timings.was

pub returns : goal.returns
returns c =
    let form = choice-form _ _ _ c.formula.ensures in
    let rows = pass_holds _ _ _ _ form (rw c.counts_hold.ensures at c.second_head.ensures) c.in_ok-second_head.was in
    c.over_durations.ensures ∙ sym (pass_holds _ _ _ _ rows c.over_timings.ensures c.in_ok-over_timings.was)
