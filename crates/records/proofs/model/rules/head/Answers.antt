-- `model::rules::head` meets its contract: the four rules that come first, then 51.
-- Assumes nothing.
use Rattle.std.proofs.Common.{rules}
use Rattle.std.specs.Prelude.{◌≡◌, Err}
use mathlib.Core.Bool.{Bool}
use mathlib.Core.Option.{none}
use mathlib.Core.Path.{sym, ap, ◌∙◌}
use Rattle.records.specs.Reads.{pass_numbers, pick}
use Rattle.records.proofs.Forms.{model-head, rounds-told}
use Rattle.records.proofs.Reading.{pass_refused, pass_holds}
use Rattle.records.proofs.model.rules.head.Goals as goal

pub returns-in_err-head : goal.returns-in_err-head
returns-in_err-head c =
    let told : c.from_residual.result ≡ Err c.in_err-head.field-0.0 = search rules in
    let form = model-head _ _ _ _ c.counts-one.ensures c.limits_hold.ensures c.formula.ensures in
    ap pass_numbers told ∙ pass_refused _ _ _ _ form c.head.ensures _ c.in_err-head.was

pub returns-then-rounds_hold : goal.returns-then-rounds_hold
returns-then-rounds_hold c =
    let one = c.counts-one.ensures in
    let form = model-head _ _ _ _ one c.limits_hold.ensures c.formula.ensures in
    let rounds = rounds-told _ _ _ _ one c.rounds.ensures c.rounds_hold.ensures in
    sym
    (pass_holds _ _ _ _ form c.head.ensures c.in_ok-head.was
    ∙ rounds
    ∙ ap (λ (t : Bool). pick t 51 none) c.if-rounds_hold.true)

pub returns-else-rounds_hold : goal.returns-else-rounds_hold
returns-else-rounds_hold c =
    let one = c.counts-one.ensures in
    let form = model-head _ _ _ _ one c.limits_hold.ensures c.formula.ensures in
    let rounds = rounds-told _ _ _ _ one c.rounds.ensures c.rounds_hold.ensures in
    c.refused.ensures
    ∙ sym
    (pass_holds _ _ _ _ form c.head.ensures c.in_ok-head.was
    ∙ rounds
    ∙ ap (λ (t : Bool). pick t 51 none) c.if-rounds_hold.false)
