-- `exchange::which_stands` meets its contract: the first record alone, then the second beside it. Assumes nothing.
use mathlib.Core.Bool.{Bool, cond}
use mathlib.Core.Path.{sym, ap, ◌∙◌}
use Rattle.schedule.specs.Answers.{accepted}
use Rattle.records.proofs.Reading.{told_no, told-yes}
use Rattle.exchange.proofs.AlongLaws.{pair_unright, pair-refused, pair-taken}
use Rattle.exchange.proofs.which_stands.Goals as goal

pub returns-then-not-wrapper_holds : goal.returns-then-not-wrapper_holds
returns-then-not-wrapper_holds c =
    let x = c.args in
    sym (pair_unright x.first.now x.second.now (told_no c.wrapper_holds.ensures c.if-not-wrapper_holds.true))

pub returns-in-Err : goal.returns-in-Err
returns-in-Err c =
    let x = c.args in
    sym (pair-refused x.first.now x.second.now _ _ (told-yes c.wrapper_holds.ensures c.if-not-wrapper_holds.false)
    c.compare.ensures c.in-Err.is)

pub returns-in-Ok-true : goal.returns-in-Ok-true
returns-in-Ok-true c =
    let x = c.args in
    sym (pair-taken x.first.now x.second.now _ _ (told-yes c.wrapper_holds.ensures c.if-not-wrapper_holds.false)
    c.compare.ensures c.in-Ok-true.is
    ∙ ap (λ (b : Bool). cond b (accepted 1) (accepted 0)) c.in-Ok-true.field-0-test)

pub returns-in-Ok-false : goal.returns-in-Ok-false
returns-in-Ok-false c =
    let x = c.args in
    sym (pair-taken x.first.now x.second.now _ _ (told-yes c.wrapper_holds.ensures c.if-not-wrapper_holds.false)
    c.compare.ensures c.in-Ok-false.is
    ∙ ap (λ (b : Bool). cond b (accepted 1) (accepted 0)) c.in-Ok-false.field-0-test)
