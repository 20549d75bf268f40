-- `checked_run::run_checked` meets its contract: demand 3, of what the three calls answered. Assumes nothing.
use Rattle.std.proofs.Common.{rules}
use Rattle.std.specs.Prelude.{◌≡◌, Err}
use mathlib.Core.Path.{sym, ap, ◌∙◌}
use Rattle.schedule.specs.Numbers.{run_numbers}
use Rattle.checked_run.proofs.CheckedLaws.{run-passed, run_sent_back}
use Rattle.checked_run.proofs.run_checked.Goals as goal

pub returns-in_err-written : goal.returns-in_err-written
returns-in_err-written c =
    let told : c.from_residual.result ≡ Err c.in_err-written.field-0.0 = search rules in
    let x = c.args in
    let kept = run_sent_back x.model.now x.choice.now x.out.now _ (λ i _. (c.type_inv.choice i).fits)
    c.run.ensures.1 _ (sym c.run.ensures.0 ∙ ap run_numbers c.in_err-written.was) in
    rw told (record { answered = kept.0; keeps_demand3 = kept.1 })

pub returns : goal.returns
returns c =
    let x = c.args in
    let kept = run-passed x.model.now x.choice.now x.out.now _ (λ i _. (c.type_inv.choice i).fits)
    c.run.ensures.1 _ (sym c.run.ensures.0 ∙ ap run_numbers c.in_ok-written.was) _
    c.check_written.ensures in
    record { answered = kept.0; keeps_demand3 = kept.1 }
