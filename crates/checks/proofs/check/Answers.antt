-- `checks::check` meets its contract: the records' rules, then those of the plan, and the figures of a pass. Assumes nothing.
use Rattle.std.proofs.Common.{rules}
use Rattle.std.specs.Prelude.{◌≡◌, Result, Err}
use mathlib.Core.Path.{sym, ap, ◌∙◌}
use Rattle.schedule.specs.Model.{model}
use Rattle.schedule.specs.Plan.{plan}
use Rattle.schedule.specs.Answers.{accepted, answer, figures}
use Rattle.schedule.specs.Numbers.{verdict_numbers}
use Rattle.schedule.specs.declared.Refusal.{Refusal}
use Rattle.laws.proofs.Formed.{model-says}
use Rattle.records.specs.Reads.{pass_numbers}
use Rattle.checks.proofs.CheckLaws.{model_stops, model-formed, plan_stops, rules-answer}
use Rattle.checks.proofs.check.Goals as goal

pub returns-in_err-read : goal.returns-in_err-read
returns-in_err-read c =
    let told : c.from_residual.result ≡ Err c.in_err-read.field-0.0 = search rules in
    let x = c.args in
    ap verdict_numbers told ∙ model_stops x.strict x.s.now x.r.now _ _ c.in_err-read.was c.read.ensures

pub returns-in_err-read-2 : goal.returns-in_err-read-2
returns-in_err-read-2 c =
    let told : c.from_residual-in_err-read-2.result ≡ Err c.in_err-read-2.field-0.0 = search rules in
    let x = c.args in
    ap verdict_numbers told
    ∙ plan_stops x.strict x.s.now x.r.now _ _ c.in_ok-read.was c.read.ensures _ _ c.in_err-read-2.was c.read-2.ensures

pub grid_rules-requires : goal.grid_rules-requires
grid_rules-requires c =
    let x = c.args in
    model-says x.s.now (model-formed x.strict x.s.now x.r.now _ _ c.in_ok-read.was c.read.ensures)

pub returns-in_err-grid_rules : goal.returns-in_err-grid_rules
unfolding answer
returns-in_err-grid_rules c =
    let told : c.from_residual-in_err-grid_rules.result ≡ Err c.in_err-grid_rules.field-0.0 = search rules in
    let x = c.args in
    ap verdict_numbers told
    ∙ ap (λ (q : Result (Unit {0}) Refusal). answer (pass_numbers q) (figures (model x.s.now) (plan x.r.now))) (sym c.in_err-grid_rules.was)
    ∙ rules-answer x.strict x.s.now x.r.now _ _ c.in_ok-read.was c.read.ensures _ c.in_ok-read-2.was
    c.read-2.ensures c.grid_rules.result c.grid_rules.ensures

pub returns : goal.returns
unfolding answer
returns c =
    let x = c.args in
    ap accepted c.figures.ensures
    ∙ ap (λ (q : Result (Unit {0}) Refusal). answer (pass_numbers q) (figures (model x.s.now) (plan x.r.now))) (sym c.in_ok-grid_rules.was)
    ∙ rules-answer x.strict x.s.now x.r.now _ _ c.in_ok-read.was c.read.ensures _ c.in_ok-read-2.was
    c.read-2.ensures c.grid_rules.result c.grid_rules.ensures
