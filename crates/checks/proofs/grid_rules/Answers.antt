use Rattle.std.proofs.Common.{rules}
use Rattle.std.specs.Prelude.{◌≡◌, Err}
use Rattle.records.specs.Reads.{pass_numbers}
use mathlib.Core.List.{List}
use mathlib.Core.Path.{sym, ap, ◌∙◌}
use Rattle.schedule.specs.Rule.{Rule, first_break}
use Rattle.schedule.specs.declared.RuleRefusal.{RuleRefusal}
use Rattle.schedule.specs.Model.{model}
use Rattle.schedule.specs.Plan.{plan}
use Rattle.schedule.specs.Checks.{rule_of}
use Rattle.laws.proofs.Ranges.{width_lt}
use Rattle.records.proofs.Orders.{untried, order_stops, order_goes_on, order-ends}
use Rattle.checks.proofs.RuleOrder.{in_order}
use Rattle.checks.proofs.grid_rules.Goals as goal

pub loop-rule-init : goal.loop-rule-init
loop-rule-init c =
    let x = c.args in
    let rules : RuleRefusal → Rule = λ name. rule_of name (model x.s.now) (plan x.r.now) in
    ap (λ (order : List RuleRefusal). untried rules order 0) c.order-rule-items.ensures
    ∙ ap first_break (in_order x.strict (model x.s.now) (plan x.r.now))

pub invariant_of-page : goal.invariant_of-page
invariant_of-page c = record {
  counted = record { tabulated = c.tabulate-tables.ensures; strays = c.strays.ensures };
  narrow = width_lt c.args.s.now (λ i _. (c.type_inv.s i).fits);
  widths_read = c.widths_of.ensures;
}

pub returns-in_err-over : goal.returns-in_err-over
returns-in_err-over c =
    let told : c.from_residual.result ≡ Err c.in_err-over.field-0.0 = search rules in
    let x = c.args in
    let l = c.loop-rule in
    let rules : RuleRefusal → Rule = λ name. rule_of name (model x.s.now) (plan x.r.now) in
    ap pass_numbers (told ∙ sym c.in_err-over.was)
    ∙ order_stops rules c.order-rule-items.result.now l.rule-index _ c.loop-rule-test.true _ c.over.ensures _ c.in_err-over.was
    ∙ l.invariant

pub loop-rule-preserved : goal.loop-rule-preserved
loop-rule-preserved c =
    let x = c.args in
    let l = c.loop-rule in
    let rules : RuleRefusal → Rule = λ name. rule_of name (model x.s.now) (plan x.r.now) in
    order_goes_on rules c.order-rule-items.result.now l.rule-index _ c.loop-rule-test.true _ c.over.ensures c.in_ok-over.was
    ∙ l.invariant

pub returns : goal.returns
returns c =
    let x = c.args in
    let l = c.loop-rule in
    let rules : RuleRefusal → Rule = λ name. rule_of name (model x.s.now) (plan x.r.now) in
    sym (order-ends rules c.order-rule-items.result.now l.rule-index c.loop-rule-test.false) ∙ l.invariant
