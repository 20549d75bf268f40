use Rattle.std.proofs.Common.{rules}
use native.Mathlib.Omega.{arith}
use mathlib.Core.Path.{◌≡◌, sym, ap, ◌∙◌}
use Rattle.std.specs.Prelude.{Err}
use Rattle.schedule.specs.Model.{page, row_rule, row_order}
use Rattle.schedule.specs.declared.RowRule.{RowRule}
use Rattle.records.specs.Reads.{pass_numbers}
use Rattle.records.proofs.Orders.{order_stops, order_goes_on, order-ends}
use Rattle.records.proofs.model.rules.row_rules.Goals as goal

pub returns-in_err-over_rows : goal.returns-in_err-over_rows
returns-in_err-over_rows c =
    let told : c.from_residual.result ≡ Err c.in_err-over_rows.field-0.0 = search rules in
    let s = c.args.s.now in
    ap pass_numbers (told ∙ sym c.in_err-over_rows.was)
    ∙ order_stops (λ rule. row_rule rule (page s)) row_order c.loop-rule.rule-index RowRule.Thread (omega (arith, c.loop-rule-test.true)) _
    c.over_rows.ensures _ c.in_err-over_rows.was
    ∙ c.loop-rule.invariant

pub loop-rule-preserved : goal.loop-rule-preserved
loop-rule-preserved c =
    order_goes_on (λ rule. row_rule rule (page c.args.s.now)) row_order c.loop-rule.rule-index RowRule.Thread
    (omega (arith, c.loop-rule-test.true)) _
    c.over_rows.ensures c.in_ok-over_rows.was
    ∙ c.loop-rule.invariant

pub returns : goal.returns
returns c =
    let l = c.loop-rule in
    let p = page c.args.s.now in
    sym (order-ends (λ rule. row_rule rule p) row_order l.rule-index (omega (arith, c.loop-rule-test.false))) ∙ l.invariant
