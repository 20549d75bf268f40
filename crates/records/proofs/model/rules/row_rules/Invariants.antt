-- `model::rules::row_rules` meets its contract: the rules tried hold, and those that are left decide.
-- Assumes nothing.
use mathlib.Core.Path.{◌≡◌}
use Rattle.schedule.specs.Rule.{first_break}
use Rattle.schedule.specs.Model.{page, row_rule, row_order, row_rules}
use Rattle.records.proofs.Orders.{untried}
use Rattle.records.proofs.model.rules.row_rules.Given as goal

abbrev pub invariant-loop-rule : goal.invariant-loop-rule
invariant-loop-rule l = untried (λ rule. row_rule rule (page l.s)) row_order l.rule-index ≡ first_break (row_rules (page l.s))
