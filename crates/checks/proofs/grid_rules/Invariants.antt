-- `checks::grid_rules` meets its contract: the rules tried hold, and those that are left decide. Assumes nothing.
use mathlib.Core.Path.{◌≡◌}
use Rattle.schedule.specs.Rule.{first_break}
use Rattle.schedule.specs.Model.{model}
use Rattle.schedule.specs.Plan.{plan}
use Rattle.schedule.specs.Checks.{rule_of}
use Rattle.records.proofs.Orders.{untried}
use Rattle.checks.specs.Rules.{grid_rules}
use Rattle.checks.proofs.grid_rules.Given as goal

abbrev pub invariant-loop-rule : goal.invariant-loop-rule
invariant-loop-rule l =
    untried (λ name. rule_of name (model l.s) (plan l.r)) l.rule-items l.rule-index
    ≡ first_break (grid_rules l.strict (model l.s) (plan l.r))
