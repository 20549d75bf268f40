-- The rules of activities by name, what their code needs, and the rules of a check in the order in which they are tried.
-- Assumes nothing.
use Rattle.std.specs.Prelude.{ℕ, ◌+◌, ◌<◌, Bool, true, false, ◌&&◌, not, List, ◌≡◌, leb, ltb, get_or}
use Rattle.schedule.specs.Bounded.{all, bit, word_of, ◌⇒◌}
use Rattle.schedule.specs.Rule.{Rule}
use Rattle.schedule.specs.Model.{Model}
use Rattle.schedule.specs.Plan.{Plan, active}
use Rattle.schedule.specs.Checks.{rule_of, plain_order, strict_order, plain_rules, strict_rules}
use Rattle.schedule.specs.Answers.{plain_checks, strict_checks}
use Rattle.schedule.specs.declared.ActivityRule.{ActivityRule}
use Rattle.schedule.specs.declared.RuleRefusal.{RuleRefusal}
use Rattle.checks.specs.declared.page.Tables.{Tables}
use Rattle.checks.specs.Tables.{Tabulated}

abbrev pub activity_rule : ActivityRule → Model → Plan → Rule
activity_rule rule = rule_of (RuleRefusal.Activity rule)

-- rule 21's last part: no active tick of a lies outside its window
unfoldable pub none_outside : Model → Plan → ℕ → Bool
none_outside m p a = all m.horizon (λ t. active p t a ⇒ (leb (p.start a) t && ltb t (p.end a)))

-- rules 25 and 26: the predecessors that a start comes too early after, from tables of ends and delays
unfoldable pub early_from : ℕ → ℕ → ℕ → List ℕ → List ℕ → ℕ
early_from preceding start n ends delays =
    word_of n (λ b. not (bit preceding b ⇒ leb (get_or ends b 0 + get_or delays b 0) start))

-- what the rules of activities need: the tables, and those active outside their window
pub record Counted (m : Model) (p : Plan) (outside : ℕ) (tables : Tables) : Type 0 where
  pub tabulated : Tabulated m p tables
  pub strays : (a : ℕ) → a < m.activities → bit outside a ≡ not (none_outside m p a)

-- the order of the plain or the strict check
abbrev pub order_of : Bool → List RuleRefusal
order_of true = strict_order
order_of false = plain_order

-- the rules of the plain or the strict check on a plan, and on two byte strings
abbrev pub grid_rules : Bool → Model → Plan → List Rule
grid_rules true m p = strict_rules m p
grid_rules false m p = plain_rules m p

abbrev pub checks_of : Bool → List ℕ → List ℕ → List Rule
checks_of true s r = strict_checks s r
checks_of false s r = plain_checks s r
