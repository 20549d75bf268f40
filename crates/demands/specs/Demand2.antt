-- Demand 2 as statements on records: what the two checks decide, of a model that meets its form rules with a plan that is
-- well-formed for it, and of any two byte strings; and what the form rules in front of them decide.
-- Assumes nothing.
use Rattle.std.specs.Prelude.{ℕ, ◌*◌, List, ◌↔◌, ◌≡◌}
use Rattle.std.proofs.Math.Option.{some, none}
use Rattle.schedule.specs.Bounded.{total}
use Rattle.schedule.specs.Rule.{Rule, Refusal, first_break, AllHold, FirstBroken}
use Rattle.schedule.specs.Model.{Model, model, model_form}
use Rattle.schedule.specs.Choice.{choice_form}
use Rattle.schedule.specs.Plan.{Plan, plan, plan_form}
use Rattle.schedule.specs.Checks.{count_of, plain_rules, strict_rules}
use Rattle.schedule.specs.Keeps.{KeepsPlain, KeepsStrict}
use Rattle.schedule.specs.Answers.{Answer, accepted, refused, Figures, figures, MeetsForm, WellFormed}
use Rattle.schedule.specs.Answers.{plain_checks, strict_checks, plain_verdict, strict_verdict}

-- What a check decides: `Keeps` is what has to hold, `rules` are the rules that say so, in the order in which they are tried, and
-- `counted` are the figures of what passes.
pub record Decides (said : Answer Figures) (Keeps : Type 0) (rules : List Rule) (counted : Figures) : Type 1 where
  -- it "passes .. exactly when" that holds, and answers these figures and no others
  pub passes : (f : Figures) → (said ≡ accepted f) ↔ (Keeps × (counted ≡ f))
  -- "otherwise it names the first broken rule and place"
  pub otherwise : ¬ Keeps → (x : Refusal) × ((said ≡ refused x) × FirstBroken rules x)
  -- and it names no other: it is refused with a number, A and B exactly where these are the first break
  pub names : (x : Refusal) → (said ≡ refused x) ↔ FirstBroken rules x

-- "Usage is counted from the words": the ticks in whose words an activity stands, as often as it takes cores (U7 of 02)
abbrev pub counted_usage : Model → Plan → ℕ
counted_usage m p = total m.activities (λ a. count_of m p a * m.width a)

-- The plain check of a model and a plan.
pub record PlainCheck (s r : List ℕ) : Type 1 where
  -- it decides "every single-interval rule" as Keeps writes them out: 21 to 29 without 24, which 21 implies (U11 of 02), 23 with
  -- the deadline counted from the release (U2), 28 and 29 with widths (U7)
  pub decides : Decides (plain_verdict s r) (KeepsPlain (model s) (plan r)) (plain_rules (model s) (plan r))
      (figures (model s) (plan r))
  pub usage : (f : Figures) → plain_verdict s r ≡ accepted f → f.usage ≡ counted_usage (model s) (plan r)

-- Demand 2, whole: for a model that meets its form rules and a plan that is well-formed for it
abbrev pub Demand2 : Type 1
Demand2 = (s r : List ℕ) → MeetsForm s → WellFormed s r → PlainCheck s r

-- the strict check decides 21 to 31 likewise
abbrev pub StrictCheck : Type 1
StrictCheck = (s r : List ℕ) → MeetsForm s → WellFormed s r
    → Decides (strict_verdict s r) (KeepsStrict (model s) (plan r)) (strict_rules (model s) (plan r)) (figures (model s) (plan r))

-- Of any two byte strings: what is decided is every form rule of the two records and then the rules of the check.
pub record AnyBytes (s r : List ℕ) : Type 1 where
  pub plain : Decides (plain_verdict s r) (AllHold (plain_checks s r)) (plain_checks s r) (figures (model s) (plan r))
  pub strict : Decides (strict_verdict s r) (AllHold (strict_checks s r)) (strict_checks s r) (figures (model s) (plan r))

abbrev pub OfAnyBytes : Type 1
OfAnyBytes = (s r : List ℕ) → AnyBytes s r

-- one check beside the other: what passes the strict check passes the plain one with the same figures, and what the plain check
-- refuses the strict one refuses with the same number, A and B
pub record BothChecks (s r : List ℕ) : Type 0 where
  pub passed : (f : Figures) → strict_verdict s r ≡ accepted f → plain_verdict s r ≡ accepted f
  pub refused_alike : (x : Refusal) → plain_verdict s r ≡ refused x → strict_verdict s r ≡ refused x

abbrev pub OfBothChecks : Type 0
OfBothChecks = (s r : List ℕ) → BothChecks s r

-- what the form rules of a record decide: it passes exactly where they hold, and is refused exactly with the first break
pub record FormDecides (rules : List Rule) : Type 1 where
  pub passes : (first_break rules ≡ none) ↔ AllHold rules
  pub names : (x : Refusal) → (first_break rules ≡ some x) ↔ FirstBroken rules x

pub record FormsDecide : Type 1 where
  pub of_model : (s : List ℕ) → FormDecides (model_form s)
  pub of_choice : (m : Model) (q : List ℕ) → FormDecides (choice_form m q)
  pub of_plan : (m : Model) (r : List ℕ) → FormDecides (plan_form m r)
