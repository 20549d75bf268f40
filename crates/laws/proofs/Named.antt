-- Rules by their names: where all rules of an order hold, each that it names holds, and back.
-- Assumes nothing.
use mathlib.Core.Bool.{Bool, false, ◌||◌}
use mathlib.Core.List.{List, [], ◌∷◌, ◌++◌}
use mathlib.Core.Logic.{◌⊎◌, inl, inr, ◌↔◌, ⊎_elim}
use mathlib.Core.Path.{◌≡◌, refl, sym, subst, ap}
use lib.Dec.{T, eqb, eqb→eq}
use Rattle.schedule.specs.declared.RuleRefusal.{RuleRefusal}
use Rattle.schedule.specs.Rule.{Rule, Everywhere, AllHold}
use Rattle.schedule.specs.Model.{Model}
use Rattle.schedule.specs.Plan.{Plan}
use Rattle.schedule.specs.Checks.{rule_of, rules_of}
use Rattle.schedule.specs.Numbers.{rule_number}
use Rattle.laws.proofs.Tests.{T_or, T_eqb}
use Rattle.laws.proofs.NumbersLaws.{rule_injective}

-- a name stands in an order
abbrev pub among : RuleRefusal → List RuleRefusal → Bool
among name [] = false
among name (x ∷ xs) = eqb (rule_number name) (rule_number x) || among name xs

-- it stands first, or among the others
among_cons : (name x : RuleRefusal) (xs : List RuleRefusal) → T (among name (x ∷ xs)) ↔ ((name ≡ x) ⊎ T (among name xs))
among_cons name x xs = (
  λ t. ⊎_elim
      (λ (same : T (eqb (rule_number name) (rule_number x))). inl (rule_injective name x (eqb→eq _ _ same)))
      (λ (later : T (among name xs)). inr later)
      ((T_or (eqb (rule_number name) (rule_number x)) (among name xs)).0 t),
  λ h. (T_or (eqb (rule_number name) (rule_number x)) (among name xs)).1 (⊎_elim
      (λ (same : name ≡ x). inl ((T_eqb (rule_number name) (rule_number x)).1 (ap rule_number same)))
      (λ (later : T (among name xs)). inr later)
      h),
)

-- and then in a longer order too
pub among-front : (name : RuleRefusal) (xs ys : List RuleRefusal) → T (among name xs) → T (among name (xs ++ ys))
among-front name [] ys t = absurd t
among-front name (x ∷ xs) ys t = (among_cons name x (xs ++ ys)).1 (⊎_elim
    (λ (same : name ≡ x). inl same)
    (λ (later : T (among name xs)). inr (among-front name xs ys later))
    ((among_cons name x xs).0 t))

module _ (m : Model) (p : Plan) where
  -- where all rules of an order hold, each that it names holds
  pub named : (names : List RuleRefusal) → AllHold (rules_of names m p)
      → (name : RuleRefusal) → T (among name names) → Everywhere (rule_of name m p)
  named [] h name t = absurd t
  named (x ∷ xs) h name t = ⊎_elim
      (λ (same : name ≡ x). subst (λ (y : RuleRefusal). Everywhere (rule_of y m p)) (sym same) h.0)
      (λ (later : T (among name xs)). named xs h.1 name later)
      ((among_cons name x xs).0 t)

  -- and back
  pub all_named : (names : List RuleRefusal)
      → ((name : RuleRefusal) → T (among name names) → Everywhere (rule_of name m p)) → AllHold (rules_of names m p)
  all_named [] h = tt
  all_named (x ∷ xs) h = (
    h x ((among_cons x x xs).1 (inl refl)),
    all_named xs (λ name t. h name ((among_cons name x xs).1 (inr t))),
  )

  -- the rules of two orders, one after the other
  pub rules_of_append : (xs ys : List RuleRefusal) → rules_of (xs ++ ys) m p ≡ rules_of xs m p ++ rules_of ys m p
  rules_of_append [] ys = refl
  rules_of_append (x ∷ xs) ys = ap (λ (l : List Rule). rule_of x m p ∷ l) (rules_of_append xs ys)
