-- What every rule of a list has, its first break has: which numbers the refusals can have.
-- Assumes nothing.
use Prim.Native.Nat.{ℕ, ◌≤◌}
use native.Mathlib.Omega.{arith}
use mathlib.Core.Bool.{false, ◌||◌}
use mathlib.Core.List.{List, [], ◌∷◌, ◌++◌}
use mathlib.Core.Logic.{⊎_elim}
use mathlib.Core.Path.{◌≡◌, subst}
use lib.Dec.{T, eqb, ltb, ltb→lt}
use borrow.Author.Tests.{ne_eqb}
use Rattle.schedule.specs.Rule.{Rule, Refusal, FirstBroken}
use Rattle.schedule.specs.Model.{Model, model_form}
use Rattle.schedule.specs.Choice.{choice_form}
use Rattle.schedule.specs.Plan.{plan_form}
use Rattle.schedule.specs.Opened.{form_rules}
use Rattle.laws.proofs.FirstBreak.{◌&◌}
use Rattle.laws.proofs.Tests.{T_or}

-- every rule of a list has a property
abbrev pub AllRules : (Rule → Type 0) → List Rule → Type 0
AllRules P [] = Unit {0}
AllRules P (r ∷ rs) = P r × AllRules P rs

-- every rule's number has one
abbrev pub AllNumbers : (ℕ → Type 0) → List Rule → Type 0
AllNumbers P rules = AllRules (λ r. P r.number) rules

at_split : (P : Rule → Type 0) (before : List Rule) (rule : Rule) (after : List Rule)
    → AllRules P (before ++ (rule ∷ after)) → P rule
at_split P [] rule after h = h.0
at_split P (r ∷ before) rule after h = at_split P before rule after h.1

pub rules_append : (P : Rule → Type 0) (xs ys : List Rule) → AllRules P xs → AllRules P ys → AllRules P (xs ++ ys)
rules_append P [] ys h k = k
rules_append P (r ∷ xs) ys h k = (h.0, rules_append P xs ys h.1 k)

-- and one that follows from it
pub rules_follow : (P Q : Rule → Type 0) (rules : List Rule) → ((r : Rule) → P r → Q r) → AllRules P rules → AllRules Q rules
rules_follow P Q [] f h = tt
rules_follow P Q (r ∷ rules) f h = (f r h.0, rules_follow P Q rules f h.1)

-- then so has the rule that is broken first
pub first-broken-rule : (P : Rule → Type 0) (rules : List Rule) (x : Refusal)
    → AllRules P rules → (h : FirstBroken rules x) → P h.rule
first-broken-rule P rules x all h =
    at_split P h.before h.rule h.after (subst (AllRules P) h.splits all)

-- and the number of the first break
pub first-broken-number : (P : ℕ → Type 0) (rules : List Rule) (x : Refusal)
    → AllNumbers P rules → FirstBroken rules x → P x.number
first-broken-number P rules x numbers h =
    subst P h.broken.numbered (first-broken-rule (λ r. P r.number) rules x numbers h)

-- the rules of the three records' form have none of the numbers 21 to 43, which are of the checks and of the run
abbrev pub OfForm : ℕ → Type 0
OfForm k = T (ltb k 21 || ltb 43 k)

pub model-numbers : (s : List ℕ) → AllNumbers OfForm (model_form s)
unfolding model_form form_rules
model-numbers s = tt & tt & tt & tt & tt & tt & tt & tt & tt & tt & tt & tt

pub choice-numbers : (m : Model) (q : List ℕ) → AllNumbers OfForm (choice_form m q)
unfolding choice_form form_rules
choice-numbers m q = tt & tt & tt & tt & tt & tt & tt

pub plan-numbers : (m : Model) (r : List ℕ) → AllNumbers OfForm (plan_form m r)
unfolding plan_form form_rules
plan-numbers m r = tt & tt & tt & tt & tt & tt & tt

pub of_form : (k n : ℕ) → OfForm k → 21 ≤ n → n ≤ 43 → eqb k n ≡ false
of_form k n t least most =
    ne_eqb k n (λ e. ⊎_elim
    (λ (below : T (ltb k 21)). omega (arith, e, ltb→lt k 21 below))
    (λ (above : T (ltb 43 k)). omega (arith, e, ltb→lt 43 k above))
    ((T_or (ltb k 21) (ltb 43 k)).0 t))
