-- The first broken rule, as computed from the tests, is the first broken rule of the paper's statements, wherever each
-- test decides its statement.
-- Assumes nothing.
use Prim.Native.Nat.{ℕ, zero, suc, ◌<◌}
use native.Mathlib.Omega.{arith}
use mathlib.Core.Bool.{Bool, true, false, cond}
use mathlib.Core.List.{List, [], ◌∷◌, ◌++◌}
use mathlib.Core.Logic.Iff
use mathlib.Core.Logic.{◌⊎◌, inl, inr, ◌↔◌, ⊎_elim}
use mathlib.Core.Option.{Option, some, none, some-ne-none, none-ne-some, some-injective}
use mathlib.Core.Path.{◌≡◌, refl, sym, ◌∙◌, ap, ap₂, subst}
use lib.Dec.{T, eqb}
use Rattle.schedule.specs.Bounded.{first}
use Rattle.schedule.specs.Rule.{Rule, Refusal, break, first_break, Everywhere, AllHold, BrokenAt, FirstBroken}
use Rattle.laws.proofs.Tests.{below_suc, up_to}

infixr 4 ◌&◌
-- the first of two that is something
abbrev pub or_else {ℓ} : {A : Type ℓ} → Option A → Option A → Option A
or_else o p = elim o [ some x ↦ some x | none ↦ p ]

orElse_none {ℓ} : {A : Type ℓ} (o p : Option A) → (or_else o p ≡ none) ↔ ((o ≡ none) × (p ≡ none))
orElse_none none p = (λ e. (refl, e), λ h. h.1)
orElse_none (some y) p = (λ e. absurd (some-ne-none y e), λ h. h.0)

orElse-some {ℓ} : {A : Type ℓ} (o p : Option A) (x : A)
    → (or_else o p ≡ some x) ↔ ((o ≡ some x) ⊎ ((o ≡ none) × (p ≡ some x)))
orElse-some none p x = (λ e. inr (refl, e), ⊎_elim (λ e. absurd (none-ne-some x e)) (λ h. h.1))
orElse-some (some y) p x = (λ e. inl e, ⊎_elim (λ e. e) (λ h. absurd (some-ne-none y h.0)))

-- there is no first exactly where there is none at all
pub first-none {ℓ} : {A : Type ℓ} (n : ℕ) (f : ℕ → Option A)
    → (first n f ≡ none) ↔ ((i : ℕ) → i < n → f i ≡ none)
unfolding first
first-none zero f = (λ _ i h. absurd (omega arith), λ _. refl)
first-none (suc n) f = (there (first-none n f).0, back (first-none n f).1)
  where
    there : (first n f ≡ none → (i : ℕ) → i < n → f i ≡ none)
        → or_else (first n f) (f n) ≡ none → (i : ℕ) → i < suc n → f i ≡ none
    there ih e =
        let both = (orElse_none (first n f) (f n)).0 e in
        up_to (λ i. f i ≡ none) n (ih both.0) both.1

    back : (((i : ℕ) → i < n → f i ≡ none) → first n f ≡ none)
        → ((i : ℕ) → i < suc n → f i ≡ none) → or_else (first n f) (f n) ≡ none
    back ih h = (orElse_none (first n f) (f n)).1 (ih (λ i l. h i (omega arith)), h n (omega arith))

-- x is found at place i below n, and nothing before
pub record FoundAt {ℓ} {A : Type ℓ} (n : ℕ) (f : ℕ → Option A) (x : A) (i : ℕ) : Type ℓ where
  pub below : i < n
  pub found : f i ≡ some x
  pub earlier : (j : ℕ) → j < i → f j ≡ none

-- x is the first exactly where it is found at some place, and nothing before
pub first_some {ℓ} : {A : Type ℓ} (n : ℕ) (f : ℕ → Option A) (x : A)
    → (first n f ≡ some x) ↔ ((i : ℕ) × FoundAt n f x i)
unfolding first
first_some zero f x = (λ e. absurd (none-ne-some x e), λ h. absurd (let l = h.1.below in omega arith))
first_some (suc n) f x = (there (first_some n f x).0, back (first_some n f x).1)
  where
    there : (first n f ≡ some x → (i : ℕ) × FoundAt n f x i)
        → or_else (first n f) (f n) ≡ some x → (i : ℕ) × FoundAt (suc n) f x i
    there ih e = ⊎_elim
        (λ (s : first n f ≡ some x).
        let h = ih s in
        let l = h.1.below in
        (h.0, record { below = omega arith; found = h.1.found; earlier = h.1.earlier }))
        (λ (s : (first n f ≡ none) × (f n ≡ some x)).
        (n, record { below = omega arith; found = s.1; earlier = (first-none n f).0 s.0 }))
        ((orElse-some (first n f) (f n) x).0 e)

    back : (((i : ℕ) × FoundAt n f x i) → first n f ≡ some x)
        → ((i : ℕ) × FoundAt (suc n) f x i) → or_else (first n f) (f n) ≡ some x
    back ih h = (orElse-some (first n f) (f n) x).1 (⊎_elim
        (λ (l : h.0 < n). inl (ih (h.0, record { below = l; found = h.1.found; earlier = h.1.earlier })))
        (λ (e : h.0 ≡ n). inr
        ((first-none n f).1 (λ j l. h.1.earlier j (omega arith)), subst (λ i. f i ≡ some x) e h.1.found))
        (below_suc h.0 n h.1.below))

-- the first depends only on what stands at the places
pub first_ext {ℓ} : {A : Type ℓ} (n : ℕ) (f g : ℕ → Option A) → ((i : ℕ) → i < n → f i ≡ g i) → first n f ≡ first n g
unfolding first
first_ext zero f g e = refl
first_ext (suc n) f g e = ap₂ or_else (first_ext n f g (λ i l. e i (omega arith))) (e n (omega arith))

-- a rule's test decides what the rule says, at every place
abbrev pub Sound : Rule → Type 0
Sound r = (a b : ℕ) → T (r.test a b) ↔ r.Holds a b

-- the same of each rule of a list
abbrev pub AllSound : List Rule → Type 0
AllSound [] = Unit {0}
AllSound (r ∷ rs) = Sound r × AllSound rs

-- a proof about the first rule of a list, and one about the others
abbrev pub ◌&◌ {ℓ ℓ'} : {A : Type ℓ} {B : Type ℓ'} → A → B → A × B
a & b = (a, b)

-- what a place of a rule answers: nothing where the test passes
abbrev place : Rule → ℕ → ℕ → Option Refusal
place r a b = cond (r.test a b) none (some (record { number = r.number; A = a; B = b }))

passes {ℓ} : {A : Type ℓ} (t : Bool) (x : A) → (cond t none (some x) ≡ none) ↔ T t
passes true x = (λ _. tt, λ _. refl)
passes false x = (some-ne-none x, λ t. absurd t)

gives {ℓ} : {A : Type ℓ} (t : Bool) (x y : A) → (cond t none (some x) ≡ some y) ↔ ((¬ T t) × (x ≡ y))
gives true x y = (λ e. absurd (none-ne-some y e), λ h. absurd (h.0 tt))
gives false x y = (λ e. (λ t. t, some-injective x y e), λ h. ap {B = Option _} some h.1)

-- two rules of one number have the same break where their tests agree at each of their places
pub break-same : (x y : Rule) → x.number ≡ y.number → x.rows ≡ y.rows → x.columns ≡ y.columns
    → ((a b : ℕ) → a < x.rows → b < x.columns → x.test a b ≡ y.test a b) → break x ≡ break y
unfolding break
break-same x y number rows columns tests =
    first_ext x.rows _ _ (λ a la. first_ext x.columns (place x a) (place y a) (λ b lb.
    ap₂ (λ (t : Bool) (k : ℕ). cond t none (some (record { number = k; A = a; B = b }))) (tests a b la lb) number))
    ∙ ap₂ (λ m n. first m (λ a. first n (place y a))) rows columns

-- a rule has no break exactly where it holds at each of its places
pub break-none : (r : Rule) → Sound r → (break r ≡ none) ↔ Everywhere r
unfolding break
break-none r s = (there, back)
  where
    there : first r.rows (λ a. first r.columns (place r a)) ≡ none → Everywhere r
    there e a b la lb =
        let row = (first-none r.rows (λ a. first r.columns (place r a))).0 e a la in
        (s a b).0 ((passes (r.test a b) _).0 ((first-none r.columns (place r a)).0 row b lb))

    back : Everywhere r → first r.rows (λ a. first r.columns (place r a)) ≡ none
    back h =
        (first-none r.rows (λ a. first r.columns (place r a))).1 (λ a la.
        (first-none r.columns (place r a)).1 (λ b lb.
        (passes (r.test a b) _).1 ((s a b).1 (h a b la lb))))

-- a rule's break is a refusal exactly where the rule is broken first at the refusal's place
pub break-some : (r : Rule) (x : Refusal) → Sound r → (break r ≡ some x) ↔ BrokenAt r x
unfolding break
break-some r x s = (there, back)
  where
    row : ℕ → Option Refusal
    row a = first r.columns (place r a)

    holds : (a b : ℕ) → place r a b ≡ none → r.Holds a b
    holds a b e = (s a b).0 ((passes (r.test a b) _).0 e)

    rows_hold : (a b : ℕ) → row a ≡ none → b < r.columns → r.Holds a b
    rows_hold a b e l = holds a b ((first-none r.columns (place r a)).0 e b l)

    at_place : (a b : ℕ) → FoundAt r.rows row x a → FoundAt r.columns (place r a) x b
        → ◌≡◌ {A = Refusal} (record { number = r.number; A = a; B = b }) x → ¬ T (r.test a b) → BrokenAt r x
    at_place a b in_row in_column e f =
        let e_a : a ≡ x.A = ap (λ (y : Refusal). y.A) e in
        let e_b : b ≡ x.B = ap (λ (y : Refusal). y.B) e in
        let la = in_row.below in
        let lb = in_column.below in
        record {
          numbered = ap (λ (y : Refusal). y.number) e;
          in_row = omega arith;
          in_column = omega arith;
          earlier_places = λ i j li lj. ⊎_elim
              (λ (l : i < x.A). rows_hold i j (in_row.earlier i (omega arith)) lj)
              (λ (h : (i ≡ x.A) × (j < x.B)).
              let same : a ≡ i = omega arith in
              let before = h.1 in
              subst (λ k. r.Holds k j) same (holds a j (in_column.earlier j (omega arith))));
          fails = λ h. f ((s a b).1 (subst (λ k. r.Holds k b) (sym e_a) (subst (r.Holds x.A) (sym e_b) h)));
        }

    there : first r.rows row ≡ some x → BrokenAt r x
    there e =
        let outer = (first_some r.rows row x).0 e in
        let inner = (first_some r.columns (place r outer.0) x).0 outer.1.found in
        let given = (gives (r.test outer.0 inner.0) _ x).0 inner.1.found in
        at_place outer.0 inner.0 outer.1 inner.1 given.1 given.0

    passing : (a b : ℕ) → r.Holds a b → place r a b ≡ none
    passing a b h = (passes (r.test a b) _).1 ((s a b).1 h)

    back : BrokenAt r x → first r.rows row ≡ some x
    back h = (first_some r.rows row x).1 (
      x.A,
      record {
        below = h.in_row;
        found = (first_some r.columns (place r x.A) x).1 (
          x.B,
          record {
            below = h.in_column;
            found = (gives (r.test x.A x.B) _ x).1
                (λ t. h.fails ((s x.A x.B).0 t), λ i. record { number = h.numbered i; A = x.A; B = x.B });
            earlier = λ b l. passing x.A b
                (let in_column = h.in_column in
                h.earlier_places x.A b h.in_row (omega arith) (inr (refl, l)));
          },
        );
        earlier = λ a l. (first-none r.columns (place r a)).1 (λ b lb. passing a b
            (let in_row = h.in_row in
            h.earlier_places a b (omega arith) lb (inl l)));
      },
    )

-- no rule of a list is broken exactly where all of them hold
pub none_iff : (rules : List Rule) → AllSound rules → (first_break rules ≡ none) ↔ AllHold rules
unfolding first_break
none_iff [] s = (λ _. tt, λ _. refl)
none_iff (r ∷ rs) s =
    Iff.trans (orElse_none (break r) (first_break rs)) (Iff.and (break-none r s.0) (none_iff rs s.1))

-- where the first of two lists has no break, the first break is the second's
pub append_none : (xs ys : List Rule) → first_break xs ≡ none → first_break (xs ++ ys) ≡ first_break ys
unfolding first_break
append_none [] ys e = refl
append_none (r ∷ xs) ys e = after (append_none xs ys) ((orElse_none (break r) (first_break xs)).0 e)
  where
    after : (first_break xs ≡ none → first_break (xs ++ ys) ≡ first_break ys)
        → (break r ≡ none) × (first_break xs ≡ none)
        → or_else (break r) (first_break (xs ++ ys)) ≡ first_break ys
    after ih both = ap (λ o. or_else o (first_break (xs ++ ys))) both.0 ∙ ih both.1

-- where the first of two lists has a break, that is the first break
pub append_some : (xs ys : List Rule) (x : Refusal) → first_break xs ≡ some x → first_break (xs ++ ys) ≡ some x
unfolding first_break
append_some [] ys x e = absurd (none-ne-some x e)
append_some (r ∷ xs) ys x e = after (append_some xs ys x) ((orElse-some (break r) (first_break xs) x).0 e)
  where
    after : (first_break xs ≡ some x → first_break (xs ++ ys) ≡ some x)
        → (break r ≡ some x) ⊎ ((break r ≡ none) × (first_break xs ≡ some x))
        → or_else (break r) (first_break (xs ++ ys)) ≡ some x
    after ih = ⊎_elim
        (λ b. (orElse-some (break r) (first_break (xs ++ ys)) x).1 (inl b))
        (λ b. (orElse-some (break r) (first_break (xs ++ ys)) x).1 (inr (b.0, ih b.1)))

regroup : {A B C D : Type 0} → A ↔ (B × C) → (D × A) ↔ ((D × B) × C)
regroup h = (λ p. ((p.0, (h.0 p.1).0), (h.0 p.1).1), λ p. (p.0.0, h.1 (p.0.1, p.1)))

-- what is said of each rule of two lists is said of each list
pub sound_append : (xs ys : List Rule) → AllSound (xs ++ ys) ↔ (AllSound xs × AllSound ys)
sound_append [] ys = (λ h. (tt, h), λ h. h.1)
sound_append (r ∷ xs) ys = regroup (sound_append xs ys)

pub hold_append : (xs ys : List Rule) → AllHold (xs ++ ys) ↔ (AllHold xs × AllHold ys)
hold_append [] ys = (λ h. (tt, h), λ h. h.1)
hold_append (r ∷ xs) ys = regroup (hold_append xs ys)

-- one statement or another, by a test
abbrev Picked : Bool → Type 0 → Type 0 → Type 0
Picked true P Q = P
Picked false P Q = Q

-- what the rule of a list says that has a number, and nothing where none has it
abbrev pub Says : ℕ → List Rule → Type 0
Says number [] = Unit {0}
Says number (r ∷ rs) = Picked (eqb r.number number) (Everywhere r) (Says number rs)

picked : (t : Bool) (P Q : Type 0) → P → Q → Picked t P Q
picked true P Q p q = p
picked false P Q p q = q

-- where all rules of a list hold, so does the one with that number
pub says : (number : ℕ) (rules : List Rule) → AllHold rules → Says number rules
says number [] h = tt
says number (r ∷ rs) h = picked (eqb r.number number) (Everywhere r) (Says number rs) h.0 (says number rs h.1)

found : (rules : List Rule) (x : Refusal) → AllSound rules → first_break rules ≡ some x → FirstBroken rules x
unfolding first_break
found [] x s e = absurd (none-ne-some x e)
found (r ∷ rs) x s e = ⊎_elim here (there (found rs x s.1)) ((orElse-some (break r) (first_break rs) x).0 e)
  where
    here : break r ≡ some x → FirstBroken (r ∷ rs) x
    here b =
        record {
          before = [];
          rule = r;
          after = rs;
          splits = refl;
          earlier_rules = tt;
          broken = (break-some r x s.0).0 b;
        }

    there : (first_break rs ≡ some x → FirstBroken rs x)
        → (break r ≡ none) × (first_break rs ≡ some x) → FirstBroken (r ∷ rs) x
    there ih b =
        let later = ih b.1 in
        record {
          before = r ∷ later.before;
          rule = later.rule;
          after = later.after;
          splits = ap (λ l. r ∷ l) later.splits;
          earlier_rules = ((break-none r s.0).0 b.0, later.earlier_rules);
          broken = later.broken;
        }

-- where the first rule of a list is broken, that is the answer
pub rule_stops : (r : Rule) (rs : List Rule) (x : Refusal) → break r ≡ some x → first_break (r ∷ rs) ≡ some x
unfolding first_break
rule_stops r rs x e = (orElse-some (break r) (first_break rs) x).1 (inl e)

-- a refusal is the first break that the tests find exactly where it is the first break of the rules
pub some_iff : (rules : List Rule) (x : Refusal) → AllSound rules → (first_break rules ≡ some x) ↔ FirstBroken rules x
some_iff rules x s = (found rules x s, back)
  where
    back : FirstBroken rules x → first_break rules ≡ some x
    back h =
        let sounds = (sound_append h.before (h.rule ∷ h.after)).0 (subst AllSound h.splits s) in
        ap first_break h.splits
        ∙ append_none h.before (h.rule ∷ h.after) ((none_iff h.before sounds.0).1 h.earlier_rules)
        ∙ rule_stops h.rule h.after x ((break-some h.rule x sounds.1.0).1 h.broken)

-- either every rule holds, or there is a first break
pub hold_or_broken : (rules : List Rule) → AllSound rules → AllHold rules ⊎ ((x : Refusal) × FirstBroken rules x)
hold_or_broken rules s = which (first_break rules) refl
  where
    which : (o : Option Refusal) → first_break rules ≡ o → AllHold rules ⊎ ((x : Refusal) × FirstBroken rules x)
    which none e = inl ((none_iff rules s).0 e)
    which (some x) e = inr (x, (some_iff rules x s).0 e)

-- where the first rule of a list holds, it leaves the answer to the others
pub rule_goes_on : (r : Rule) (rs : List Rule) → break r ≡ none → first_break (r ∷ rs) ≡ first_break rs
unfolding first_break
rule_goes_on r rs e = ap (λ o. or_else o (first_break rs)) e

-- two lists with one first break have one behind any list
pub append_same : (xs ys zs : List Rule) → first_break ys ≡ first_break zs → first_break (xs ++ ys) ≡ first_break (xs ++ zs)
unfolding first_break
append_same [] ys zs e = e
append_same (r ∷ xs) ys zs e = ap (or_else (break r)) (append_same xs ys zs e)

-- and before any list
pub prepend_same : (xs ys zs : List Rule) → first_break xs ≡ first_break ys → first_break (xs ++ zs) ≡ first_break (ys ++ zs)
prepend_same xs ys zs e = by (first_break xs) refl
  where
    by : (o : Option Refusal) → first_break xs ≡ o → first_break (xs ++ zs) ≡ first_break (ys ++ zs)
    by none f = append_none xs zs f ∙ sym (append_none ys zs (sym e ∙ f))
    by (some x) f = append_some xs zs x f ∙ sym (append_some ys zs x (sym e ∙ f))

-- a rule that the rules before it imply changes no first break
pub implied_rule : (before : List Rule) (rule : Rule) (after : List Rule) → AllSound before → Sound rule
    → (AllHold before → Everywhere rule) → first_break (before ++ (rule ∷ after)) ≡ first_break (before ++ after)
implied_rule before rule after sound decides implied = by (first_break before) refl
  where
    by : (o : Option Refusal) → first_break before ≡ o → first_break (before ++ (rule ∷ after)) ≡ first_break (before ++ after)
    by (some x) e = append_some before (rule ∷ after) x e ∙ sym (append_some before after x e)
    by none e =
        append_none before (rule ∷ after) e
        ∙ rule_goes_on rule after ((break-none rule decides).1 (implied ((none_iff before sound).0 e)))
        ∙ sym (append_none before after e)
