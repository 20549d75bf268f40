-- A rule tried row by row: what a loop over its rows knows, and what a row answers.
-- Assumes nothing.
use Prim.Native.Nat.{ℕ, ◌+◌, ◌≤◌, ◌<◌}
use native.Mathlib.Omega.{arith}
use mathlib.Core.Bool.{Bool, not, cond}
use mathlib.Core.Option.{Option, some, none}
use mathlib.Core.Path.{◌≡◌, sym, subst, ap}
use lib.Dec.{T}
use Rattle.schedule.specs.Bounded.{first}
use Rattle.schedule.specs.Rule.{Rule, Refusal, break}
use Rattle.laws.proofs.Tests.{up_to, T_not, T_not-not}
use Rattle.laws.proofs.Counting.{T_true, T_false}
use Rattle.laws.proofs.Lowest.{Lowest}
use Rattle.laws.proofs.FirstBreak.{first-none, first_some}

-- the refusal of a rule at a place
abbrev pub refusal_at : Rule → ℕ → ℕ → Refusal
refusal_at r a b = record { number = r.number; A = a; B = b }

-- what row a of a rule answers
unfoldable pub row_break : Rule → ℕ → Option Refusal
row_break r a = first r.columns (λ b. cond (r.test a b) none (some (refusal_at r a b)))

-- no row below i is broken
unfoldable pub ClearTo : Rule → ℕ → Type 0
ClearTo r i = (a : ℕ) → a < i → row_break r a ≡ none

pub clear-start : (r : Rule) → ClearTo r 0
unfolding ClearTo
clear-start r a l = absurd (omega arith)

pub clear_again : (r : Rule) (i : ℕ) → ClearTo r i → row_break r i ≡ none → ClearTo r (i + 1)
unfolding ClearTo
clear_again r i h e a l = up_to (λ a. row_break r a ≡ none) i h e a (omega arith)

-- the rows all clear: no break
pub clear-end : (r : Rule) → ClearTo r r.rows → break r ≡ none
unfolding ClearTo row_break break
clear-end r h = (first-none r.rows (row_break r)).1 h

-- the first row that is not clear gives the break
pub clear-stop : (r : Rule) (i : ℕ) (x : Refusal) → ClearTo r i → i < r.rows → row_break r i ≡ some x → break r ≡ some x
unfolding ClearTo row_break break
clear-stop r i x h l e = (first_some r.rows (row_break r) x).1 (i, record { below = l; found = e; earlier = h })

passed {ℓ} : {A : Type ℓ} (t : Bool) (x : A) → T t → cond t none (some x) ≡ none
passed t x h = ap (λ (b : Bool). cond b none (some x)) (T_true t h)

failed {ℓ} : {A : Type ℓ} (t : Bool) (x : A) → (¬ T t) → cond t none (some x) ≡ some x
failed t x h = ap (λ (b : Bool). cond b none (some x)) (T_false t h)

-- a row whose tests all pass is clear
pub row-clear : (r : Rule) (a : ℕ) → ((b : ℕ) → b < r.columns → T (r.test a b)) → row_break r a ≡ none
unfolding row_break
row-clear r a h = (first-none r.columns _).1 (λ b l. passed (r.test a b) (refusal_at r a b) (h b l))

-- a row is broken at the first column whose test fails
pub row-broken : (r : Rule) (a b : ℕ) → b < r.columns → ((j : ℕ) → j < b → T (r.test a j)) → (¬ T (r.test a b))
    → row_break r a ≡ some (refusal_at r a b)
unfolding row_break
row-broken r a b l h f =
    (first_some r.columns (λ b. cond (r.test a b) none (some (refusal_at r a b))) (refusal_at r a b)).1 (
      b,
      record {
        below = l;
        found = failed (r.test a b) (refusal_at r a b) f;
        earlier = λ j k. passed (r.test a j) (refusal_at r a j) (h j k);
      },
    )

-- ---- a rule of one column, from the lowest row that breaks it

module _ (r : Rule) (one : r.columns ≡ 1) (i : ℕ) (low : Lowest r.rows (λ a. not (r.test a 0)) i) where
  clear-rows : ClearTo r i
  unfolding ClearTo
  clear-rows a l =
      row-clear r a (λ b k.
      let z : b ≡ 0 = omega (arith, one) in
      subst (λ (x : ℕ). T (r.test a x)) (sym z) (T_not-not (r.test a 0) (low.none_below a l)))

  pub break_at : i < r.rows → break r ≡ some (refusal_at r i 0)
  break_at l =
      clear-stop r i (refusal_at r i 0) clear-rows l
      (row-broken r i 0 (omega (arith, one)) (λ j k. absurd (omega arith)) ((T_not (r.test i 0)).0 (low.found l)))

  pub break-none_at : r.rows ≤ i → break r ≡ none
  break-none_at l =
      let e : i ≡ r.rows = omega (arith, low.bound) in
      clear-end r (subst (λ (k : ℕ). ClearTo r k) e clear-rows)
