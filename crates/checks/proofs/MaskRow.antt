-- A row whose broken columns are a mask: the lowest bit of the mask is the row's answer.
-- Assumes nothing.
use Prim.Native.Nat.{ℕ, ◌+◌, ◌≤◌, ◌<◌}
use native.Mathlib.Decide.{dec_lt}
use native.Mathlib.Omega.{arith}
use mathlib.Core.Bool.{Bool, true, false, not, cond}
use mathlib.Core.Option.{some, none}
use mathlib.Core.Path.{◌≡◌, refl, sym, subst, ap, ◌∙◌}
use lib.Dec.{T}
use Rattle.schedule.specs.Bounded.{bit, lowest, word_of}
use Rattle.schedule.specs.Rule.{Rule}
use Rattle.laws.proofs.Lowest.{lowest_is}
use Rattle.laws.proofs.Tests.{T_not, T_not-not}
use Rattle.laws.proofs.Words.{bit_wordOf, bit_high, wordOf_lt}
use Rattle.laws.proofs.WordLaws.{bit-zero}
use Rattle.laws.proofs.RowLaws.{refusal_at, row_break, row-clear, row-broken}
use Rattle.checks.specs.Tables.{broken_mask}

mask_bit : (r : Rule) (a b : ℕ) → b < r.columns → bit (broken_mask r a) b ≡ not (r.test a b)
unfolding broken_mask
mask_bit r a b l = bit_wordOf r.columns (λ b. not (r.test a b)) b l

clear-bit : (r : Rule) (a b : ℕ) → b < r.columns → (¬ T (bit (broken_mask r a) b)) → T (r.test a b)
clear-bit r a b l f = T_not-not (r.test a b) (λ x. f (subst T (sym (mask_bit r a b l)) x))

-- a mask without a bit: the row is clear
mask_clear : (r : Rule) (a : ℕ) → r.columns ≤ 32 → ((b : ℕ) → b < 32 → ¬ T (bit (broken_mask r a) b))
    → row_break r a ≡ none
mask_clear r a few h = row-clear r a (λ b l. clear-bit r a b l (h b (omega arith)))

-- a mask that is not empty: the row is broken at its lowest bit
mask_broken : (r : Rule) (a : ℕ) → r.columns ≤ 32 → lowest 32 (bit (broken_mask r a)) < 32
    → row_break r a ≡ some (refusal_at r a (lowest 32 (bit (broken_mask r a))))
unfolding broken_mask
mask_broken r a few l =
    let low = lowest_is 32 (bit (broken_mask r a)) in
    let b : ℕ = lowest 32 (bit (broken_mask r a)) in
    let narrow = wordOf_lt r.columns (λ b. not (r.test a b)) in
    let column : b < r.columns = elim (dec_lt b r.columns) [
      | yes h ↦ h
      | no h ↦ absurd (bit_high (broken_mask r a) r.columns b narrow (omega arith) (low.found l))
    ] in
    row-broken r a b column
    (λ j k. clear-bit r a j (omega arith) (low.none_below j k))
    ((T_not (r.test a b)).0 (subst T (mask_bit r a b column) (low.found l)))

-- the row is broken, at the lowest bit
pub row_stops : (r : Rule) (a mask b : ℕ) → r.columns ≤ 32 → mask ≡ broken_mask r a → b ≡ lowest 32 (bit mask) → b < 32
    → row_break r a ≡ some (refusal_at r a b)
row_stops r a mask b few e k l =
    let k' : b ≡ lowest 32 (bit (broken_mask r a)) = k ∙ ap (λ (w : ℕ). lowest 32 (bit w)) e in
    subst (λ (i : ℕ). row_break r a ≡ some (refusal_at r a i)) (sym k') (mask_broken r a few (omega (arith, k')))

-- an empty mask: the row is clear
pub row_goes_on : (r : Rule) (a mask : ℕ) → r.columns ≤ 32 → mask ≡ broken_mask r a → mask ≡ 0 → row_break r a ≡ none
row_goes_on r a mask few e z =
    mask_clear r a few (λ i h x. subst T (ap (λ (w : ℕ). bit w i) (sym e ∙ z) ∙ bit-zero i) x)

-- a rule with one column is broken at it, or nowhere in the row
pub one_column : (r : Rule) (a : ℕ) → r.columns ≡ 1 → broken_mask r a ≡ cond (r.test a 0) 0 1
unfolding broken_mask word_of
one_column r a e =
    ap (λ (k : ℕ). word_of k (λ b. not (r.test a b))) e ∙ told (r.test a 0)
  where
    told : (t : Bool) → 0 + cond (not t) 1 0 ≡ cond t 0 1
    told true = refl
    told false = refl
