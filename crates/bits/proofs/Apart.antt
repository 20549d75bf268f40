-- A word taken apart bit by bit, the lowest first: what a loop knows that clears the lowest bit of the rest.
-- Assumes nothing.
use Prim.Native.Nat.{ℕ, ◌^◌, ◌<◌}
use native.Mathlib.Decide.{dec_lt, ℕ_discrete}
use native.Mathlib.Omega.{arith}
use mathlib.Core.Bool.{Bool, true, false, ◌&&◌, not}
use mathlib.Core.Path.{◌≡◌, refl, sym, subst, ap, ◌∙◌}
use lib.Dec.{T}
use lib.Pow.{pow_pos}
use borrow.Author.Tests.{lt-ltb, eq-eqb, ne_eqb}
use Rattle.schedule.specs.Bounded.{bit, lowest}
use Rattle.laws.proofs.Counting.{T_true, T_false}
use Rattle.laws.proofs.Lowest.{lowest_is}
use Rattle.schedule.specs.Bounded.{without_bit}
use Rattle.laws.proofs.WordLaws.{zero_bits, bit-without}

module _ (rest a : ℕ) (fits : rest < 2 ^ 32) (more : ¬ (rest ≡ 0)) (low : a ≡ lowest 32 (bit rest)) where
  -- a word that is not 0 has a lowest bit
  pub lowest_lt : a < 32
  lowest_lt =
      elim (dec_lt a 32) [
        | yes l ↦ l
        | no l ↦ absurd (more ((zero_bits 32 rest fits).1 (λ b h.
            T_false (bit rest b) ((lowest_is 32 (bit rest)).none_below b (omega (arith, low))))))
      ]

  pub lowest_set : bit rest a ≡ true
  lowest_set =
      T_true (bit rest a)
      (subst (λ (i : ℕ). T (bit rest i)) (sym low) ((lowest_is 32 (bit rest)).found (omega (arith, low, lowest_lt))))

  -- without it the word is less
  pub rest_less : without_bit rest a < rest
  unfolding without_bit
  rest_less = simp (lt-ltb a 32 lowest_lt, lowest_set) (omega (arith, pow_pos a))

  -- it is gone from the rest, and the others are kept
  pub gone : bit (without_bit rest a) a ≡ false
  gone = bit-without rest a a fits lowest_lt lowest_lt ∙ simp (eq-eqb a a refl, lowest_set)

  pub kept : (i : ℕ) → i < 32 → ¬ (i ≡ a) → bit (without_bit rest a) i ≡ bit rest i
  kept i l ne = bit-without rest a i fits lowest_lt l ∙ ap (λ (t : Bool). bit rest i && not t) (ne_eqb i a ne) ∙ whole (bit rest i)
    where
      whole : (t : Bool) → (t && true) ≡ t
      whole true = refl
      whole false = refl

  -- the rest of a word stays within it
  pub still_within : (word : ℕ) → ((i : ℕ) → i < 32 → T (bit rest i) → T (bit word i))
      → (i : ℕ) → i < 32 → T (bit (without_bit rest a) i) → T (bit word i)
  still_within word h i l x = elim (ℕ_discrete i a) [
    | yes e ↦ absurd (subst T gone (subst (λ (j : ℕ). T (bit (without_bit rest a) j)) e x))
    | no ne ↦ h i l (subst T (kept i l ne) x)
  ]

-- nothing has been taken from a word that is left whole
pub none-taken : (b : Bool) → (b && not b) ≡ false
none-taken true = refl
none-taken false = refl
