-- Counts of each bit of many words, the lowest bit of a word first.
-- Assumes nothing.
use Prim.Native.Nat.{ℕ, ◌*◌, ◌+◌, ◌^◌, ◌≤◌, ◌<◌}
use native.Mathlib.Decide.{dec_lt, ℕ_discrete}
use native.Mathlib.Nat.{mul-le-mul}
use native.Mathlib.Omega.{arith}
use mathlib.Core.Bool.{Bool, true, false, cond}
use mathlib.Core.List.{List}
use mathlib.Core.Path.{◌≡◌, sym, subst, ap₂, ◌∙◌}
use lib.ListN.{length, get_or, set, get_or-eq_default}
use lib.Seq.{get_or-set_same, get_or-set_other}
use Rattle.schedule.specs.Bounded.{bit, count, lowest}
use Rattle.schedule.specs.Bounded.{without_bit}
use Rattle.laws.proofs.Counting.{count_le}
use Rattle.laws.proofs.Steps.{count_next}
use Rattle.laws.proofs.WordLaws.{bit-zero}
use Rattle.bits.proofs.Apart.{lowest_lt, lowest_set, gone, kept}
use Rattle.tables.specs.Counts.{Tallied}

-- a count of each activity: what is counted and what is left come to the same
pub tally_next : (rest a : ℕ) → rest < 2 ^ 32 → ¬ (rest ≡ 0) → a ≡ lowest 32 (bit rest)
    → (l : List ℕ) → length l ≡ 32 → (i : ℕ) → i < 32
    → get_or (set l a (get_or l a 0 + 1)) i 0 + cond (bit (without_bit rest a) i) 1 0 ≡ get_or l i 0 + cond (bit rest i) 1 0
tally_next rest a fits more low l sized i less = elim (ℕ_discrete i a) [
  | yes e ↦
      subst (λ (j : ℕ). get_or (set l a (get_or l a 0 + 1)) j 0 + cond (bit (without_bit rest a) j) 1 0 ≡ get_or l j 0 + cond (bit rest j) 1 0)
      (sym e)
      (rw (
        get_or-set_same l a (get_or l a 0 + 1) 0 (omega (arith, lowest_lt rest a fits more low)),
        gone rest a fits more low,
        lowest_set rest a fits more low,
      ) (omega arith))
  | no ne ↦ ap₂ (λ (x : ℕ) (t : Bool). x + cond t 1 0) (get_or-set_other l a i (get_or l a 0 + 1) 0 ne)
      (kept rest a fits more low i less ne)
]

pub none_counted : (rest i : ℕ) → rest ≡ 0 → ◌≡◌ {A = ℕ} (cond (bit rest i) 1 0) 0
none_counted rest i e = rw (e, bit-zero i)

pub at_most_one : (t : Bool) → cond t 1 0 ≤ 1
at_most_one true = omega arith
at_most_one false = omega arith

-- counts of fewer than 65536 ticks are small, also where the table has no entry
pub few_counted : (l : List ℕ) (t : ℕ) (active : ℕ → ℕ → Bool) → t < 65536 → length l ≡ 32
    → ((i : ℕ) → i < 32 → get_or l i 0 ≡ count t (λ v. active v i)) → (i : ℕ) → get_or l i 0 < 65536
few_counted l t active few sized h i =
    elim (dec_lt i 32) [
      | yes k ↦ omega (arith, h i k, count_le t (λ v. active v i))
      | no k ↦ omega (arith, get_or-eq_default l 0 {n = i} (omega arith))
    ]

-- one tick more in every count
pub tallied_next : (words : ℕ → ℕ) (t word : ℕ) (l l' : List ℕ) → word ≡ words t
    → ((i : ℕ) → i < 32 → get_or l i 0 ≡ count t (λ v. bit (words v) i)) → Tallied word l l'
    → (i : ℕ) → i < 32 → get_or l' i 0 ≡ count (t + 1) (λ v. bit (words v) i)
tallied_next words t word l l' e h tallied i less =
    tallied.one_more i less
    ∙ ap₂ (λ (x w : ℕ). x + cond (bit w i) 1 0) (h i less) e
    ∙ sym (count_next t (λ v. bit (words v) i))

-- ---- the figures fit their fields

-- a byte times a number of two bytes has at most four
pub product_fits : (x y : ℕ) → x < 256 → y < 65536 → x * y < 2 ^ 32
product_fits x y h k =
    let top : x * y ≤ 255 * 65535 = mul-le-mul {n₁ = x} {m₁ = y} {n₂ = 255} {m₂ = 65535} (omega arith) (omega arith) in
    omega (arith, top)
