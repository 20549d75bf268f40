-- A loop over the bits of a word, the lowest first: masks joined, and bits sifted by a test.
-- Assumes nothing.
use Prim.Native.Nat.{ℕ, ◌^◌, ◌<◌}
use native.Mathlib.Decide.{ℕ_discrete}
use native.Mathlib.Omega.{arith}
use mathlib.Core.Bool.{Bool, true, false, ◌&&◌, ◌||◌, not, cond, and-true, or-false}
use mathlib.Core.Path.{◌≡◌, refl, sym, subst, ap, ap₂, ◌∙◌}
use lib.Bits.{bit_or}
use lib.Dec.{T}
use borrow.Author.Tests.{eq-eqb, ne_eqb}
use Rattle.schedule.specs.Bounded.{all, bit, lowest, word_of, with_bit, without_bit}
use Rattle.laws.proofs.Tests.{T_all, T_and}
use Rattle.laws.proofs.Counting.{T_true, T_ext}
use Rattle.laws.proofs.Words.{bit_wordOf, word_ext, wordOf_lt}
use Rattle.laws.proofs.WordLaws.{bit-bit_or, bit_with, bit-zero}
use Rattle.bits.proofs.Apart as apart
use Rattle.checks.specs.Ticks.{any, outranking}

module _ (rest a : ℕ) (fits : rest < 2 ^ 32) (more : ¬ (rest ≡ 0)) (low : a ≡ lowest 32 (bit rest)) where
  lowest_lt : a < 32
  lowest_lt = apart.lowest_lt rest a fits more low

  lowest_set : bit rest a ≡ true
  lowest_set = apart.lowest_set rest a fits more low

  gone : bit (without_bit rest a) a ≡ false
  gone = apart.gone rest a fits more low

  kept : (i : ℕ) → i < 32 → ¬ (i ≡ a) → bit (without_bit rest a) i ≡ bit rest i
  kept = apart.kept rest a fits more low

  -- some activity of the word has q: the lowest, or one of the others
  any_next : (q : ℕ → Bool) → any 32 (λ i. bit rest i && q i) ≡ (q a || any 32 (λ i. bit (without_bit rest a) i && q i))
  unfolding any
  any_next q =
      flip (all 32 (λ i. not (bit rest i && q i))) (q a) (all 32 (λ i. not (bit (without_bit rest a) i && q i))) (T_ext _ _ there back)
    where
      flip : (x y z : Bool) → x ≡ (not y && z) → not x ≡ (y || not z)
      flip x true z e = ap not e
      flip x false z e = ap not e

      there : T (all 32 (λ i. not (bit rest i && q i))) → T (not (q a) && all 32 (λ i. not (bit (without_bit rest a) i && q i)))
      there t =
          let h = (T_all 32 (λ i. not (bit rest i && q i))).0 t in
          (T_and (not (q a)) _).1 (
            subst (λ (x : Bool). T (not (x && q a))) lowest_set (h a lowest_lt),
            (T_all 32 (λ i. not (bit (without_bit rest a) i && q i))).1 (λ i l. elim (ℕ_discrete i a) [
              | yes e ↦ subst (λ (j : ℕ). T (not (bit (without_bit rest a) j && q j))) (sym e)
                  (subst (λ (x : Bool). T (not (x && q a))) (sym gone) tt)
              | no ne ↦ subst (λ (x : Bool). T (not (x && q i))) (sym (kept i l ne)) (h i l)
            ]),
          )

      back : T (not (q a) && all 32 (λ i. not (bit (without_bit rest a) i && q i))) → T (all 32 (λ i. not (bit rest i && q i)))
      back t =
          let both = (T_and (not (q a)) (all 32 (λ i. not (bit (without_bit rest a) i && q i)))).0 t in
          let h = (T_all 32 (λ i. not (bit (without_bit rest a) i && q i))).0 both.1 in
          (T_all 32 (λ i. not (bit rest i && q i))).1 (λ i l. elim (ℕ_discrete i a) [
            | yes e ↦ subst (λ (j : ℕ). T (not (bit rest j && q j))) (sym e)
                (subst (λ (x : Bool). T (not (x && q a))) (sym lowest_set) both.0)
            | no ne ↦ subst (λ (x : Bool). T (not (x && q i))) (kept i l ne) (h i l)
          ])

  -- masks joined: what is joined and what is left come to the same
  pub join_next : (all mask : ℕ) (masks : ℕ → ℕ) → mask ≡ masks a → (b : ℕ)
      → (bit (bit_or all mask) b || any 32 (λ i. bit (without_bit rest a) i && bit (masks i) b))
      ≡ (bit all b || any 32 (λ i. bit rest i && bit (masks i) b))
  join_next all mask masks e b =
      ap (λ (t : Bool). t || others) (bit-bit_or all mask b)
      ∙ assoc (bit all b) (bit mask b) others
      ∙ ap (λ (t : Bool). bit all b || t)
      (ap (λ (x : ℕ). bit x b || others) e ∙ sym (any_next (λ i. bit (masks i) b)))
    where
      others : Bool
      others = any 32 (λ i. bit (without_bit rest a) i && bit (masks i) b)

      assoc : (x y z : Bool) → ((x || y) || z) ≡ (x || (y || z))
      assoc true y z = refl
      assoc false y z = refl

-- nothing is left of 0
pub none_left : (q : ℕ → Bool) → any 32 (λ i. bit 0 i && q i) ≡ false
unfolding any
none_left q = ap not (T_true (all 32 (λ i. not (bit 0 i && q i)))
    ((T_all 32 (λ i. not (bit 0 i && q i))).1 (λ i l. subst (λ (x : Bool). T (not (x && q i))) (sym (bit-zero i)) tt)))

-- nothing is left: the word is what was joined
pub joined-whole : (all rest word : ℕ) (masks : ℕ → ℕ) → all < 2 ^ 32 → rest ≡ 0
    → ((b : ℕ) → (bit all b || any 32 (λ a. bit rest a && bit (masks a) b))
    ≡ (bit 0 b || any 32 (λ a. bit word a && bit (masks a) b)))
    → all ≡ outranking 32 masks word
unfolding outranking
joined-whole all rest word masks fits e h =
    word_ext 32 all _ fits (wordOf_lt 32 _) (λ b l.
    sym (or-false (bit all b))
    ∙ sym (ap (λ (t : Bool). bit all b || t)
    (ap (λ (w : ℕ). any 32 (λ a. bit w a && bit (masks a) b)) e ∙ none_left (λ a. bit (masks a) b)))
    ∙ h b
    ∙ ap (λ (t : Bool). t || any 32 (λ a. bit word a && bit (masks a) b)) (bit-zero b)
    ∙ sym (bit_wordOf 32 _ b l))

-- ---- bits sifted

-- The mask has the bits of the word that pass a test, as far as they are no longer in the rest.
pub record Sifted (word rest mask : ℕ) (test : ℕ → Bool) : Type 0 where
  pub fits : (rest < 2 ^ 32) × (mask < 2 ^ 32)
  pub within : (i : ℕ) → i < 32 → T (bit rest i) → T (bit word i)
  pub passed : (i : ℕ) → i < 32 → bit mask i ≡ ((bit word i && not (bit rest i)) && test i)

pub sifted_start : (word : ℕ) (test : ℕ → Bool) → word < 2 ^ 32 → Sifted word word 0 test
sifted_start word test small = record {
  fits = (small, omega arith);
  within = λ i l x. x;
  passed = λ i l. bit-zero i ∙ sym (ap (λ (t : Bool). t && test i) (apart.none-taken (bit word i)));
}

pub sifted_next : (word rest mask a : ℕ) (test : ℕ → Bool) (yes? : Bool) → Sifted word rest mask test
    → ¬ (rest ≡ 0) → a ≡ lowest 32 (bit rest) → yes? ≡ test a → without_bit rest a < 2 ^ 32 → cond yes? (with_bit mask a) mask < 2 ^ 32
    → Sifted word (without_bit rest a) (cond yes? (with_bit mask a) mask) test
sifted_next word rest mask a test yes? h more low e small narrow = record {
  fits = (small, narrow);
  within = apart.still_within rest a h.fits.0 more low word h.within;
  passed = λ i l. elim (ℕ_discrete i a) [
    | yes same ↦ subst (λ (j : ℕ). bit marked j ≡ ((bit word j && not (bit (without_bit rest a) j)) && test j)) (sym same)
        (marked_here yes?
        ∙ ap (λ (t : Bool). t || yes?) (h.passed a here ∙ ap₂ (λ (x y : Bool). (x && not y) && test a) has is_set)
        ∙ e
        ∙ sym (ap₂ (λ (x y : Bool). (x && not y) && test a) has (gone rest a h.fits.0 more low)))
    | no ne ↦ marked_other yes? i ne
        ∙ h.passed i l
        ∙ sym (ap (λ (x : Bool). (bit word i && not x) && test i) (kept rest a h.fits.0 more low i l ne))
  ];
}
  where
    marked : ℕ
    marked = cond yes? (with_bit mask a) mask

    here : a < 32
    here = lowest_lt rest a h.fits.0 more low

    is_set : bit rest a ≡ true
    is_set = lowest_set rest a h.fits.0 more low

    has : bit word a ≡ true
    has = T_true (bit word a) (h.within a here (subst T (sym is_set) tt))

    marked_here : (t : Bool) → bit (cond t (with_bit mask a) mask) a ≡ (bit mask a || t)
    marked_here true = bit_with mask a a here ∙ ap (λ (t : Bool). bit mask a || t) (eq-eqb a a refl)
    marked_here false = sym (or-false (bit mask a))

    marked_other : (t : Bool) (i : ℕ) → ¬ (i ≡ a) → bit (cond t (with_bit mask a) mask) i ≡ bit mask i
    marked_other true i ne =
        bit_with mask a i here ∙ ap (λ (t : Bool). bit mask i || t) (ne_eqb i a ne) ∙ or-false (bit mask i)
    marked_other false i ne = refl

-- nothing is left: the mask has all that pass
pub sifted_whole : (word rest mask : ℕ) (test : ℕ → Bool) → Sifted word rest mask test → rest ≡ 0
    → mask ≡ word_of 32 (λ i. bit word i && test i)
sifted_whole word rest mask test h e =
    word_ext 32 mask _ h.fits.1 (wordOf_lt 32 _) (λ i l.
    h.passed i l
    ∙ ap (λ (x : Bool). (bit word i && not x) && test i) (ap (λ (w : ℕ). bit w i) e ∙ bit-zero i)
    ∙ ap (λ (x : Bool). x && test i) (and-true (bit word i))
    ∙ sym (bit_wordOf 32 (λ i. bit word i && test i) i l))
