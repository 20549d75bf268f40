-- A word has no bit at n or above exactly where its & with the word of those bits is 0; the width is a variable.
-- Assumes nothing.
use Prim.Native.Nat.{ℕ, ◌-◌, ◌^◌, ◌<◌}
use native.Mathlib.Decide.{dec_lt}
use native.Mathlib.Omega.{arith}
use mathlib.Core.Bool.{Bool, true, false, ◌&&◌, not}
use mathlib.Core.Path.{◌≡◌, refl, sym, subst, ap, ◌∙◌}
use lib.Bits.{bit_and, and_lt}
use lib.Dec.{T, eqb, leb, ltb, eqb→eq}
use lib.Pow.{ones_sub-lt}
use borrow.Author.Tests.{lt-ltb, le-ltb, le-leb, lt-leb, eq-eqb}
use Rattle.schedule.specs.Bounded.{all, bit, word_of, ◌⇒◌}
use Rattle.laws.proofs.Tests.{T_all, T_and, T_not}
use Rattle.laws.proofs.Counting.{T_ext, T_false, all_ext}
use Rattle.laws.proofs.Words.{bit_wordOf, wordOf_lt}
use Rattle.laws.proofs.WordLaws.{bit-bit_and, bit_not, zero_bits}

-- a word is 0 exactly where no bit is set
zero_clear : (k x : ℕ) → x < 2 ^ k → eqb x 0 ≡ all k (λ b. not (bit x b))
zero_clear k x h = T_ext (eqb x 0) (all k (λ b. not (bit x b))) there back
  where
    there : T (eqb x 0) → T (all k (λ b. not (bit x b)))
    there t =
        (T_all k (λ b. not (bit x b))).1
        (λ b l. (T_not (bit x b)).1 (λ s. subst (λ c. T c) ((zero_bits k x h).0 (eqb→eq x 0 t) b l) s))

    back : T (all k (λ b. not (bit x b))) → T (eqb x 0)
    back t =
        subst (λ c. T c)
        (sym (eq-eqb x 0 ((zero_bits k x h).1 (λ b l. T_false (bit x b) ((T_not (bit x b)).0 ((T_all k (λ b. not (bit x b))).0 t b l))))))
        tt

at_or_above_leb : (n b : ℕ) → not (ltb b n) ≡ leb n b
at_or_above_leb n b =
    elim (dec_lt b n) [
      | yes l ↦ ap not (lt-ltb b n l) ∙ sym (lt-leb n b l)
      | no l ↦ ap not (le-ltb b n (omega arith)) ∙ sym (le-leb n b (omega arith))
    ]

pub none_from : (k w n : ℕ) → w < 2 ^ k
    → eqb (bit_and w ((2 ^ k - 1) - word_of k (λ b. ltb b n))) 0 ≡ all k (λ b. leb n b ⇒ not (bit w b))
none_from k w n h =
    zero_clear k x (and_lt k w high h (ones_sub-lt k low))
    ∙ all_ext k (λ b. not (bit x b)) (λ b. leb n b ⇒ not (bit w b)) one
  where
    low : ℕ
    low = word_of k (λ b. ltb b n)

    high : ℕ
    high = (2 ^ k - 1) - low

    x : ℕ
    x = bit_and w high

    told : (s t : Bool) → not (s && t) ≡ (t ⇒ not s)
    told true true = refl
    told true false = refl
    told false true = refl
    told false false = refl

    one : (b : ℕ) → b < k → not (bit x b) ≡ (leb n b ⇒ not (bit w b))
    one b l =
        ap not
        (bit-bit_and w high b
        ∙ ap (λ (t : Bool). bit w b && t)
        (bit_not k low b (wordOf_lt k (λ b. ltb b n)) l
        ∙ ap not (bit_wordOf k (λ b. ltb b n) b l)
        ∙ at_or_above_leb n b))
        ∙ told (bit w b) (leb n b)

-- two tests at every number are one
pub all_and : (k : ℕ) (p q : ℕ → Bool) → (all k p && all k q) ≡ all k (λ b. p b && q b)
all_and k p q = T_ext (all k p && all k q) (all k (λ b. p b && q b)) there back
  where
    there : T (all k p && all k q) → T (all k (λ b. p b && q b))
    there t =
        let both = (T_and (all k p) (all k q)).0 t in
        (T_all k (λ b. p b && q b)).1 (λ b l. (T_and (p b) (q b)).1 ((T_all k p).0 both.0 b l, (T_all k q).0 both.1 b l))

    back : T (all k (λ b. p b && q b)) → T (all k p && all k q)
    back t =
        let each = (T_all k (λ b. p b && q b)).0 t in
        (T_and (all k p) (all k q)).1
        ((T_all k p).1 (λ b l. ((T_and (p b) (q b)).0 (each b l)).0), (T_all k q).1 (λ b l. ((T_and (p b) (q b)).0 (each b l)).1))

both_clear : (t s u : Bool) → ((t ⇒ not s) && (t ⇒ not u)) ≡ (t ⇒ (not s && not u))
both_clear true s u = refl
both_clear false s u = refl

-- the same of two words at once
pub none-from_both : (k n v w : ℕ)
    → (all k (λ b. leb n b ⇒ not (bit v b)) && all k (λ b. leb n b ⇒ not (bit w b)))
    ≡ all k (λ b. leb n b ⇒ (not (bit v b) && not (bit w b)))
none-from_both k n v w =
    all_and k (λ b. leb n b ⇒ not (bit v b)) (λ b. leb n b ⇒ not (bit w b))
    ∙ all_ext k _ _ (λ b l. both_clear (leb n b) (bit v b) (bit w b))
