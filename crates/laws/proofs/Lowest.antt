-- The lowest number below a bound that has a property.
-- Assumes nothing.
use Prim.Native.Nat.{ℕ, zero, suc, ◌+◌, ◌≤◌, ◌<◌}
use native.Mathlib.Decide.{dec_lt}
use native.Mathlib.Numerals.{add-one}
use native.Mathlib.Omega.{arith}
use mathlib.Core.Bool.{Bool, cond}
use mathlib.Core.Logic.{◌⊎◌, inl, inr}
use mathlib.Core.Path.{◌≡◌, refl, sym, subst, ap, ap₂, ◌∙◌}
use lib.Dec.{T, ltb}
use borrow.Author.Tests.{lt-ltb, le-ltb}
use Rattle.schedule.specs.Bounded.{lowest}
use Rattle.laws.proofs.Tests.{up_to}
use Rattle.laws.proofs.Counting.{dec_t, T_true, T_false}

pub record Lowest (n : ℕ) (p : ℕ → Bool) (i : ℕ) : Type 0 where
  pub bound : i ≤ n
  pub none_below : (j : ℕ) → j < i → ¬ T (p j)
  pub found : i < n → T (p i)

pub lowest_is : (n : ℕ) (p : ℕ → Bool) → Lowest n p (lowest n p)
unfolding lowest
lowest_is zero p = record { bound = omega arith; none_below = λ j l. absurd (omega arith); found = λ l. absurd (omega arith) }
lowest_is (suc n) p = next (lowest n p) (lowest_is n p)
  where
    chosen : ℕ → ℕ
    chosen i = cond (ltb i n) i (cond (p n) n (suc n))

    move : (i k : ℕ) → chosen i ≡ k → Lowest (suc n) p k → Lowest (suc n) p (chosen i)
    move i k e h = subst (λ (x : ℕ). Lowest (suc n) p x) (sym e) h

    top : (i : ℕ) → i ≡ n → chosen i ≡ cond (p n) n (suc n)
    top i e = ap (λ (b : Bool). cond b i (cond (p n) n (suc n))) (le-ltb i n (omega arith))

    at_top : (i : ℕ) → Lowest n p i → i ≡ n → T (p n) ⊎ (¬ T (p n)) → Lowest (suc n) p (chosen i)
    at_top i h e (inl t) =
        move i n (top i e ∙ ap (λ (b : Bool). cond b n (suc n)) (T_true (p n) t))
        (record { bound = omega arith; none_below = λ j l. h.none_below j (omega arith); found = λ _. t })
    at_top i h e (inr f) =
        move i (suc n) (top i e ∙ ap (λ (b : Bool). cond b n (suc n)) (T_false (p n) f))
        (record {
          bound = omega arith;
          none_below = up_to (λ j. ¬ T (p j)) n (λ j l. h.none_below j (omega arith)) f;
          found = λ l. absurd (omega arith);
        })

    next : (i : ℕ) → Lowest n p i → Lowest (suc n) p (chosen i)
    next i h =
        elim (dec_lt i n) [
          | yes l ↦ move i i (ap (λ (b : Bool). cond b i (cond (p n) n (suc n))) (lt-ltb i n l))
              (record { bound = omega arith; none_below = h.none_below; found = λ _. h.found l })
          | no l ↦ at_top i h (omega (arith, h.bound)) (dec_t (p n))
        ]

-- the lowest is the one that has the property with none below it
pub lowest_unique : (n : ℕ) (p : ℕ → Bool) (i : ℕ) → i < n → T (p i) → ((j : ℕ) → j < i → ¬ T (p j)) → lowest n p ≡ i
lowest_unique n p i l t h =
    let low = lowest_is n p in
    elim (dec_lt (lowest n p) i) [
      | yes b ↦ absurd (h (lowest n p) b (low.found (omega arith)))
      | no b ↦ elim (dec_lt i (lowest n p)) [
        | yes c ↦ absurd (low.none_below i c t)
        | no c ↦ omega arith
      ]
    ]

-- where some number has the property, the lowest has it and is no higher
pub lowest_found : (n : ℕ) (p : ℕ → Bool) (k : ℕ) → k < n → T (p k) → (lowest n p ≤ k) × T (p (lowest n p))
lowest_found n p k l t =
    let low = lowest_is n p in
    let small : lowest n p ≤ k =
    elim (dec_lt k (lowest n p)) [ yes c ↦ absurd (low.none_below k c t) | no c ↦ omega arith ] in
    (small, low.found (omega arith))

-- it depends on what is below the bound alone
pub lowest_ext : (n : ℕ) (p q : ℕ → Bool) → ((i : ℕ) → i < n → p i ≡ q i) → lowest n p ≡ lowest n q
unfolding lowest
lowest_ext zero p q h = refl
lowest_ext (suc n) p q h =
    ap₂ (λ (i : ℕ) (b : Bool). cond (ltb i n) i (cond b n (suc n))) (lowest_ext n p q (λ i l. h i (omega arith))) (h n (omega arith))

pub is_lowest : (n : ℕ) (p : ℕ → Bool) (i : ℕ) → i ≡ lowest n p → Lowest n p i
is_lowest n p i e = subst (Lowest n p) (sym e) (lowest_is n p)

pub lowest-same : (n : ℕ) (p : ℕ → Bool) (i : ℕ) → Lowest n p i → i ≡ lowest n p
lowest-same n p i h =
    elim (dec_lt i n) [
      | yes l ↦ sym (lowest_unique n p i l (h.found l) h.none_below)
      | no l ↦
          let low = lowest_is n p in
          elim (dec_lt (lowest n p) n) [
            | yes k ↦ absurd (h.none_below (lowest n p) (omega (arith, h.bound)) (low.found k))
            | no k ↦ omega (arith, h.bound, low.bound)
          ]
    ]

-- ---- searching

-- nothing below i has the property
abbrev pub Clear : (ℕ → Bool) → ℕ → Type 0
Clear p i = (j : ℕ) → j < i → ¬ T (p j)

pub clear_none : (p : ℕ → Bool) → Clear p 0
clear_none p j l = absurd (omega arith)

pub clear-more : (p : ℕ → Bool) (i : ℕ) (b : Bool) → Clear p i → b ≡ p i → (¬ T b) → Clear p (i + 1)
clear-more p i b h e f = rw (add-one i) (up_to (λ j. ¬ T (p j)) i h (subst (λ (x : Bool). ¬ T x) e f))

pub found_here : (n : ℕ) (p : ℕ → Bool) (i : ℕ) (b : Bool) → i < n → Clear p i → b ≡ p i → T b → i ≡ lowest n p
found_here n p i b l h e t = sym (lowest_unique n p i l (subst T e t) h)

pub found_none : (n : ℕ) (p : ℕ → Bool) (i : ℕ) → i ≤ n → n ≤ i → Clear p i → i ≡ lowest n p
found_none n p i k l h = lowest-same n p i (record { bound = k; none_below = h; found = λ j. absurd (omega arith) })
