-- Laws of `count`: how many numbers below a bound have a property.
-- Assumes nothing.
use Prim.Native.Nat.{ℕ, zero, suc, ◌+◌, ◌≤◌, ◌<◌}
use native.Mathlib.Decide.{dec_lt}
use native.Mathlib.Omega.{arith}
use mathlib.Core.Bool.{Bool, true, false, ◌&&◌, cond}
use mathlib.Core.Logic.{◌⊎◌, inl, inr, ⊎_elim}
use mathlib.Core.Path.{◌≡◌, refl, subst, ap, ap₂}
use lib.Dec.{T}
use Rattle.schedule.specs.Bounded.{all, count, ◌⇒◌}
use Rattle.laws.proofs.Tests.{T_and, below_suc}

-- a test passes or it does not
pub dec_t : (b : Bool) → T b ⊎ (¬ T b)
dec_t true = inl tt
dec_t false = inr (λ x. x)

pub T_true : (b : Bool) → T b → b ≡ true
T_true true t = refl
T_true false t = absurd t

pub T_false : (b : Bool) → (¬ T b) → b ≡ false
T_false true n = absurd (n tt)
T_false false n = refl

-- two tests that imply one another are equal
pub T_ext : (a b : Bool) → (T a → T b) → (T b → T a) → a ≡ b
T_ext true true f g = refl
T_ext true false f g = absurd (f tt)
T_ext false true f g = absurd (g tt)
T_ext false false f g = refl

-- two tests beside a third, and behind a third, are equal if they are where the third passes
pub and_same : (a b c : Bool) → (T c → a ≡ b) → (a && c) ≡ (b && c)
and_same a b true h = ap (λ (x : Bool). x && true) (h tt)
and_same a b false h = T_ext _ _ (λ t. absurd ((T_and a false).0 t).1) (λ t. absurd ((T_and b false).0 t).1)

pub implies_same : (c a b : Bool) → (T c → a ≡ b) → (c ⇒ a) ≡ (c ⇒ b)
implies_same true a b h = h tt
implies_same false a b h = refl

-- what a test adds to a count
abbrev pub weight : Bool → ℕ
weight b = cond b 1 0

pub one_if : (b : Bool) → T b → weight b ≡ 1
one_if true t = refl
one_if false t = absurd t

pub zero_if : (b : Bool) → (¬ T b) → weight b ≡ 0
zero_if true n = absurd (n tt)
zero_if false n = refl

at_most_one : (b : Bool) → weight b ≤ 1
at_most_one true = omega arith
at_most_one false = omega arith

weight_mono : (a b : Bool) → (T a → T b) → weight a ≤ weight b
weight_mono true true f = omega arith
weight_mono true false f = absurd (f tt)
weight_mono false true f = omega arith
weight_mono false false f = omega arith

-- the next number counts, or it does not
pub count-suc : (n : ℕ) (p : ℕ → Bool) → count (suc n) p ≡ count n p + weight (p n)
unfolding count
count-suc n p = refl

pub count-zero : (p : ℕ → Bool) → count 0 p ≡ 0
unfolding count
count-zero p = refl

pub count_ext : (n : ℕ) (p q : ℕ → Bool) → ((i : ℕ) → i < n → p i ≡ q i) → count n p ≡ count n q
count_ext zero p q h = omega (arith, count-zero p, count-zero q)
count_ext (suc n) p q h =
    omega (
      arith,
      count-suc n p,
      count-suc n q,
      count_ext n p q (λ i l. h i (omega arith)),
      ap weight (h n (omega arith)),
    )

pub all_ext : (n : ℕ) (p q : ℕ → Bool) → ((i : ℕ) → i < n → p i ≡ q i) → all n p ≡ all n q
unfolding all
all_ext zero p q h = refl
all_ext (suc n) p q h = ap₂ ◌&&◌ (all_ext n p q (λ i l. h i (omega arith))) (h n (omega arith))

pub count_mono : (n : ℕ) (p q : ℕ → Bool) → ((i : ℕ) → i < n → T (p i) → T (q i)) → count n p ≤ count n q
count_mono zero p q h = omega (arith, count-zero p, count-zero q)
count_mono (suc n) p q h =
    omega (
      arith,
      count-suc n p,
      count-suc n q,
      count_mono n p q (λ i l. h i (omega arith)),
      weight_mono (p n) (q n) (h n (omega arith)),
    )

-- one more has q than p: strictly fewer have p
pub count_less : (n : ℕ) (p q : ℕ → Bool) → ((i : ℕ) → i < n → T (p i) → T (q i))
    → (k : ℕ) → k < n → T (q k) → (¬ T (p k)) → count n p < count n q
count_less zero p q h k l tq np = absurd (omega arith)
count_less (suc n) p q h k l tq np =
    ⊎_elim
    (λ (b : k < n). omega (
      arith,
      count-suc n p,
      count-suc n q,
      count_less n p q (λ i l. h i (omega arith)) k b tq np,
      weight_mono (p n) (q n) (h n (omega arith)),
    ))
    (λ (e : k ≡ n). omega (
      arith,
      count-suc n p,
      count-suc n q,
      count_mono n p q (λ i l. h i (omega arith)),
      one_if (q n) (subst (λ i. T (q i)) e tq),
      zero_if (p n) (subst (λ i. ¬ T (p i)) e np),
    ))
    (below_suc k n l)

pub count_none : (n : ℕ) (p : ℕ → Bool) → ((i : ℕ) → i < n → ¬ T (p i)) → count n p ≡ 0
count_none zero p h = count-zero p
count_none (suc n) p h =
    omega (arith, count-suc n p, count_none n p (λ i l. h i (omega arith)), zero_if (p n) (h n (omega arith)))

pub count-some : (n : ℕ) (p : ℕ → Bool) (k : ℕ) → k < n → T (p k) → 0 < count n p
count-some n p k l t =
    omega (arith, count_less n (λ _. false) p (λ i l x. absurd x) k l t (λ x. x))

pub count_le : (n : ℕ) (p : ℕ → Bool) → count n p ≤ n
count_le zero p = omega (arith, count-zero p)
count_le (suc n) p = omega (arith, count-suc n p, count_le n p, at_most_one (p n))

-- a count grows with its bound
pub count_grows : (k n : ℕ) (p : ℕ → Bool) → k ≤ n → count k p ≤ count n p
count_grows k zero p h = omega (arith, ap (λ i. count i p) (zero-only k h))
  where
    zero-only : (k : ℕ) → k ≤ 0 → k ≡ 0
    zero-only k h = omega arith
count_grows k (suc n) p h =
    ⊎_elim
    (λ (l : k < suc n). omega (arith, count-suc n p, count_grows k n p (omega arith)))
    (λ (e : k ≡ suc n). omega (arith, ap (λ i. count i p) e))
    (below_suc k (suc n) (omega arith))

-- where a count grows from k to n, some number in between has the property
pub count_between : (k n : ℕ) (p : ℕ → Bool) → count k p < count n p → (i : ℕ) × (k ≤ i) × (i < n) × T (p i)
count_between k zero p h = absurd (omega (arith, count-zero p))
count_between k (suc n) p h =
    ⊎_elim
    (λ (l : count k p < count n p). let f = count_between k n p l in (f.0, f.1, omega arith, f.3))
    (λ (l : ¬ (count k p < count n p)). here l (dec_t (p n)))
    (dec (count k p) (count n p))
  where
    dec : (a b : ℕ) → (a < b) ⊎ (¬ (a < b))
    dec a b = elim (dec_lt a b) [ yes l ↦ inl l | no l ↦ inr l ]

    here : (¬ (count k p < count n p)) → T (p n) ⊎ (¬ T (p n)) → (i : ℕ) × (k ≤ i) × (i < suc n) × T (p i)
    here l (inl t) = (n, high, omega arith, t)
      where
        high : k ≤ n
        high = elim (dec_lt n k) [ yes g ↦ absurd (omega (arith, count_grows (suc n) k p g, h)) | no g ↦ omega arith ]
    here l (inr f) = absurd (omega (arith, count-suc n p, zero_if (p n) f))

-- no number from k on has the property: the count stands still
pub count_stops : (k n : ℕ) (p : ℕ → Bool) → k ≤ n → ((i : ℕ) → k ≤ i → i < n → ¬ T (p i)) → count n p ≡ count k p
count_stops k n p h None-more =
    elim (dec_lt (count k p) (count n p)) [
      | yes l ↦ let f = count_between k n p l in absurd (None-more f.0 f.1 f.2 f.3)
      | no l ↦ omega (arith, count_grows k n p h)
    ]

-- a count grows by at most one for each number passed
pub count_span : (k n : ℕ) (p : ℕ → Bool) → k ≤ n → count n p + k ≤ count k p + n
count_span k zero p h = let e : k ≡ 0 = omega arith in omega (arith, ap (λ i. count i p) e)
count_span k (suc n) p h =
    ⊎_elim
    (λ (l : k < suc n). omega (arith, count-suc n p, at_most_one (p n), count_span k n p (omega arith)))
    (λ (e : k ≡ suc n). omega (arith, ap (λ i. count i p) e))
    (below_suc k (suc n) (omega arith))

-- what has r has p or q
pub count_union : (n : ℕ) (r p q : ℕ → Bool) → ((i : ℕ) → i < n → T (r i) → T (p i) ⊎ T (q i))
    → count n r ≤ count n p + count n q
count_union zero r p q h = omega (arith, count-zero r)
count_union (suc n) r p q h =
    omega (
      arith,
      count-suc n r,
      count-suc n p,
      count-suc n q,
      count_union n r p q (λ i l. h i (omega arith)),
      one (r n) (p n) (q n) (h n (omega arith)),
    )
  where
    one : (a b c : Bool) → (T a → T b ⊎ T c) → weight a ≤ weight b + weight c
    one false b c f = omega arith
    one true true c f = omega arith
    one true false true f = omega arith
    one true false false f = absurd (⊎_elim (λ x. x) (λ x. x) (f tt))

-- at most one number has the property: the count is at most 1
pub count_single : (n : ℕ) (p : ℕ → Bool) → ((i j : ℕ) → i < n → j < n → T (p i) → T (p j) → i ≡ j) → count n p ≤ 1
count_single zero p h = omega (arith, count-zero p)
count_single (suc n) p h =
    ⊎_elim
    (λ t. omega (arith, count-suc n p, one_if (p n) t, count_none n p (λ i l x. apart i l (h i n (omega arith) (omega arith) x t))))
    (λ f. omega (arith, count-suc n p, zero_if (p n) f, count_single n p (λ i j a b. h i j (omega arith) (omega arith))))
    (dec_t (p n))
  where
    apart : (i : ℕ) → i < n → ¬ (i ≡ n)
    apart i l e = omega arith
