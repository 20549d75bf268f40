-- Sums and extremes depend on the values below their bound alone, and so do a plan's figures on its words, ends and
-- releases. A sum of sums may be taken in either order.
-- Assumes nothing.
use Prim.Native.Nat.{ℕ, zero, suc, ◌+◌, ◌-◌, ◌*◌, ◌≤◌, ◌<◌, max, min}
use native.Mathlib.Decide.{dec_lt}
use native.Mathlib.Nat.{mul-suc, zero-mul, one-mul, add-mul}
use native.Mathlib.Omega.{arith}
use mathlib.Core.Bool.{Bool, true, false, cond}
use mathlib.Core.Logic.{⊎_elim}
use mathlib.Core.Path.{◌≡◌, refl, sym, ap, ap₂, ◌∙◌}
use Rattle.schedule.specs.Bounded.{count, total, greatest, least, bit}
use Rattle.schedule.specs.Model.{Model}
use Rattle.schedule.specs.Plan.{Plan}
use Rattle.schedule.specs.Checks.{cores_of, load}
use Rattle.schedule.specs.Answers.{figures}
use Rattle.laws.proofs.Tests.{below_suc}
use Rattle.laws.proofs.Counting.{weight}

pub greatest_ext : (n : ℕ) (f g : ℕ → ℕ) → ((i : ℕ) → i < n → f i ≡ g i) → greatest n f ≡ greatest n g
unfolding greatest
greatest_ext zero f g h = refl
greatest_ext (suc n) f g h = ap₂ max (greatest_ext n f g (λ i l. h i (omega arith))) (h n (omega arith))

pub greatest_bound : (n : ℕ) (f : ℕ → ℕ) (x : ℕ) → ((i : ℕ) → i < n → f i ≤ x) → greatest n f ≤ x
unfolding greatest
greatest_bound zero f x h = omega arith
greatest_bound (suc n) f x h = omega (arith, greatest_bound n f x (λ i l. h i (omega arith)), h n (omega arith))

pub greatest_each : (n : ℕ) (f : ℕ → ℕ) (i : ℕ) → i < n → f i ≤ greatest n f
unfolding greatest
greatest_each zero f i h = absurd (omega arith)
greatest_each (suc n) f i h = ⊎_elim
    (λ (l : i < n). omega (arith, greatest_each n f i l))
    (λ (e : i ≡ n). omega (arith, ap f e))
    (below_suc i n h)

pub total_ext : (n : ℕ) (f g : ℕ → ℕ) → ((i : ℕ) → i < n → f i ≡ g i) → total n f ≡ total n g
unfolding total
total_ext zero f g h = refl
total_ext (suc n) f g h = ap₂ ◌+◌ (total_ext n f g (λ i l. h i (omega arith))) (h n (omega arith))

pub total_mono : (n : ℕ) (f g : ℕ → ℕ) → ((i : ℕ) → i < n → f i ≤ g i) → total n f ≤ total n g
unfolding total
total_mono zero f g h = omega arith
total_mono (suc n) f g h = omega (arith, total_mono n f g (λ i l. h i (omega arith)), h n (omega arith))

-- two sums that differ at one place, by x
pub total_one_more : (n : ℕ) (f g : ℕ → ℕ) (k x : ℕ) → ((i : ℕ) → i < n → ¬ (i ≡ k) → f i ≡ g i) → k < n → g k ≡ f k + x
    → total n g ≡ total n f + x
unfolding total
total_one_more zero f g k x h l e = absurd (omega arith)
total_one_more (suc n) f g k x h l e =
    ⊎_elim
    (λ (b : k < n). omega (
      arith,
      total_one_more n f g k x (λ i l. h i (omega arith)) b e,
      h n (omega arith) (omega arith),
    ))
    (λ (b : k ≡ n). omega (arith, total_ext n f g (λ i l. h i (omega arith) (omega arith)), ap f b, ap g b))
    (below_suc k n l)

-- a sum whose terms from k on are 0
pub total_stops : (k n : ℕ) (f : ℕ → ℕ) → k ≤ n → ((i : ℕ) → k ≤ i → i < n → f i ≡ 0) → total n f ≡ total k f
unfolding total
total_stops k zero f h z = ap (λ (i : ℕ). total i f) (sym (none_left k h))
  where
    none_left : (k : ℕ) → k ≤ 0 → k ≡ 0
    none_left k h = omega arith
total_stops k (suc n) f h z =
    ⊎_elim
    (λ (l : k < suc n). omega (arith, total_stops k n f (omega arith) (λ i a b. z i a (omega arith)), z n (omega arith) (omega arith)))
    (λ (e : k ≡ suc n). ap (λ (i : ℕ). total i f) (sym e))
    (below_suc k (suc n) (omega arith))

-- a sum of n terms, none above k
pub total_bound : (n : ℕ) (f : ℕ → ℕ) (k : ℕ) → ((i : ℕ) → i < n → f i ≤ k) → total n f ≤ k * n
unfolding total
total_bound zero f k h = omega arith
total_bound (suc n) f k h =
    omega (arith, mul-suc k n, total_bound n f k (λ i l. h i (omega arith)), h n (omega arith))

-- a sum of terms that are no larger, and at one place smaller by x, is smaller by x
pub total-room : (n : ℕ) (f g : ℕ → ℕ) (k x : ℕ) → ((i : ℕ) → i < n → f i ≤ g i) → k < n → f k + x ≤ g k
    → total n f + x ≤ total n g
unfolding total
total-room zero f g k x h l e = absurd (omega arith)
total-room (suc n) f g k x h l e =
    ⊎_elim
    (λ (b : k < n). omega (arith, total-room n f g k x (λ i l. h i (omega arith)) b e, h n (omega arith)))
    (λ (b : k ≡ n). omega (arith, total_mono n f g (λ i l. h i (omega arith)), ap f b, ap g b))
    (below_suc k n l)

-- of two sums the smaller has a smaller term
pub total_less : (n : ℕ) (f g : ℕ → ℕ) → total n f < total n g → (i : ℕ) × (i < n) × (f i < g i)
unfolding total
total_less zero f g h = absurd (omega arith)
total_less (suc n) f g h = elim (dec_lt (f n) (g n)) [
  | yes l ↦ (n, omega arith, l)
  | no l ↦ let found = total_less n f g (omega arith) in (found.0, omega arith, found.2)
]

total_add : (n : ℕ) (f g : ℕ → ℕ) → total n (λ i. f i + g i) ≡ total n f + total n g
unfolding total
total_add zero f g = refl
total_add (suc n) f g = omega (arith, total_add n f g)

-- a sum of sums, taken in the other order
pub total_exchange : (n k : ℕ) (f : ℕ → ℕ → ℕ) → total n (λ i. total k (f i)) ≡ total k (λ j. total n (λ i. f i j))
unfolding total
total_exchange zero k f = omega (arith, total_bound k (λ _. 0) 0 (λ _ _. omega arith))
total_exchange (suc n) k f = omega (arith, total_exchange n k f, total_add k (λ j. total n (λ i. f i j)) (f n))

-- the same term for each number that passes a test
pub total_counted : (n : ℕ) (p : ℕ → Bool) (x : ℕ) → total n (λ i. cond (p i) x 0) ≡ count n p * x
unfolding count total
total_counted zero p x = sym (zero-mul x)
total_counted (suc n) p x =
    ap₂ ◌+◌ (total_counted n p x) (one (p n)) ∙ sym (add-mul (count n p) (weight (p n)) x)
  where
    one : (b : Bool) → cond b x 0 ≡ weight b * x
    one true = sym (one-mul x)
    one false = sym (zero-mul x)

pub least_each : (n : ℕ) (f : ℕ → ℕ) (i : ℕ) → i < n → least n f ≤ f i
unfolding least
least_each zero f i h = absurd (omega arith)
least_each (suc zero) f i h = omega (arith, ap f (only i h))
  where
    only : (i : ℕ) → i < 1 → i ≡ 0
    only i h = omega arith
least_each (suc (suc n)) f i h = ⊎_elim
    (λ (l : i < suc n). omega (arith, least_each (suc n) f i l))
    (λ (e : i ≡ suc n). omega (arith, ap f e))
    (below_suc i (suc n) h)

pub least_ext : (n : ℕ) (f g : ℕ → ℕ) → ((i : ℕ) → i < n → f i ≡ g i) → least n f ≡ least n g
unfolding least
least_ext zero f g h = refl
least_ext (suc zero) f g h = h 0 (omega arith)
least_ext (suc (suc n)) f g h = ap₂ min (least_ext (suc n) f g (λ i l. h i (omega arith))) (h (suc n) (omega arith))

pub figures_ext : (m : Model) (p r : Plan)
    → ((t : ℕ) → t < m.horizon → p.word t ≡ r.word t)
    → ((a : ℕ) → a < m.activities → p.end a ≡ r.end a)
    → ((j : ℕ) → j < m.threads → p.release j ≡ r.release j)
    → figures m p ≡ figures m r
unfolding figures
figures_ext m p r words ends releases =
    let u = total_ext m.horizon (load m p) (load m r) (λ t l. ap (λ (w : ℕ). cores_of m (bit w)) (words t l)) in
    let e = greatest_ext m.activities p.end r.end ends in
    let f = least_ext m.threads p.release r.release releases in
    λ i. record { usage = u i; capacity = m.cores * m.horizon; makespan = e i - f i }
