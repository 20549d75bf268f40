-- One step of a loop: of a count, a sum, an extreme, a test over all, a table; and where the loop starts.
-- Assumes nothing.
use Prim.Native.Nat.{ℕ, zero, suc, ◌+◌, ◌≤◌, ◌<◌, max, min}
use native.Mathlib.Numerals.{add-one}
use native.Mathlib.Omega.{arith}
use mathlib.Core.Bool.{Bool, true, cond}
use mathlib.Core.List.{List}
use mathlib.Core.Logic.{⊎_elim}
use mathlib.Core.Path.{◌≡◌, refl, sym, subst, ◌∙◌}
use lib.ListN.{length, get_or, set, replicate}
use lib.Seq.{get_or-set_same, get_or-set_other}
use Rattle.schedule.specs.Bounded.{all, bit, count, greatest, least, ones, total}
use Rattle.laws.proofs.Tests.{below_suc}
use Rattle.laws.proofs.Counting.{count-suc, count_le}

-- ---- counts and sums

pub count-start : (p : ℕ → Bool) → count 0 p ≡ 0
unfolding count
count-start p = refl

pub count_next : (n : ℕ) (p : ℕ → Bool) → count (n + 1) p ≡ count n p + cond (p n) 1 0
count_next n p = rw (add-one n) (count-suc n p)

pub total-start : (f : ℕ → ℕ) → total 0 f ≡ 0
unfolding total
total-start f = refl

pub total_next : (n : ℕ) (f : ℕ → ℕ) → total (n + 1) f ≡ total n f + f n
unfolding total
total_next n f = rw (add-one n)

pub ones-few : (w : ℕ) → ones w ≤ 32
unfolding ones
ones-few w = count_le 32 (bit w)

-- ---- extremes

pub greatest-start : (f : ℕ → ℕ) → greatest 0 f ≡ 0
unfolding greatest
greatest-start f = refl

pub greatest_next : (n : ℕ) (f : ℕ → ℕ) → greatest (n + 1) f ≡ max (greatest n f) (f n)
unfolding greatest
greatest_next n f = rw (add-one n)

pub least-none : (f : ℕ → ℕ) → least 0 f ≡ 0
unfolding least
least-none f = refl

pub least_start : (f : ℕ → ℕ) → least 1 f ≡ f 0
unfolding least
least_start f = refl

pub least_next : (n : ℕ) (f : ℕ → ℕ) → 1 ≤ n → least (n + 1) f ≡ min (least n f) (f n)
unfolding least
least_next zero f h = absurd (omega arith)
least_next (suc n) f h = rw (add-one (suc n))

-- ---- a test over all numbers below a bound

pub all_start : (p : ℕ → Bool) → all 0 p ≡ true
unfolding all
all_start p = refl

-- ---- a table filled from the front

-- one entry more
pub table_next : (l : List ℕ) (n v : ℕ) (f : ℕ → ℕ) → n < length l → v ≡ f n
    → ((i : ℕ) → i < n → get_or l i 0 ≡ f i) → (i : ℕ) → i < n + 1 → get_or (set l n v) i 0 ≡ f i
table_next l n v f room e h i less =
    ⊎_elim
    (λ (b : i < n). get_or-set_other l n i v 0 (omega arith) ∙ h i b)
    (λ (k : i ≡ n). subst (λ (j : ℕ). get_or (set l n v) j 0 ≡ f j) (sym k) (get_or-set_same l n v 0 room ∙ e))
    (below_suc i n (omega arith))

-- a table of zeros
pub zeros_at : (n i : ℕ) → ◌≡◌ {A = ℕ} (get_or (replicate n 0) i 0) 0
zeros_at zero i = refl
zeros_at (suc n) zero = refl
zeros_at (suc n) (suc i) = zeros_at n i
