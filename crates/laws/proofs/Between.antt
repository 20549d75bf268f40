-- Ticks between two on one side of a bound, the sooner of two ticks that come after one, and a delay that has passed.
-- Assumes nothing.
use Prim.Native.Nat.{ℕ, ◌+◌, ◌-◌, ◌≤◌, ◌<◌}
use native.Mathlib.Decide.{dec_lt}
use native.Mathlib.Omega.{arith}
use mathlib.Core.Bool.{Bool, ◌&&◌, cond}
use mathlib.Core.Path.{◌≡◌, sym, ap, ap₂, ◌∙◌}
use lib.Dec.{leb, ltb}
use borrow.Author.Tests.{le-leb, lt-leb, lt-ltb, le-ltb}
use Rattle.laws.proofs.Tests.{T_leb}
use Rattle.laws.proofs.Counting.{T_ext}

-- a bound that is not passed from t to v
pub between_leb : (x t v : ℕ) → t ≤ v → (t < x → v < x) → leb x v ≡ leb x t
between_leb x t v h k =
    elim (dec_lt t x) [
      | yes l ↦ lt-leb x v (k l) ∙ sym (lt-leb x t l)
      | no l ↦ le-leb x v (omega arith) ∙ sym (le-leb x t (omega arith))
    ]

pub between_ltb : (x t v : ℕ) → t ≤ v → (t < x → v < x) → ltb v x ≡ ltb t x
between_ltb x t v h k =
    elim (dec_lt t x) [
      | yes l ↦ lt-ltb v x (k l) ∙ sym (lt-ltb t x l)
      | no l ↦ le-ltb v x (omega arith) ∙ sym (le-ltb t x (omega arith))
    ]

-- the sooner of two ticks, where the second comes after tick t
pub sooner_le : (next other t r : ℕ) → r ≡ cond (ltb t other && ltb other next) other next
    → (r ≤ next) × (t < other → r ≤ other)
sooner_le next other t r e = (first, second)
  where
    both : t < other → other < next → r ≡ other
    both l k = e ∙ ap₂ (λ (x y : Bool). cond (x && y) other next) (lt-ltb t other l) (lt-ltb other next k)

    later : t < other → next ≤ other → r ≡ next
    later l k = e ∙ ap₂ (λ (x y : Bool). cond (x && y) other next) (lt-ltb t other l) (le-ltb other next k)

    earlier : other ≤ t → r ≡ next
    earlier l = e ∙ ap (λ (x : Bool). cond (x && ltb other next) other next) (le-ltb t other l)

    first : r ≤ next
    first =
        elim (dec_lt t other) [
          | yes l ↦ elim (dec_lt other next) [ yes k ↦ omega (arith, both l k) | no k ↦ omega (arith, later l (omega arith)) ]
          | no l ↦ omega (arith, earlier (omega arith))
        ]

    second : t < other → r ≤ other
    second l = elim (dec_lt other next) [ yes k ↦ omega (arith, both l k) | no k ↦ omega (arith, later l (omega arith)) ]

-- an end that has come leaves t less it for the delay
pub passed-from : (end delay t : ℕ) → end ≤ t → leb delay (t - end) ≡ leb (end + delay) t
passed-from end delay t h =
    T_ext _ _ (λ x. (T_leb (end + delay) t).1 (omega (arith, (T_leb delay (t - end)).0 x)))
    (λ x. (T_leb delay (t - end)).1 (omega (arith, (T_leb (end + delay) t).0 x)))
