-- "Rank the ready by priority, highest first, then by lower activity number": the rank is a total order of the activities.
-- Assumes nothing.
use Prim.Native.Nat.{ℕ, ◌<◌}
use native.Mathlib.Decide.{dec_lt}
use native.Mathlib.Omega.{arith}
use mathlib.Core.Bool.{Bool, ◌&&◌}
use mathlib.Core.Logic.{◌⊎◌, inl, inr, ⊎_elim}
use mathlib.Core.Path.{◌≡◌}
use lib.Dec.{T, eqb, ltb}
use Rattle.schedule.specs.Bounded.{count}
use Rattle.schedule.specs.Model.{Model, priority_of}
use Rattle.schedule.specs.Machine.{before}
use Rattle.laws.proofs.Tests.{tests, T_or}
use Rattle.laws.proofs.Counting.{count_less}

-- b ranks before a, as a statement
unfoldable pub Before : Model → ℕ → ℕ → Type 0
Before m b a = (priority_of m a < priority_of m b) ⊎ ((priority_of m b ≡ priority_of m a) × (b < a))

above : Model → ℕ → ℕ → Bool
above m b a = ltb (priority_of m a) (priority_of m b)

level : Model → ℕ → ℕ → Bool
level m b a = eqb (priority_of m b) (priority_of m a) && ltb b a

pub before-says : (m : Model) (b a : ℕ) → T (before m b a) → Before m b a
unfolding before Before above level
before-says m b a t =
    ⊎_elim (λ x. inl (simp tests at x)) (λ x. inr (simp tests at x)) ((T_or (above m b a) (level m b a)).0 t)

pub before_is : (m : Model) (b a : ℕ) → Before m b a → T (before m b a)
unfolding before Before above level
before_is m b a h =
    (T_or (above m b a) (level m b a)).1 (⊎_elim (λ x. inl (simp tests x)) (λ x. inr (simp tests x)) h)

pub before_trans : (m : Model) (a b c : ℕ) → Before m a b → Before m b c → Before m a c
unfolding Before
before_trans m a b c (inl x) (inl y) = inl (omega arith)
before_trans m a b c (inl x) (inr y) = inl (omega arith)
before_trans m a b c (inr x) (inl y) = inl (omega arith)
before_trans m a b c (inr x) (inr y) = inr (omega arith, omega arith)

pub before_irreflexive : (m : Model) (a : ℕ) → ¬ Before m a a
unfolding Before
before_irreflexive m a (inl x) = omega arith
before_irreflexive m a (inr x) = omega arith

-- two different activities: one ranks before the other
pub before-total : (m : Model) (a b : ℕ) → ¬ (a ≡ b) → Before m a b ⊎ Before m b a
unfolding Before
before-total m a b d =
    elim (dec_lt (priority_of m b) (priority_of m a)) [
      | yes x ↦ inl (inl x)
      | no x ↦ elim (dec_lt (priority_of m a) (priority_of m b)) [
        | yes y ↦ inr (inl y)
        | no y ↦ elim (dec_lt a b) [
          | yes z ↦ inl (inr (omega arith, z))
          | no z ↦ inr (inr (omega arith, omega arith))
        ]
      ]
    ]

-- how many activities rank before a
abbrev pub place : Model → ℕ → ℕ
place m a = count m.activities (λ b. before m b a)

-- one that ranks before another has a lower place
pub place_less : (m : Model) (b a : ℕ) → b < m.activities → Before m b a → place m b < place m a
place_less m b a l h =
    count_less m.activities (λ i. before m i b) (λ i. before m i a)
    (λ i _ t. before_is m i a (before_trans m i b a (before-says m i b t) h))
    b l (before_is m b a h) (λ t. before_irreflexive m b (before-says m b b t))
