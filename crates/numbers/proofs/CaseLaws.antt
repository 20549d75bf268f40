-- What the last arm of a match on a number knows, where the others are the numbers from 0 on.
-- Assumes nothing.
use Prim.Native.Nat.{ℕ, zero, suc, ◌≤◌}
use native.Mathlib.Omega.{arith}
use mathlib.Core.Path.{◌≡◌}

-- x is none of the numbers below k
abbrev pub NoneBelow : ℕ → ℕ → Type 0
NoneBelow zero x = Unit
NoneBelow (suc k) x = NoneBelow k x × (x ≡ k → ⊥)

-- so it is k or more
pub none_below : (k x : ℕ) → NoneBelow k x → k ≤ x
none_below zero x h = omega arith
none_below (suc k) x h = omega (arith, none_below k x h.0, h.1)
