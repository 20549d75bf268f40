-- Where nothing changes, what is known stands.
-- Assumes nothing.
use Prim.Native.Nat.{ℕ, ◌+◌, ◌≤◌, ◌<◌}
use native.Mathlib.Omega.{arith}
use mathlib.Core.Bool.{◌&&◌, cond}
use mathlib.Core.Path.{◌≡◌, ap}
use lib.Dec.{ltb}
use Rattle.laws.proofs.Tests.{up_to}
use Rattle.laws.proofs.Between.{sooner_le}
use Rattle.ticks.specs.declared.Kept.{Kept}
use Rattle.ticks.specs.Kept.{Quiet, Stands}

pub quiet_start : (f : ℕ → ℕ) (t u : ℕ) → Quiet 0 f t u
quiet_start f t u a l = absurd (omega arith)

-- the sooner of the next change and one tick more
pub quiet_next : (n : ℕ) (f : ℕ → ℕ) (t u v : ℕ) → v ≡ cond (ltb t (f n) && ltb (f n) u) (f n) u
    → Quiet n f t u → Quiet (n + 1) f t v
quiet_next n f t u v e q a l =
    up_to (λ a. t < f a → v ≤ f a) n
    (λ a la h. omega (arith, q a la h, (sooner_le u (f n) t v e).0)) (sooner_le u (f n) t v e).1 a (omega arith)

-- a change that comes sooner leaves the others quiet
pub quiet_sooner : (n : ℕ) (f : ℕ → ℕ) (t u v next : ℕ) → v ≡ cond (ltb t next && ltb next u) next u
    → Quiet n f t u → Quiet n f t v
quiet_sooner n f t u v next e q a l h = omega (arith, q a l h, (sooner_le u next t v e).0)

pub stands_unknown : (word : ℕ → ℕ) (known : Kept) (t : ℕ) → known ≡ record { word = 0; until = 0 } → Stands word known t
stands_unknown word known t e v h l =
    let z : known.until ≡ 0 = ap (λ (y : Kept). y.until) e in absurd (omega (arith, l, z))

pub stands_on : (word : ℕ → ℕ) (known : Kept) (t : ℕ) → Stands word known t → Stands word known (t + 1)
stands_on word known t h v k l = h v (omega arith) l
