-- `tables::each::greatest` meets its contract: the greatest of the values passed.
-- Assumes nothing.
use Prim.Native.Nat.{ℕ, ◌<◌}
use mathlib.Core.Path.{◌≡◌}
use Rattle.schedule.specs.Bounded.{greatest}
use Rattle.tables.proofs.each.greatest.Given as goal

abbrev pub invariant-loop-a : goal.invariant-loop-a
invariant-loop-a g l =
    (f : ℕ → ℕ) → ((a y : ℕ) → a < l.n → goal.F-post g l.value a y → y ≡ f a) → l.most ≡ greatest l.a f
