-- `tables::each::word` meets its contract: the word holds those that pass among the activities passed.
-- Assumes nothing.
use Prim.Native.Nat.{ℕ, ◌<◌}
use mathlib.Core.Bool.{Bool}
use mathlib.Core.Path.{◌≡◌}
use Rattle.schedule.specs.Bounded.{word_of}
use Rattle.tables.proofs.each.word.Given as goal

abbrev pub invariant-loop-a : goal.invariant-loop-a
invariant-loop-a g l =
    (p : ℕ → Bool) → ((a : ℕ) (y : Bool) → a < l.fn.places.n → goal.F-post g l.test a y → y ≡ p a) → l.word ≡ word_of l.a p
