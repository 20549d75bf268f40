-- `tables::each::table` meets its contract: the entries passed are filled in, and the others are 0.
-- Assumes nothing.
use Prim.Native.Nat.{ℕ, ◌<◌}
use mathlib.Core.Path.{◌≡◌}
use Rattle.tables.proofs.TableLaws.{FilledTo}
use Rattle.tables.proofs.each.table.Given as goal

abbrev pub invariant-loop-a : goal.invariant-loop-a
invariant-loop-a g l =
    (f : ℕ → ℕ) → ((a y : ℕ) → a < l.n → goal.F-post g l.value a y → y ≡ f a) → FilledTo g.row.N l.a f l.entries
