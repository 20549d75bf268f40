-- `tables::figures::usage` meets its contract: the sum so far, and the cores of the last word.
-- Assumes nothing.
use Prim.Native.Nat.{◌*◌, ◌≤◌}
use mathlib.Core.Path.{◌≡◌}
use Rattle.schedule.specs.Bounded.{total}
use Rattle.schedule.specs.Plan.{word_in}
use Rattle.tables.specs.Loads.{load_from}
use Rattle.tables.proofs.figures.usage.Given as goal

abbrev pub invariant-loop-t : goal.invariant-loop-t
invariant-loop-t l =
    (l.sum ≤ 32768 * l.t) × (l.sum ≡ total l.t (λ u. load_from l.widths (word_in l.grid u))) × (l.load ≡ load_from l.widths l.last)
