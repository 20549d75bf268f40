-- `text::ticks_length` meets its contract. The loop's invariant: n is the length of the lines of the t ticks passed, at most
-- 20 for each.
-- Assumes nothing.
use Prim.Native.Nat.{◌*◌, ◌≤◌}
use mathlib.Core.Path.{◌≡◌}
use Rattle.schedule.specs.Bounded.{total}
use Rattle.text.specs.Appended.{tick_length}
use Rattle.text.proofs.ticks_length.Given as goal

abbrev pub invariant-loop-t : goal.invariant-loop-t
invariant-loop-t l = (l.n ≤ 20 * l.t) × (l.n ≡ total l.t tick_length)
