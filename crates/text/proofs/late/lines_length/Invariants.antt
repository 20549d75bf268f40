-- `text::late::lines_length` meets its contract. The loop's invariant: n is the length of the lines of the activities passed, at
-- most 23 for each.
-- Assumes nothing.
use Prim.Native.Nat.{◌*◌, ◌≤◌}
use mathlib.Core.Path.{◌≡◌}
use lib.ListN.{length}
use Rattle.schedule.specs.Bounded.{chain}
use Rattle.text.specs.Rows.{late_text}
use Rattle.text.proofs.late.lines_length.Given as goal

abbrev pub invariant-loop-a : goal.invariant-loop-a
invariant-loop-a l = (l.n ≤ 23 * l.a) × (l.n ≡ length (chain l.a (late_text l.rows)))
