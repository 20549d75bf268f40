-- `text::store_decimal` meets its contract. The loop's invariant: where digits are left, the rest has as many as there are places
-- in front, and these, stored there, give all digits stored; where none is left, all digits are stored.
-- Assumes nothing.
use Prim.Native.Nat.{◌≤◌, ◌<◌}
use mathlib.Core.Path.{◌≡◌}
use lib.ListN.{length}
use lib.Seq.{sets}
use Rattle.schedule.specs.Lines.{decimal}
use Rattle.text.proofs.store_decimal.Given as goal

abbrev pub invariant-loop-i : goal.invariant-loop-i
invariant-loop-i l = record {
  room : (l.i ≤ length (decimal l.n)) × (length l.out ≡ length l.initial.out);
  left : 1 ≤ l.i → l.i ≡ length (decimal l.rest);
  stored : 1 ≤ l.i → sets l.out l.at (decimal l.rest) ≡ sets l.initial.out l.at (decimal l.n);
  whole : l.i < 1 → l.out ≡ sets l.initial.out l.at (decimal l.n);
}
