-- `text::store_hex` meets its contract. The loop's invariant: the first i digits are stored.
-- Assumes nothing.
use Prim.Native.Nat.{◌+◌}
use Rattle.text.specs.Appended.{Appended}
use Rattle.text.proofs.DigitLaws.{first_digits}
use Rattle.text.proofs.store_hex.Given as goal

abbrev pub invariant-loop-i : goal.invariant-loop-i
invariant-loop-i l = Appended l.at (first_digits l.word l.i) l.initial.out (l.at + l.i) l.out
