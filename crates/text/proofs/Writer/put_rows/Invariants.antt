-- `text::Writer::put_rows` meets its contract. The loop's invariant: the lines of the activities passed are written.
-- Assumes nothing.
use Rattle.schedule.specs.Bounded.{chain}
use Rattle.text.specs.Rows.{late_text}
use Rattle.text.specs.Wrote.{Wrote}
use Rattle.text.proofs.Writer.put_rows.Given as goal

abbrev pub invariant-loop-a : goal.invariant-loop-a
invariant-loop-a l = Wrote l.initial.self (chain l.a (late_text l.rows)) l.self
