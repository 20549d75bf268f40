-- `text::Writer::put_ticks` meets its contract. The loop's invariant: the lines of the t ticks passed are written.
-- Assumes nothing.
use Rattle.schedule.specs.Bounded.{chain}
use Rattle.text.specs.Appended.{tick_text}
use Rattle.text.specs.Wrote.{Wrote}
use Rattle.text.proofs.Writer.put_ticks.Given as goal

abbrev pub invariant-loop-t : goal.invariant-loop-t
invariant-loop-t l = Wrote l.initial.self (chain l.t (tick_text l.plan)) l.self
