-- `edits::stroke::row_in` meets its contract: tick by tick the row of the ticks so far. Assumes nothing.
use Rattle.schedule.specs.Bounded.{bit}
use Rattle.schedule.specs.Plan.{word_in}
use Rattle.edits.proofs.ScanLaws.{RowTo}
use Rattle.edits.proofs.stroke.row_in.Given as goal

abbrev pub invariant-loop-t : goal.invariant-loop-t
invariant-loop-t l = RowTo (λ u. bit (word_in l.grid u) l.a) l.t l.row.start l.row.end
