-- `checks::efe::Predecessors::froms` meets its contract: the table is right at the activities passed.
-- Assumes nothing.
use Rattle.schedule.specs.Model.{model}
use Rattle.tables.proofs.TableLaws.{Filled}
use Rattle.checks.specs.Tables.{from_of}
use Rattle.checks.proofs.efe.Predecessors.froms.Given as goal

abbrev pub invariant-loop-number : goal.invariant-loop-number
invariant-loop-number l =
    Filled l.number (from_of (model l.self.s.now) l.finishes l.counts l.ends) l.table
