-- `report::rows::fill` meets its contract: the rows passed are written, the others as they were. Assumes nothing.
use mathlib.Core.Path.{◌≡◌}
use Rattle.laws.proofs.LatenessLaws.{rows_then}
use Rattle.report.specs.Tables.{row_from}
use Rattle.report.proofs.rows.fill.Given as goal

abbrev pub invariant-loop-a : goal.invariant-loop-a
invariant-loop-a l = l.list ≡ rows_then l.a (row_from l.releases l.periods l.ends) l.initial.list
