-- `checks::efe::Predecessors::finishes` meets its contract: the table is right at the activities passed, and small. Assumes nothing.
use Prim.Native.Nat.{ℕ, ◌*◌, ◌≤◌}
use lib.ListN.{get_or}
use Rattle.schedule.specs.Model.{model}
use Rattle.schedule.specs.Plan.{plan}
use Rattle.tables.proofs.TableLaws.{Filled}
use Rattle.checks.specs.Tables.{finish_of}
use Rattle.checks.proofs.EfeTable.{Brief}
use Rattle.checks.proofs.efe.Predecessors.finishes.Given as goal

abbrev pub invariant-loop-number : goal.invariant-loop-number
invariant-loop-number l =
    Filled l.number (finish_of (model l.self.s.now) (plan l.r)) l.table
    × ((i : ℕ) → get_or l.table i 0 ≤ 131072 * l.number) × Brief (model l.self.s.now) (plan l.r)
