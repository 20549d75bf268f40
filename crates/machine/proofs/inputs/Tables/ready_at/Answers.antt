-- `machine::inputs::Tables::ready_at` meets its contract: the four tests in turn.
-- Assumes nothing.
use Rattle.std.proofs.Common.{rules}
use Rattle.machine.specs.Masks.{ready_from}
use Rattle.machine.proofs.inputs.Tables.ready_at.Goals as goal
use Rattle.machine.proofs.inputs.Tables.ready_at.Goals.{then-owed-a-gt0, else-owed-a-gt0, then-self-a, else-self-a}

pub returns-then-covered : goal.returns-then-covered
unfolding ready_from
returns-then-covered c = elim c.if-owed-a-gt0.branch [
  | then-owed-a-gt0 w ↦ elim c.if-self-a.branch [ then-self-a v ↦ search rules | else-self-a v ↦ search rules ]
  | else-owed-a-gt0 w ↦ elim c.if-self-a.branch [ then-self-a v ↦ search rules | else-self-a v ↦ search rules ]
]

pub returns-else-covered : goal.returns-else-covered
unfolding ready_from
returns-else-covered c = elim c.if-owed-a-gt0.branch [
  | then-owed-a-gt0 w ↦ elim c.if-self-a.branch [ then-self-a v ↦ search rules | else-self-a v ↦ search rules ]
  | else-owed-a-gt0 w ↦ elim c.if-self-a.branch [ then-self-a v ↦ search rules | else-self-a v ↦ search rules ]
]
