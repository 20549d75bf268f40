-- `machine::inputs::Tables::next_change` meets its contract: of the activities gone through, nothing passes before `next`.
-- Assumes nothing.
use Rattle.machine.specs.Stretches.{Unchanged}
use Rattle.machine.proofs.inputs.Tables.next_change.Given as goal

abbrev pub invariant-loop-a : goal.invariant-loop-a
invariant-loop-a l = Unchanged l.a l.self l.ends l.t l.next
