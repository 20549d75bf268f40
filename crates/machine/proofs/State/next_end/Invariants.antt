-- `machine::State::next_end` meets its contract: what the rest of the word has not owes something at every tick before `next`.
-- Assumes nothing.
use Rattle.machine.proofs.StretchLaws.{Ending}
use Rattle.machine.proofs.State.next_end.Given as goal

abbrev pub invariant-loop-rest : goal.invariant-loop-rest
invariant-loop-rest l = Ending l.word l.rest l.self.owed l.t l.change l.next

abbrev pub decreases-loop-rest : goal.decreases-loop-rest
decreases-loop-rest l = l.rest
