-- `machine::State::step` meets its contract: the activities that the rest of the word has not are stepped. Assumes nothing.
use Rattle.machine.proofs.MaskLaws.{Stepping}
use Rattle.machine.proofs.State.step.Given as goal

abbrev pub invariant-loop-rest : goal.invariant-loop-rest
invariant-loop-rest l = Stepping l.word l.t l.rest l.initial.self.owed l.initial.self.ends l.self.owed l.self.ends

abbrev pub decreases-loop-rest : goal.decreases-loop-rest
decreases-loop-rest l = l.rest
