-- `run::plan::enter` meets its contract: the activities that the rest of the word has not start at t. Assumes nothing.
use Rattle.run.proofs.StartLaws.{Entering}
use Rattle.run.proofs.plan.enter.Given as goal

abbrev pub invariant-loop-rest : goal.invariant-loop-rest
invariant-loop-rest l = Entering l.word l.t l.rest l.initial.starts l.starts

abbrev pub decreases-loop-rest : goal.decreases-loop-rest
decreases-loop-rest l = l.rest
