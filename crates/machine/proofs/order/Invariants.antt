-- `machine::order` meets its contract: each activity passed stands at its place.
-- Assumes nothing.
use Rattle.schedule.specs.Model.{model}
use Rattle.machine.proofs.OrderLaws.{Placed}
use Rattle.machine.proofs.order.Given as goal

abbrev pub invariant-loop-a : goal.invariant-loop-a
invariant-loop-a l = Placed (model l.s) l.a l.order
