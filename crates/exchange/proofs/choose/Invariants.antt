-- `exchange::choose` meets its contract: what is left of the walk gives the file's answer. Assumes nothing.
use Prim.Native.Nat.{◌-◌}
use lib.ListN.{length}
use Rattle.exchange.proofs.AlongLaws.{Along}
use Rattle.exchange.proofs.choose.Given as goal

abbrev pub invariant-loop-at : goal.invariant-loop-at
invariant-loop-at l = Along l.file l.standing l.index l.at

abbrev pub decreases-loop-at : goal.decreases-loop-at
decreases-loop-at l = length l.file - l.at
