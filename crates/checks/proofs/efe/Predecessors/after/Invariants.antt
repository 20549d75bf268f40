-- `checks::efe::Predecessors::after` meets its contract: `latest` is the latest over the predecessors passed. Assumes nothing.
use Prim.Native.Nat.{◌+◌}
use mathlib.Core.Bool.{cond}
use mathlib.Core.Path.{◌≡◌}
use lib.ListN.{get_or}
use Rattle.schedule.specs.Bounded.{bit, greatest}
use Rattle.schedule.specs.Model.{model}
use Rattle.checks.proofs.efe.Predecessors.after.Given as goal

abbrev pub invariant-loop-number : goal.invariant-loop-number
invariant-loop-number l =
    l.latest ≡ greatest l.number (λ i. cond (bit l.temporal i) (get_or l.done i 0 + (model l.self.s.now).delay i) (cond (bit l.by_data i) (get_or l.done i 0) 0))
