-- `checks::windows::Windows::next_change` meets its contract: no window passed opens or closes before `next`. Assumes nothing.
use lib.ListN.{get_or}
use Rattle.ticks.specs.Kept.{Quiet}
use Rattle.checks.proofs.windows.Windows.next_change.Given as goal

abbrev pub invariant-loop-a : goal.invariant-loop-a
invariant-loop-a l = Quiet l.a (λ i. get_or l.self.froms.now i 0) l.t l.next × Quiet l.a (λ i. get_or l.self.ends.now i 0) l.t l.next
