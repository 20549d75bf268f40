-- `report::figures::core_ticks` meets its contract: the sum of the products passed, each of which fits. Assumes nothing.
use Prim.Native.Nat.{◌*◌, ◌≤◌}
use mathlib.Core.Path.{◌≡◌}
use lib.ListN.{get_or}
use Rattle.schedule.specs.Bounded.{total}
use Rattle.report.proofs.figures.core_ticks.Given as goal

abbrev pub invariant-loop-a : goal.invariant-loop-a
invariant-loop-a l = record {
  small : l.all ≤ 16711425 * l.a;
  sum : l.all ≡ total l.a (λ i. get_or l.durations i 0 * get_or l.widths i 0);
}
