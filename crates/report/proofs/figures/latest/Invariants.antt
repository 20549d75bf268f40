-- `report::figures::latest` meets its contract: the greatest of the entries passed. Assumes nothing.
use mathlib.Core.Path.{◌≡◌}
use lib.ListN.{get_or}
use Rattle.schedule.specs.Bounded.{greatest}
use Rattle.report.proofs.figures.latest.Given as goal

abbrev pub invariant-loop-end : goal.invariant-loop-end
invariant-loop-end l = l.latest ≡ greatest l.end-index (λ i. get_or l.ends i 0)
