-- `checks::windows::Windows::outside` meets its contract: `strays` holds what is active outside its window at the ticks passed. Assumes nothing.
use Prim.Native.Nat.{ℕ, ◌<◌}
use mathlib.Core.Bool.{◌&&◌, not}
use mathlib.Core.Path.{◌≡◌}
use lib.Dec.{leb, ltb}
use lib.ListN.{get_or}
use Rattle.schedule.specs.Bounded.{all, bit, ◌⇒◌}
use Rattle.schedule.specs.Plan.{plan, active}
use Rattle.ticks.specs.Kept.{Stands}
use Rattle.checks.specs.Windows.{open_of}
use Rattle.checks.proofs.windows.Windows.outside.Given as goal

abbrev pub invariant-loop-t : goal.invariant-loop-t
invariant-loop-t l =
    Stands (open_of l.self.n l.self.froms.now l.self.ends.now) l.opened l.t
    × ((a : ℕ) → a < l.self.n → bit l.strays a
    ≡ not (all l.t (λ v. active (plan l.r) v a ⇒ (leb (get_or l.self.froms.now a 0) v && ltb v (get_or l.self.ends.now a 0)))))
