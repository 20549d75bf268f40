-- `machine::inputs::Tables::first_late` meets its contract: every activity passed keeps its deadline. Assumes nothing.
use Prim.Native.Nat.{ℕ, ◌<◌}
use mathlib.Core.Bool.{false, not}
use mathlib.Core.Path.{◌≡◌}
use Rattle.machine.specs.Ending.{in_time_from}
use Rattle.machine.proofs.inputs.Tables.first_late.Given as goal

abbrev pub invariant-loop-a : goal.invariant-loop-a
invariant-loop-a l = (k : ℕ) → k < l.a → not (in_time_from l.self.releases l.periods l.ends k) ≡ false
