-- `machine::inputs::Tables::select` meets its contract: the walk along the places passed, and the others make no difference.
-- Assumes nothing.
use mathlib.Core.Path.{◌≡◌}
use Rattle.machine.specs.Masks.{walked_from}
use Rattle.machine.proofs.inputs.Tables.select.Given as goal

abbrev pub invariant-loop-k : goal.invariant-loop-k
invariant-loop-k l = l.walk ≡ walked_from l.ready l.self l.k
