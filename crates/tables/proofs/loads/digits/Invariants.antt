-- `tables::loads::digits` meets its contract: no power passed is above the number.
-- Assumes nothing.
use Prim.Native.Nat.{◌^◌}
use mathlib.Core.Path.{◌≡◌}
use lib.Dec.{ltb}
use Rattle.laws.proofs.Lowest.{Clear}
use Rattle.tables.proofs.loads.digits.Given as goal

abbrev pub invariant-loop-d : goal.invariant-loop-d
invariant-loop-d l = (l.power ≡ 2 ^ l.d) × Clear (λ i. ltb l.x (2 ^ i)) l.d
