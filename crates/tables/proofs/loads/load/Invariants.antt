-- `tables::loads::load` meets its contract: the sum is that of the digits passed.
-- Assumes nothing.
use Prim.Native.Nat.{◌*◌, ◌+◌, ◌≤◌, ◌^◌}
use mathlib.Core.Path.{◌≡◌}
use lib.Bits.{bit_and}
use lib.ListN.{get_or}
use Rattle.schedule.specs.Bounded.{ones, total}
use Rattle.tables.proofs.loads.load.Given as goal

abbrev pub invariant-loop-plane : goal.invariant-loop-plane
invariant-loop-plane l =
    (l.worth ≡ 2 ^ l.plane-index) × (l.sum + 32 ≤ 32 * l.worth)
    × (l.sum ≡ total l.plane-index (λ i. ones (bit_and l.word (get_or l.plane-items i 0)) * 2 ^ i))
