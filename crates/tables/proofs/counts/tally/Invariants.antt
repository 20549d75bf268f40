-- `tables::counts::tally` meets its contract: what is counted and what is left of the word come to the same. Assumes nothing.
use Prim.Native.Nat.{ℕ, ◌+◌, ◌^◌, ◌<◌}
use mathlib.Core.Bool.{cond}
use mathlib.Core.Path.{◌≡◌}
use lib.ListN.{length, get_or}
use Rattle.schedule.specs.Bounded.{bit}
use Rattle.tables.proofs.counts.tally.Given as goal

abbrev pub invariant-loop-rest : goal.invariant-loop-rest
invariant-loop-rest l =
    (l.rest < 2 ^ 32) × (length l.counts ≡ 32)
    × ((i : ℕ) → i < 32 → get_or l.counts i 0 + cond (bit l.rest i) 1 0 ≡ get_or l.initial.counts i 0 + cond (bit l.word i) 1 0)

abbrev pub decreases-loop-rest : goal.decreases-loop-rest
decreases-loop-rest l = l.rest
