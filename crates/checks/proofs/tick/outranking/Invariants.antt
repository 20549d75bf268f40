-- `checks::tick::outranking` meets its contract: what is joined and what is left of the word come to the same. Assumes nothing.
use Prim.Native.Nat.{ℕ, ◌^◌, ◌<◌}
use mathlib.Core.Bool.{◌&&◌, ◌||◌}
use mathlib.Core.Path.{◌≡◌}
use lib.ListN.{get_or}
use Rattle.schedule.specs.Bounded.{bit}
use Rattle.checks.specs.Ticks.{any}
use Rattle.checks.proofs.tick.outranking.Given as goal

abbrev pub invariant-loop-rest : goal.invariant-loop-rest
invariant-loop-rest l =
    (l.rest < 2 ^ 32) × (l.all < 2 ^ 32)
    × ((b : ℕ) → (bit l.all b || any 32 (λ a. bit l.rest a && bit (get_or l.masks a 0) b))
    ≡ (bit 0 b || any 32 (λ a. bit l.word a && bit (get_or l.masks a 0) b)))

abbrev pub decreases-loop-rest : goal.decreases-loop-rest
decreases-loop-rest l = l.rest
