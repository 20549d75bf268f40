-- `tables::counts::counts` meets its contract: the table counts the ticks passed.
-- Assumes nothing.
use Prim.Native.Nat.{ℕ, ◌<◌}
use mathlib.Core.Path.{◌≡◌}
use lib.ListN.{length, get_or}
use Rattle.schedule.specs.Bounded.{bit, count}
use Rattle.schedule.specs.Model.{model}
use Rattle.schedule.specs.Plan.{word_in}
use Rattle.tables.proofs.counts.counts.Given as goal

abbrev pub invariant-loop-t : goal.invariant-loop-t
invariant-loop-t l =
    (l.t-end ≡ (model l.s).horizon) × (l.t-end < 65536) × (length l.counted ≡ 32)
    × ((i : ℕ) → i < 32 → get_or l.counted i 0 ≡ count l.t (λ v. bit (word_in l.grid v) i))
