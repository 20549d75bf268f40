-- `plan::put_word` meets its contract: the word at its place behind the rows.
-- Assumes nothing.
use Prim.Native.Nat.{◌+◌}
use mathlib.Core.Path.{ap₂}
use Rattle.records.proofs.WriteLaws.{put_at}
use Rattle.records.proofs.plan.put_word.Goals as goal

pub returns : goal.returns
returns c =
    put_at _ _ _ _ _ c.put32.ensures (ap₂ ◌+◌ c.grid_at.ensures c.tick_at.ensures)
