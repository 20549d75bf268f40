-- `grid::put_word` meets its contract: the word at its place, where it fits whole.
-- Assumes nothing.
use native.Mathlib.Omega.{arith}
use Rattle.records.proofs.WriteLaws.{put_at, word_out}
use Rattle.records.proofs.grid.put_word.Goals as goal

pub returns-then-t-le-LAST : goal.returns-then-t-le-LAST
returns-then-t-le-LAST c =
    put_at _ _ _ _ _ c.put32.ensures c.tick_at.ensures

pub returns-else-t-le-LAST : goal.returns-else-t-le-LAST
returns-else-t-le-LAST c =
    let x = c.args in
    word_out x.t x.word x.grid.now (omega (arith, c.if-t-le-LAST.false))
