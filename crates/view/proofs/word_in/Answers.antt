-- `view::word_in` meets its contract: by the test of the tick. Assumes nothing.
use native.Mathlib.Omega.{arith}
use borrow.Author.Tests.{lt-ltb, le-ltb}
use Rattle.schedule.specs.Plan.{ticks_in}
use Rattle.view.specs.Grid.{grid_word}
use Rattle.view.proofs.word_in.Goals as goal

pub returns-then-t-ticks : goal.returns-then-t-ticks
unfolding grid_word
returns-then-t-ticks c =
    let x = c.args in
    let few = c.ticks.ensures in
    simp (lt-ltb x.t (ticks_in x.grid.now) (omega (arith, few, c.if-t-ticks.true)), c.word.ensures)

pub returns-else-t-ticks : goal.returns-else-t-ticks
unfolding grid_word
returns-else-t-ticks c =
    let x = c.args in
    let few = c.ticks.ensures in
    simp (le-ltb x.t (ticks_in x.grid.now) (omega (arith, few, c.if-t-ticks.false)))
