-- `machine::tick::Walk::take` meets its contract: none is ready at the place, or the one there is passed.
-- Assumes nothing.
use native.Mathlib.Omega.{arith}
use lib.Bits.{and_le_r}
use borrow.Author.Tests.{eq-eqb, ne_eqb}
use Rattle.bits.proofs.Apart.{lowest_lt}
use Rattle.machine.specs.Masks.{taking}
use Rattle.machine.proofs.tick.Walk.take.Goals as goal

pub returns-then-here-eq0 : goal.returns-then-here-eq0
unfolding taking
returns-then-here-eq0 c = rw (eq-eqb _ 0 c.if-here-eq0.true)

pub bounds-widths-a : goal.bounds-widths-a
bounds-widths-a c =
    let x = c.args in
    lowest_lt _ c.lowest-a.result (omega (arith, and_le_r x.self.rest x.mask)) c.if-here-eq0.false c.lowest-a.ensures

pub returns : goal.returns
unfolding taking
returns c =
    rw (ne_eqb _ 0 c.if-here-eq0.false, ← c.lowest-a.ensures) c.pass.ensures
