use native.Mathlib.Omega.{arith}
use Rattle.bits.proofs.Apart.{lowest_lt, rest_less}
use Rattle.machine.proofs.StretchLaws.{ending_next, ending_end}
use Rattle.machine.proofs.State.next_end.Goals as goal

pub bounds-self-a : goal.bounds-self-a
bounds-self-a c =
    let l = c.loop-rest in
    omega (arith, lowest_lt l.rest _ l.invariant.fits c.loop-rest-test.true c.lowest-a.ensures)

pub loop-rest-smaller : goal.loop-rest-smaller
loop-rest-smaller c =
    let l = c.loop-rest in
    let less = rest_less l.rest _ l.invariant.fits c.loop-rest-test.true c.lowest-a.ensures in
    omega (arith, c.without-rest.ensures, less)

pub loop-rest-preserved : goal.loop-rest-preserved
loop-rest-preserved c =
    let l = c.loop-rest in
    rw c.without-rest.ensures
    (ending_next _ l.rest _ _ _ _ l.next _ _ l.invariant c.loop-rest-test.true c.lowest-a.ensures
    (rw c.without-rest.ensures at c.without-rest.type_inv) c.saturating_add.ensures c.min-next.ensures)

pub returns : goal.returns
returns c = ending_end _ _ _ _ _ _ c.loop-rest.invariant c.loop-rest-test.false
