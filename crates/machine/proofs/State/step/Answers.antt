use native.Mathlib.Omega.{arith}
use Rattle.bits.proofs.Apart.{lowest_lt, rest_less}
use Rattle.machine.proofs.MaskLaws.{stepping_next, stepping_end}
use Rattle.machine.proofs.State.step.Goals as goal

pub bounds-self-at : goal.bounds-self-at
bounds-self-at c = lowest_lt _ _ c.loop-rest.invariant.fits c.loop-rest-test.true c.lowest-a.ensures

pub bounds-self-at-in-loop-rest : goal.bounds-self-at-in-loop-rest
bounds-self-at-in-loop-rest c = lowest_lt _ _ c.loop-rest.invariant.fits c.loop-rest-test.true c.lowest-a.ensures

pub bounds-self-at-in-loop-rest-2 : goal.bounds-self-at-in-loop-rest-2
bounds-self-at-in-loop-rest-2 c = lowest_lt _ _ c.loop-rest.invariant.fits c.loop-rest-test.true c.lowest-a.ensures

pub bounds-self-at-in-loop-rest-3 : goal.bounds-self-at-in-loop-rest-3
bounds-self-at-in-loop-rest-3 c = lowest_lt _ _ c.loop-rest.invariant.fits c.loop-rest-test.true c.lowest-a.ensures

pub loop-rest-smaller : goal.loop-rest-smaller
loop-rest-smaller c =
    let l = c.loop-rest in
    let less = rest_less l.rest _ l.invariant.fits c.loop-rest-test.true c.lowest-a.ensures in
    omega (arith, c.without-rest.ensures, less)

pub loop-rest-preserved : goal.loop-rest-preserved
loop-rest-preserved c =
    let l = c.loop-rest in
    rw c.without-rest.ensures
    (stepping_next _ _ l.rest _ _ _ _ _ l.self.owed l.self.ends l.invariant c.loop-rest-test.true c.lowest-a.ensures
    (rw c.without-rest.ensures at c.without-rest.type_inv) c.saturating_sub.ensures c.end_after.ensures)

pub returns : goal.returns
returns c = stepping_end _ _ _ _ _ _ _ c.loop-rest.invariant c.loop-rest-test.false
