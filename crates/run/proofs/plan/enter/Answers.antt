use native.Mathlib.Omega.{arith}
use Rattle.bits.proofs.Apart.{lowest_lt, rest_less}
use Rattle.run.proofs.StartLaws.{entering_next, entering_end}
use Rattle.run.proofs.plan.enter.Goals as goal

pub bounds-starts-a : goal.bounds-starts-a
bounds-starts-a c =
    lowest_lt _ _ c.loop-rest.invariant.fits c.loop-rest-test.true c.lowest-a.ensures

pub loop-rest-smaller : goal.loop-rest-smaller
loop-rest-smaller c =
    let l = c.loop-rest in
    let less = rest_less l.rest _ l.invariant.fits c.loop-rest-test.true c.lowest-a.ensures in
    omega (arith, c.without-rest.ensures, less)

pub loop-rest-preserved : goal.loop-rest-preserved
loop-rest-preserved c =
    let l = c.loop-rest in
    rw c.without-rest.ensures
    (entering_next _ _ l.rest _ _ l.starts l.invariant c.loop-rest-test.true c.lowest-a.ensures
    (rw c.without-rest.ensures at c.without-rest.type_inv))

pub returns : goal.returns
returns c = entering_end _ _ _ _ _ c.loop-rest.invariant c.loop-rest-test.false
