use Prim.Native.Nat.{◌<◌, ◌^◌}
use mathlib.Core.Path.{subst}
use native.Mathlib.Omega.{arith}
use Rattle.bits.proofs.Apart.{lowest_lt, rest_less}
use Rattle.checks.specs.Ticks.{contending_of}
use Rattle.checks.proofs.WordLoops.{sifted_start, sifted_next, sifted_whole}
use Rattle.checks.proofs.tick.Trial.contending.Goals as goal

pub loop-rest-init : goal.loop-rest-init
loop-rest-init c = sifted_start c.args.waiting _ (omega arith)

pub fits-yes-requires : goal.fits-yes-requires
fits-yes-requires c =
    let l = c.loop-rest in
    lowest_lt l.rest _ l.invariant.fits.0 c.loop-rest-test.true c.lowest-b.ensures

pub loop-rest-smaller : goal.loop-rest-smaller
loop-rest-smaller c =
    let l = c.loop-rest in
    omega (arith, c.without-rest.ensures, rest_less l.rest _ l.invariant.fits.0 c.loop-rest-test.true c.lowest-b.ensures)

pub loop-rest-preserved : goal.loop-rest-preserved
loop-rest-preserved c =
    let l = c.loop-rest in
    let x = c.args in
    rw (c.without-rest.ensures, c.mark-mask.ensures)
    (sifted_next x.waiting l.rest l.mask _ _ c.fits-yes.result l.invariant
    c.loop-rest-test.true c.lowest-b.ensures c.fits-yes.ensures
    (subst (λ w. w < 2 ^ 32) c.without-rest.ensures c.without-rest.type_inv)
    (subst (λ w. w < 2 ^ 32) c.mark-mask.ensures c.mark-mask.type_inv))

pub returns : goal.returns
unfolding contending_of
returns c =
    let l = c.loop-rest in
    sifted_whole c.args.waiting l.rest l.mask _ l.invariant c.loop-rest-test.false
