use native.Mathlib.Omega.{arith}
use mathlib.Core.Path.{refl, ◌∙◌}
use lib.Bits.{or_lt}
use lib.ListN.{get_or}
use Rattle.checks.specs.Ticks.{outranking_of}
use Rattle.bits.proofs.Apart.{lowest_lt, rest_less}
use Rattle.checks.proofs.WordLoops.{join_next, joined-whole}
use Rattle.checks.proofs.tick.outranking.Goals as goal

pub loop-rest-init : goal.loop-rest-init
loop-rest-init c = (omega arith, omega arith, λ b. refl)

pub bounds-masks-a : goal.bounds-masks-a
bounds-masks-a c =
    let l = c.loop-rest in
    omega (arith, lowest_lt l.rest _ l.invariant.0 c.loop-rest-test.true c.lowest-a.ensures)

pub loop-rest-smaller : goal.loop-rest-smaller
loop-rest-smaller c =
    let l = c.loop-rest in
    omega (arith, c.without-rest.ensures, rest_less l.rest _ l.invariant.0 c.loop-rest-test.true c.lowest-a.ensures)

pub loop-rest-preserved : goal.loop-rest-preserved
loop-rest-preserved c =
    let l = c.loop-rest in
    let x = c.args in (
      c.without-rest.type_inv,
      or_lt 32 _ _ l.invariant.1 (omega arith),
      λ b.
          rw c.without-rest.ensures
          (join_next l.rest _ l.invariant.0 c.loop-rest-test.true c.lowest-a.ensures l.all _
          (λ a. get_or x.masks.now a 0) refl b
          ∙ l.invariant.2 b),
    )

pub returns : goal.returns
unfolding outranking_of
returns c =
    let l = c.loop-rest in
    let x = c.args in
    joined-whole l.all l.rest x.word (λ a. get_or x.masks.now a 0) l.invariant.1 c.loop-rest-test.false l.invariant.2
