use native.Mathlib.Omega.{arith}
use mathlib.Core.Path.{refl, ◌∙◌}
use lib.ListN.{length-set}
use Rattle.schedule.specs.Bounded.{bit}
use Rattle.bits.proofs.Apart.{lowest_lt, rest_less}
use Rattle.tables.proofs.CountLaws.{at_most_one, none_counted, tally_next}
use Rattle.tables.proofs.counts.tally.Goals as goal

pub loop-rest-init : goal.loop-rest-init
loop-rest-init c = (omega arith, c.requires.0, λ i l. refl)

pub bounds-counts-a : goal.bounds-counts-a
bounds-counts-a c =
    let l = c.loop-rest in
    omega (arith, l.invariant.1, lowest_lt l.rest _ l.invariant.0 c.loop-rest-test.true c.lowest-a.ensures)

pub overflow_add-counts : goal.overflow_add-counts
overflow_add-counts c =
    let l = c.loop-rest in
    let low = lowest_lt l.rest _ l.invariant.0 c.loop-rest-test.true c.lowest-a.ensures in
    omega (
      arith,
      l.invariant.2 c.lowest-a.result low,
      c.requires.1 c.lowest-a.result,
      at_most_one (bit c.args.word c.lowest-a.result),
    )

pub bounds-counts-a-in-loop-rest : goal.bounds-counts-a-in-loop-rest
bounds-counts-a-in-loop-rest c =
    let l = c.loop-rest in
    omega (arith, l.invariant.1, lowest_lt l.rest _ l.invariant.0 c.loop-rest-test.true c.lowest-a.ensures)

pub loop-rest-smaller : goal.loop-rest-smaller
loop-rest-smaller c =
    let l = c.loop-rest in
    let less = rest_less l.rest _ l.invariant.0 c.loop-rest-test.true c.lowest-a.ensures in
    omega (arith, c.without-rest.ensures, less)

pub loop-rest-preserved : goal.loop-rest-preserved
loop-rest-preserved c =
    let l = c.loop-rest in (
      c.without-rest.type_inv,
      simp length-set l.invariant.1,
      λ i h.
          rw c.without-rest.ensures
          (tally_next l.rest _ l.invariant.0 c.loop-rest-test.true c.lowest-a.ensures l.counts l.invariant.1 i h
          ∙ l.invariant.2 i h),
    )

pub returns : goal.returns
returns c =
    let l = c.loop-rest in
    record {
      sized = l.invariant.1;
      one_more = λ i h. omega (arith, l.invariant.2 i h, none_counted l.rest i c.loop-rest-test.false);
    }
