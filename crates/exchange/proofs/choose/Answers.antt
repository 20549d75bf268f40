use native.Mathlib.Omega.{arith}
use mathlib.Core.Path.{sym}
use Rattle.records.proofs.Reading.{told_no, told-yes}
use Rattle.exchange.proofs.AlongLaws.{finish, first-refused, first_taken, inside, ends-inside, next_refused, next_taken}
use Rattle.exchange.proofs.choose.Goals as goal

pub bytes_of-requires : goal.bytes_of-requires
bytes_of-requires c = inside c.args.file.now _ 0 0 c.record_at-standing.ensures (omega arith)

pub returns-then-not-wrapper_holds : goal.returns-then-not-wrapper_holds
returns-then-not-wrapper_holds c =
    sym (first-refused c.args.file.now _ _ c.record_at-standing.ensures c.bytes_of.ensures.0
    (told_no c.wrapper_holds.ensures c.if-not-wrapper_holds.true))

pub loop-at-init : goal.loop-at-init
loop-at-init c =
    first_taken c.args.file.now _ _ c.record_at-standing.ensures c.bytes_of.ensures.0
    (told-yes c.wrapper_holds.ensures c.if-not-wrapper_holds.false)

pub bytes_of-requires-in-loop-at : goal.bytes_of-requires-in-loop-at
bytes_of-requires-in-loop-at c = c.loop-at.invariant.inside

pub bytes_of-requires-in-loop-at-2 : goal.bytes_of-requires-in-loop-at-2
bytes_of-requires-in-loop-at-2 c =
    let l = c.loop-at in
    inside c.args.file.now _ l.index l.at c.record_at-next.ensures l.invariant.here.in_file

pub returns-in-Err : goal.returns-in-Err
returns-in-Err c =
    let l = c.loop-at in
    sym (next_refused c.args.file.now _ _ l.index l.at _ _ l.invariant c.loop-at-test.true
    c.record_at-next.ensures c.bytes_of-in-loop-at.ensures.0 c.bytes_of-in-loop-at-2.ensures.0
    _ _ c.compare.ensures c.in-Err.is)

pub overflow_add-at : goal.overflow_add-at
overflow_add-at c =
    let l = c.loop-at in
    omega (
      arith,
      ends-inside c.args.file.now _ l.index l.at c.record_at-next.ensures c.loop-at-test.true,
      c.well_formed.0,
    )

pub overflow_add-index : goal.overflow_add-index
overflow_add-index c =
    omega (arith, c.loop-at.invariant.few, c.loop-at-test.true, c.well_formed.0)

pub loop-at-smaller : goal.loop-at-smaller
loop-at-smaller c =
    let l = c.loop-at in
    omega (
      arith,
      ends-inside c.args.file.now _ l.index l.at c.record_at-next.ensures c.loop-at-test.true,
    )

pub loop-at-preserved : goal.loop-at-preserved
loop-at-preserved c =
    let l = c.loop-at in
    next_taken c.args.file.now _ _ _ l.index l.at _ _ l.invariant c.loop-at-test.true
    c.record_at-next.ensures c.bytes_of-in-loop-at.ensures.0 c.bytes_of-in-loop-at-2.ensures.0
    _ _ c.compare.ensures c.in-Ok.is c.upper-standing.ensures

pub returns : goal.returns
returns c =
    let l = c.loop-at in
    sym (finish c.args.file.now _ l.index l.at l.invariant c.loop-at-test.false)
