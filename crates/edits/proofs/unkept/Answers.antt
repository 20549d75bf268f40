-- `edits::unkept` meets its contract: the form of the records, then 61. Assumes nothing.
use Rattle.edits.proofs.StateLaws.{unkept_records, unkept_61}
use Rattle.edits.proofs.unkept.Goals as goal

pub returns-in-Ok : goal.returns-in-Ok
returns-in-Ok c =
    let x = c.args in
    unkept_61 x.s.now x.r.now _ c.refusal.ensures c.in-Ok.is

pub returns-in-Err : goal.returns-in-Err
returns-in-Err c =
    let x = c.args in
    unkept_records x.s.now x.r.now _ c.refusal.ensures _ c.in-Err.is
