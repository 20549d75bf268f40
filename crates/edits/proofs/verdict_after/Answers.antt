-- `edits::verdict_after` meets its contract: the scratch has room for every plan that may be edited. Assumes nothing.
use mathlib.Core.Path.{sym}
use Rattle.edit_rules.proofs.OneEdit.{longest}
use Rattle.edits.proofs.StateLaws.{room}
use Rattle.edits.proofs.verdict_after.Goals as goal

pub slice_bounds-scratch-end : goal.slice_bounds-scratch-end
slice_bounds-scratch-end c =
    let x = c.args in
    longest x.s.now x.r.now x.e c.requires

pub slice_bounds-verdict_in-end : goal.slice_bounds-verdict_in-end
slice_bounds-verdict_in-end c =
    let x = c.args in
    room x.r.now (longest x.s.now x.r.now x.e c.requires)

pub verdict_in-requires : goal.verdict_in-requires
verdict_in-requires c =
    let x = c.args in
    let done = c.requires in
    (sym (room x.r.now (longest x.s.now x.r.now x.e done)), done)
