use native.Mathlib.Omega.{arith}
use mathlib.Core.Path.{◌≡◌, ap, ◌∙◌}
use Rattle.schedule.specs.Bounded.{bit}
use Rattle.edits.proofs.ScanLaws.{row-start, row_next}
use Rattle.edits.proofs.stroke.row_in.Goals as goal

pub loop-t-init : goal.loop-t-init
loop-t-init c = row-start _

pub loop-t-preserved : goal.loop-t-preserved
loop-t-preserved c =
    let l = c.loop-t in
    let a = c.args.a in
    row_next _ l.t _ _ _ _ _ l.invariant (c.has.ensures ∙ ap (λ w. bit w a) c.word-word.ensures)
    c.seen-row.ensures.0 c.seen-row.ensures.1

pub returns : goal.returns
returns c =
    let l = c.loop-t in
    let end : l.t ≡ c.args.h = omega arith in
    (rw end at l.invariant.from_first, rw end at l.invariant.to_last)
