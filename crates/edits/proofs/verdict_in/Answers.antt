-- `edits::verdict_in` meets its contract: the edit is made in a copy of the plan, which is then checked. Assumes nothing.
use mathlib.Core.Path.{ap, ◌∙◌}
use Rattle.schedule.specs.Answers.{plain_verdict}
use Rattle.edits.proofs.StateLaws.{copy_editable, copy_edited}
use Rattle.edits.proofs.verdict_in.Goals as goal

pub make-requires : goal.make-requires
make-requires c =
    let x = c.args in
    copy_editable x.s.now x.r.now x.e c.requires.1 _
    c.copy_from_slice.ensures.after
    (λ i _. (c.type_inv.r i).fits)

pub returns : goal.returns
returns c =
    let x = c.args in
    c.check_plain.ensures
    ∙ ap (plain_verdict x.s.now)
    (copy_edited x.s.now x.r.now x.e c.requires.1 _ _
    c.copy_from_slice.ensures.after
    c.make.ensures)
