-- `edits::keep` meets its contract: refused with nothing asked, and otherwise the direct edit. Assumes nothing.
use mathlib.Core.Path.{◌∙◌}
use Rattle.edits.proofs.StateLaws.{unkept_answer, unkept_leaves, kept-answer, kept-state, kept-bytes}
use Rattle.edits.proofs.keep.Goals as goal

pub returns-in_default : goal.returns-in_default
returns-in_default c =
    let x = c.args in
    let is = c.in_default.is in
    let same = unkept_leaves x.model.now x.plan.now x.state c.unkept.result c.unkept.ensures is in (
      unkept_answer x.model.now x.plan.now x.state c.unkept.result c.unkept.ensures is,
      same.0,
      same.1,
    )

pub returns : goal.returns
returns c =
    let x = c.args in
    let is = c.in-Some.is in
    let made = c.apply_with-step.ensures in (
      c.kept.ensures ∙ made.0 ∙ kept-answer x.model.now x.plan.now x.state _ is,
      made.1 ∙ kept-state x.model.now x.plan.now x.state _ is,
      made.2 ∙ kept-bytes x.model.now x.plan.now x.state _ is,
    )
