-- Each call's answer is what `gridcheck` names there, and the lines fit. Assumes nothing.
use Rattle.std.proofs.Common.{◌∙◌, ap, arith}
use Rattle.schedule.specs.Lines.{gridcheck}
use Rattle.gridcheck.proofs.AnswerLaws.{answered}
use Rattle.gridcheck.proofs.GridcheckProgramLIMITROOM.answer.Goals as goal

pub returns-clause-text : goal.returns-clause-text
returns-clause-text c =
    c.new.ensures ∙ (answered c.as_bytes-taken.result.now _ c.as_bytes-taken.ensures.within c.first_record-model.ensures.0
    c.second_record-plan.ensures.0 c.check_plain-plain.ensures c.check_strict-strict.ensures (omega arith)
    c.check_lines-length.ensures).1 ∙ ap gridcheck c.as_bytes-taken.ensures.value
