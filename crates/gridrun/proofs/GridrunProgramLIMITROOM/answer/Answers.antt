-- The answer and the buffer are what `gridrun` prints of the machine's plan, and the lines fit. Assumes nothing.
use Rattle.std.proofs.Common.{◌∙◌, ap, arith, refl, rules}
use Rattle.schedule.specs.Lines.{gridrun}
use Rattle.gridrun.proofs.AnswerLaws.{answered}
use Rattle.gridrun.proofs.GridrunProgramLIMITROOM.answer.Goals as goal

pub returns-clause-text : goal.returns-clause-text
returns-clause-text c =
    c.new.ensures ∙ (answered c.as_bytes-taken.result.now _ _ _ _ _ _ c.as_bytes-taken.ensures.within
    (search rules) c.first_record-model.ensures.0 c.second_record-choice.ensures.0 refl
    c.run-verdict.ensures.0 c.run-verdict.ensures.1 (omega arith) c.run_lines-length.ensures).1
    ∙ ap gridrun c.as_bytes-taken.ensures.value
