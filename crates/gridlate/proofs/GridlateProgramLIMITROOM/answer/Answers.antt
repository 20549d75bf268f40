-- The answer and the list are what `gridlate` prints, and the lines fit. Assumes nothing.
use Rattle.std.proofs.Common.{◌∙◌, arith, rules, ap}
use Rattle.records.specs.Rows.{sizes_of}
use Rattle.records.specs.declared.model.Sizes.{Sizes}
use Rattle.schedule.specs.Lines.{gridlate}
use Rattle.gridlate.proofs.AnswerLaws.{answered}
use Rattle.gridlate.proofs.GridlateProgramLIMITROOM.answer.Goals as goal

pub returns-clause-text : goal.returns-clause-text
unfolding sizes_of
returns-clause-text c =
    c.new.ensures ∙ (answered c.as_bytes-taken.result.now _ _ _ _ _ _ c.as_bytes-taken.ensures.within
    (search rules) c.first_record-model.ensures.0 c.second_record-choice.ensures.0
    (ap (λ (r : Sizes). r.activities) c.counts-sizes.ensures) c.lateness-verdict.ensures.0 c.lateness-verdict.ensures.1
    (omega arith) c.late_lines-length.ensures).1 ∙ ap gridlate c.as_bytes-taken.ensures.value
