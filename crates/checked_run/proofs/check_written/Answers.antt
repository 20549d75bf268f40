-- `checked_run::check_written` meets its contract: both verdicts are on the front of the buffer. Assumes nothing.
use mathlib.Core.Path.{ap, ap₂, ◌∙◌}
use Rattle.schedule.specs.Answers
use Rattle.schedule.specs.Answers.{Answer, plain_verdict, strict_verdict}
use Rattle.schedule.specs.Numbers.{written_numbers}
use Rattle.checked_run.specs.Checked.{ran}
use Rattle.checked_run.proofs.check_written.Goals as goal

pub returns : goal.returns
returns c =
    let part = c.front-plan.ensures.0 in
    let x = c.args in
    ap₂ (λ (plain strict : Answer Answers.Figures). ran (written_numbers x.written) plain strict)
    (c.check_plain.ensures ∙ ap (plain_verdict x.model.now) part)
    (c.check_strict.ensures ∙ ap (strict_verdict x.model.now) part)
