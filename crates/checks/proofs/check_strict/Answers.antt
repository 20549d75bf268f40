-- `checks::check_strict` meets its contract: the check with 30 and 31. Assumes nothing.
use Rattle.schedule.specs.Answers.{strict_verdict}
use Rattle.checks.proofs.check_strict.Goals as goal

pub returns : goal.returns
unfolding strict_verdict
returns c = c.check.ensures
