-- `checks::check_plain` meets its contract: the check without 30 and 31. Assumes nothing.
use Rattle.schedule.specs.Answers.{plain_verdict}
use Rattle.checks.proofs.check_plain.Goals as goal

pub returns : goal.returns
unfolding plain_verdict
returns c = c.check.ensures
