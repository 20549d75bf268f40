-- `rows::answer` meets its contract: each way out has the test that led there.
-- Assumes nothing.
use mathlib.Core.Path.{ap}
use Rattle.schedule.specs.Answers.{refused}
use Rattle.records.proofs.rows.answer.Goals as goal

pub returns-then-holds : goal.returns-then-holds
returns-then-holds c = rw c.if-holds.true

pub returns-else-holds : goal.returns-else-holds
returns-else-holds c = rw c.if-holds.false (ap refused c.refusal.ensures)
