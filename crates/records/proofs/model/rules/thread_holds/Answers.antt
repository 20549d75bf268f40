-- `model::rules::thread_holds` meets its contract: the tests are those of the definition.
-- Assumes nothing.
use Rattle.std.proofs.Common.{rules}
use Rattle.records.specs.Rows.{thread_holds}
use Rattle.records.proofs.model.rules.thread_holds.Goals as goal

pub returns-then-row-ne0 : goal.returns-then-row-ne0
unfolding thread_holds
returns-then-row-ne0 c = search rules

pub returns-else-row-ne0 : goal.returns-else-row-ne0
unfolding thread_holds
returns-else-row-ne0 c = search rules

pub returns-else-row-2 : goal.returns-else-row-2
unfolding thread_holds
returns-else-row-2 c = search rules
