-- `model::rules::activity_holds` meets its contract: the tests are those of the definition.
-- Assumes nothing.
use Rattle.std.proofs.Common.{rules}
use Rattle.records.specs.Rows.{activity_holds}
use Rattle.records.proofs.model.rules.activity_holds.Goals as goal

pub returns-then-row-ge1 : goal.returns-then-row-ge1
unfolding activity_holds
returns-then-row-ge1 c = search rules

pub returns-else-row-ge1 : goal.returns-else-row-ge1
unfolding activity_holds
returns-else-row-ge1 c = search rules
