-- `model::rules::period_holds` meets its contract: the tests are those of the definition.
-- Assumes nothing.
use Rattle.std.proofs.Common.{rules}
use Rattle.records.specs.Rows.{period_holds}
use Rattle.records.proofs.model.rules.period_holds.Goals as goal

pub returns-then-rounds-le1 : goal.returns-then-rounds-le1
unfolding period_holds
returns-then-rounds-le1 c = search rules

pub returns-then-row : goal.returns-then-row
unfolding period_holds
returns-then-row c = search rules

pub returns-else-row : goal.returns-else-row
unfolding period_holds
returns-else-row c = search rules
