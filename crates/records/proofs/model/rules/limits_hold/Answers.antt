-- `model::rules::limits_hold` meets its contract: the tests are those of the definition.
-- Assumes nothing.
use Rattle.std.proofs.Common.{rules}
use Rattle.records.specs.Rows.{limits_hold}
use Rattle.records.proofs.model.rules.limits_hold.Goals as goal

pub returns-then-within-3 : goal.returns-then-within-3
unfolding limits_hold
returns-then-within-3 c = search rules

pub returns-else-within-3 : goal.returns-else-within-3
unfolding limits_hold
returns-else-within-3 c = search rules
