-- `model::in_range` meets its contract: the tests are those of the definition.
-- Assumes nothing.
use Rattle.std.proofs.Common.{rules}
use Rattle.records.specs.Rows.{timing_holds}
use Rattle.records.proofs.model.in_range.Goals as goal

pub returns-then-within : goal.returns-then-within
unfolding timing_holds
returns-then-within c = search rules

pub returns-else-within : goal.returns-else-within
unfolding timing_holds
returns-else-within c = search rules
