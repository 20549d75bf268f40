-- `model::rules::rounds_hold` meets its contract: the tests are those of the definition.
-- Assumes nothing.
use Rattle.std.proofs.Common.{rules}
use Rattle.records.specs.Rows.{rounds_hold}
use Rattle.records.proofs.model.rules.rounds_hold.Goals as goal

pub returns-then-times-le8 : goal.returns-then-times-le8
unfolding rounds_hold
returns-then-times-le8 c = search rules

pub returns-else-times-le8 : goal.returns-else-times-le8
unfolding rounds_hold
returns-else-times-le8 c = search rules
