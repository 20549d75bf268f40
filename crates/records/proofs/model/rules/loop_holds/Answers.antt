-- `model::rules::loop_holds` meets its contract: the tests are those of the definition.
-- Assumes nothing.
use Rattle.std.proofs.Common.{rules}
use Rattle.records.specs.Rows.{loop_holds}
use Rattle.records.proofs.model.rules.loop_holds.Goals as goal

pub returns-then-q-eq-NO_LOOP : goal.returns-then-q-eq-NO_LOOP
unfolding loop_holds
returns-then-q-eq-NO_LOOP c = search rules

pub returns-else-q-eq-NO_LOOP : goal.returns-else-q-eq-NO_LOOP
unfolding loop_holds
returns-else-q-eq-NO_LOOP c = search rules
