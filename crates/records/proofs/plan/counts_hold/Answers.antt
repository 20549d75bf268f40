-- `plan::counts_hold` meets its contract: the tests are those of the definition.
-- Assumes nothing.
use Rattle.std.proofs.Common.{rules}
use Rattle.records.specs.Rows.{horizon_holds, sizes_of}
use Rattle.records.proofs.plan.counts_hold.Goals as goal

pub returns-then-be16-counts : goal.returns-then-be16-counts
unfolding horizon_holds sizes_of
returns-then-be16-counts c = search rules

pub returns-else-be16-counts : goal.returns-else-be16-counts
unfolding horizon_holds sizes_of
returns-else-be16-counts c = search rules
