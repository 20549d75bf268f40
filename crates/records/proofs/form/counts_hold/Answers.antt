-- `form::counts_hold` meets its contract: the tests are those of the definition.
-- Assumes nothing.
use Rattle.std.proofs.Common.{rules}
use Rattle.records.specs.Rows.{counts_hold, sizes_of}
use Rattle.records.proofs.form.counts_hold.Goals as goal

pub returns-then-byte-sizes : goal.returns-then-byte-sizes
unfolding counts_hold sizes_of
returns-then-byte-sizes c = search rules

pub returns-else-byte-sizes : goal.returns-else-byte-sizes
unfolding counts_hold sizes_of
returns-else-byte-sizes c = search rules
