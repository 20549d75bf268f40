-- `model::rules::masks_hold` meets its contract: a row whose bits all stand below its number, in one mask and in the other.
-- Assumes nothing.
use Rattle.std.proofs.Common.{rules}
use Rattle.records.proofs.RowTests.{masks_parts}
use Rattle.records.specs.Rows.{masks_hold}
use Rattle.records.proofs.model.rules.masks_hold.Goals as goal

pub returns-then-none_from : goal.returns-then-none_from
unfolding masks_hold
returns-then-none_from c = rw (masks_parts) (search rules)

pub returns-else-none_from : goal.returns-else-none_from
unfolding masks_hold
returns-else-none_from c = rw (masks_parts) (search rules)
