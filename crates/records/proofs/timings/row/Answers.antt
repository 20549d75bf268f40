-- `timings::row` meets its contract: the fields read are those of the definition.
-- Assumes nothing.
use Rattle.records.specs.Rows.{timing, timing_at}
use Rattle.records.proofs.timings.row.Goals as goal

pub returns : goal.returns
unfolding timing_at timing
returns c = rw (← c.row_at-at.ensures, ← c.be16.ensures, ← c.be16-2.ensures)
