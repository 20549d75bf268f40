-- `plan::timing_at` meets its contract: its thread rows begin at 9.
-- Assumes nothing.
use Rattle.schedule.specs.Plan.{plan}
use Rattle.records.specs.Rows.{timing_at}
use Rattle.records.proofs.plan.timing_at.Goals as goal

pub returns : goal.returns
unfolding plan timing_at
returns c = c.row.ensures
