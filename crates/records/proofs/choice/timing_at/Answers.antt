-- `choice::timing_at` meets its contract: its thread rows begin at 7.
-- Assumes nothing.
use Rattle.schedule.specs.Choice.{choice}
use Rattle.records.specs.Rows.{timing_at}
use Rattle.records.proofs.choice.timing_at.Goals as goal

pub returns : goal.returns
unfolding choice timing_at
returns c = c.row.ensures
