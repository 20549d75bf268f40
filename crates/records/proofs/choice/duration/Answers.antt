-- `choice::duration` meets its contract: the field read is that of the definition.
-- Assumes nothing.
use Rattle.schedule.specs.Choice.{choice}
use Rattle.records.proofs.choice.duration.Goals as goal

pub returns : goal.returns
unfolding choice
returns c = rw (← c.byte.ensures, ← c.duration_at.ensures, ← c.be16.ensures)
