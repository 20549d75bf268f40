-- `choice::formula` meets its contract: the fields read are those of the definition.
-- Assumes nothing.
use Rattle.schedule.specs.Choice.{choice}
use Rattle.records.proofs.choice.formula.Goals as goal

pub returns : goal.returns
unfolding choice
returns c = rw (← c.byte.ensures, ← c.byte-2.ensures, ← c.duration_at.ensures)
