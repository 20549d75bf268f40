-- `plan::counts` meets its contract: the fields read are those of the definition.
-- Assumes nothing.
use Rattle.schedule.specs.Plan.{plan}
use Rattle.records.specs.Rows.{plan_sizes_of}
use Rattle.records.proofs.plan.counts.Goals as goal

pub returns : goal.returns
unfolding plan_sizes_of plan
returns c = rw (← c.byte.ensures, ← c.byte-2.ensures, ← c.be16.ensures)
