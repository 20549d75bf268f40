-- `plan::activity_row` meets its contract: the fields read are those of the definition.
-- Assumes nothing.
use Rattle.schedule.specs.Plan.{plan}
use Rattle.records.specs.Rows.{span_of}
use Rattle.records.proofs.plan.activity_row.Goals as goal

pub returns : goal.returns
unfolding span_of plan
returns c =
    rw (
      ← c.byte.ensures,
      ← c.activity_at-at.ensures,
      ← c.be16.ensures,
      ← c.be16-2.ensures,
    )
