-- `plan::put_activity_row` meets its contract: the row at its place.
-- Assumes nothing.
use Rattle.records.proofs.WriteLaws.{put_at}
use Rattle.records.proofs.plan.put_activity_row.Goals as goal

pub returns : goal.returns
returns c =
    put_at _ _ _ _ _ c.put_pair.ensures c.activity_at.ensures
