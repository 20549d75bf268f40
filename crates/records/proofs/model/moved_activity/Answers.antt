-- `model::moved_activity` meets its contract: the thread and both masks are moved.
-- Assumes nothing.
use Rattle.records.specs.Unrolled.{moved_activity}
use Rattle.records.proofs.model.moved_activity.Goals as goal

pub returns : goal.returns
unfolding moved_activity
returns c =
    rw (
      ← c.mask-temporal.ensures,
      ← c.number.ensures,
      ← c.with_loop.ensures,
      ← c.mask.ensures,
    )
