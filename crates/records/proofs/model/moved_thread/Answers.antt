-- `model::moved_thread` meets its contract: both ends of the release range are moved.
-- Assumes nothing.
use Rattle.records.specs.Unrolled.{moved_thread}
use Rattle.records.proofs.model.moved_thread.Goals as goal

pub returns : goal.returns
unfolding moved_thread
returns c = rw (← c.release.ensures, ← c.release-2.ensures)
