-- `model::in_all` meets its contract: a product each for threads and activities.
-- Assumes nothing.
use Rattle.records.specs.Unrolled.{unrolled_sizes}
use Rattle.records.proofs.model.in_all.Goals as goal

pub returns : goal.returns
unfolding unrolled_sizes
returns c = rw (← c.in_all.ensures, ← c.in_all-2.ensures)
