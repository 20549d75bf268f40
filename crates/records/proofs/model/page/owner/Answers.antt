-- `model::page::owner` meets its contract: the first byte of the row.
-- Assumes nothing.
use Rattle.schedule.specs.Model.{page}
use Rattle.records.proofs.model.page.owner.Goals as goal

pub returns : goal.returns
unfolding page
returns c = rw (← c.activity_place.ensures.value) c.byte.ensures
