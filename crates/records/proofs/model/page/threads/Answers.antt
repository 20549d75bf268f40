-- `model::page::threads` meets its contract: the field read is that of the definition.
-- Assumes nothing.
use Rattle.schedule.specs.Model.{page}
use Rattle.records.proofs.model.page.threads.Goals as goal

pub returns : goal.returns
unfolding page
returns c = c.byte.ensures
