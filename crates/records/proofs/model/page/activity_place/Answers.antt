-- `model::page::activity_place` meets its contract: the place by the version and the threads that were read.
-- Assumes nothing.
use Rattle.records.proofs.model.page.activity_place.Goals as goal

pub returns : goal.returns
returns c = record {
  value = rw (← c.version.ensures, ← c.threads.ensures) c.activity_at.ensures.value;
  most = c.activity_at.ensures.most;
}
