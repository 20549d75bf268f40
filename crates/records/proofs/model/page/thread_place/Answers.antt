-- `model::page::thread_place` meets its contract: the place by the version that was read.
-- Assumes nothing.
use Rattle.records.proofs.model.page.thread_place.Goals as goal

pub returns : goal.returns
returns c = record {
  value = rw (← c.version.ensures) c.thread_at.ensures.value;
  most = c.thread_at.ensures.most;
}
