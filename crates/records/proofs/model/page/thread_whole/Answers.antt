-- `model::page::thread_whole` meets its contract: the bytes read at once are the fields.
-- Assumes nothing.
use Rattle.records.proofs.RowFields.{thread_read}
use Rattle.records.proofs.model.page.thread_whole.Goals as goal

pub returns : goal.returns
returns c =
    thread_read _ _ _ _ _ _ _ c.paired.ensures c.paired-2.ensures c.paired-3.ensures c.paired-4.ensures
    c.paired-5.ensures
