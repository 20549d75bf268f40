-- `exchange::record_at` meets its contract: what is left from a place on ends its first record there. Assumes nothing.
use Rattle.exchange.proofs.RecordLaws.{left_from}
use Rattle.exchange.proofs.record_at.Goals as goal

pub returns : goal.returns
returns c =
    let x = c.args in
    simp (c.record_end.ensures, left_from x.file.now x.offset)
