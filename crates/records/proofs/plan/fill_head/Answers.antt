-- `plan::fill_head` meets its contract: five fields, each behind the one before.
-- Assumes nothing.
use Rattle.records.proofs.WriteLaws.{head-says}
use Rattle.records.proofs.plan.fill_head.Goals as goal

pub returns : goal.returns
returns c =
    head-says _ _ _ _ _ _ _ _ _ _ c.requires c.length.ensures c.put32.ensures
    c.put8.ensures c.put8-2.ensures c.put8-3.ensures c.put16.ensures
