-- `plan::fill_pair` meets its contract: two fields, the second behind the first.
-- Assumes nothing.
use Rattle.records.proofs.WriteLaws.{pair-says}
use Rattle.records.proofs.plan.fill_pair.Goals as goal

pub returns : goal.returns
returns c =
    pair-says _ _ _ _ _ _ c.requires c.put16.ensures c.put16-2.ensures
