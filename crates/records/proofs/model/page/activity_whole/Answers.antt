-- `model::page::activity_whole` meets its contract: the bytes read at once are the fields.
-- Assumes nothing.
use mathlib.Core.Path.{refl}
use Rattle.records.proofs.RowFields.{activity_read}
use Rattle.records.proofs.model.page.activity_whole.Goals as goal

pub returns : goal.returns
returns c =
    activity_read _ _ _ _ _ _ _ _ refl c.paired.ensures c.paired-2.ensures
    c.paired-3.ensures c.joined.ensures c.joined-2.ensures
