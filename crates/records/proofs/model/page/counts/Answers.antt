-- `model::page::counts` meets its contract: the fields read are those of the definition.
-- Assumes nothing.
use Rattle.records.specs.Rows.{sizes_of}
use Rattle.schedule.specs.Model.{page}
use Rattle.records.proofs.model.page.counts.Goals as goal

pub returns : goal.returns
unfolding sizes_of page
returns c =
    rw (
      ← c.byte.ensures,
      ← c.byte-2.ensures,
      ← c.byte-3.ensures,
      ← c.be16.ensures,
    )
