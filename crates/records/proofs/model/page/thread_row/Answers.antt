-- `model::page::thread_row` meets its contract: the fields read are those of the definition.
-- Assumes nothing.
use Rattle.schedule.specs.Model.{page}
use Rattle.records.specs.Rows.{thread_row_of}
use Rattle.records.proofs.model.page.thread_row.Goals as goal

pub returns : goal.returns
unfolding thread_row_of page
returns c =
    rw (
      ← c.thread_place-at.ensures.value,
      ← c.be16.ensures,
      ← c.be16-2.ensures,
      ← c.be16-3.ensures,
      ← c.be16-4.ensures,
      ← c.be16-5.ensures,
    )
