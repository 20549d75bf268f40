-- `model::page::activity_row` meets its contract: the bytes read at once, or field by field, are those of the definition.
-- Assumes nothing.
use Rattle.schedule.specs.Model.{page}
use Rattle.records.specs.Rows.{activity_row_of, activity_fields}
use Rattle.records.proofs.model.page.activity_row.Goals as goal

pub returns-then-at-s : goal.returns-then-at-s
unfolding activity_row_of activity_fields page
returns-then-at-s c = rw (← c.activity_place-at.ensures.value) c.activity_whole.ensures

pub returns : goal.returns
unfolding activity_row_of page
returns c =
    rw (
      ← c.activity_place-at.ensures.value,
      ← c.byte.ensures,
      ← c.be16.ensures,
      ← c.be16-2.ensures,
      ← c.be16-3.ensures,
      ← c.be32.ensures,
      ← c.be32-2.ensures,
    )
