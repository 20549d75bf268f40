-- `model::width` meets its contract: 0, or the width of the page's row.
-- Assumes nothing.
use Rattle.records.proofs.UnrolledRows.{width-past, width_here}
use Rattle.records.proofs.model.width.Goals as goal

pub returns-then-in_all-a : goal.returns-then-in_all-a
returns-then-in_all-a c =
    width-past _ _ _ _ c.rounds.ensures c.in_all.ensures c.activities-m.ensures _ c.if-in_all-a.true

pub returns : goal.returns
returns c =
    width_here _ _ _ _ c.rounds.ensures c.in_all.ensures c.activities-m.ensures _ _ _
    c.if-in_all-a.false c.place.ensures c.width.ensures
