-- `model::owner` meets its contract: 0, or the thread of the page's row moved on to its round.
-- Assumes nothing.
use Rattle.records.proofs.UnrolledRows.{owner-past, owner_here}
use Rattle.records.proofs.model.owner.Goals as goal

pub returns-then-in_all-a : goal.returns-then-in_all-a
returns-then-in_all-a c =
    owner-past _ _ _ _ c.rounds.ensures c.in_all.ensures c.activities-m.ensures _ c.if-in_all-a.true

pub returns : goal.returns
returns c =
    owner_here _ _ _ _ c.rounds.ensures c.in_all.ensures c.activities-m.ensures _ _ _ _ _ _
    c.if-in_all-a.false c.round.ensures c.place.ensures c.owner-one.ensures
    c.threads.ensures c.number.ensures
