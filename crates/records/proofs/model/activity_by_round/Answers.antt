-- `model::activity_by_round` meets its contract: zeros, or a row of the page moved on to its round.
-- Assumes nothing.
use Rattle.records.proofs.UnrolledRows.{activity-past, activity_here}
use Rattle.records.proofs.model.activity_by_round.Goals as goal

pub returns-then-in_all-a : goal.returns-then-in_all-a
returns-then-in_all-a c =
    activity-past _ _ _ _ c.rounds.ensures c.in_all.ensures c.requires _
    c.if-in_all-a.true

pub returns : goal.returns
returns c =
    activity_here _ _ _ _ c.rounds.ensures c.in_all.ensures c.requires _ _ _ _ _ _ _
    c.if-in_all-a.false c.round-k.ensures c.place-place.ensures
    c.activity_row.ensures c.loop_byte-q.ensures c.threads.ensures
    c.moved_activity.ensures
