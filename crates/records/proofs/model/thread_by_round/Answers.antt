-- `model::thread_by_round` meets its contract: zeros, or a row of the page moved on to its round.
-- Assumes nothing.
use Rattle.records.proofs.UnrolledRows.{thread-past, thread_here}
use Rattle.records.proofs.model.thread_by_round.Goals as goal

pub returns-then-in_all-j : goal.returns-then-in_all-j
returns-then-in_all-j c =
    thread-past _ _ _ _ c.rounds.ensures c.in_all.ensures c.requires _
    c.if-in_all-j.true

pub returns : goal.returns
returns c =
    thread_here _ _ _ _ c.rounds.ensures c.in_all.ensures c.requires _ _ _ _ _
    c.if-in_all-j.false c.round.ensures c.place.ensures c.thread_row-row.ensures
    c.moved_thread.ensures
