-- `model::thread_row` meets its contract: a row of round 0 read at its place, or any row by its round.
-- Assumes nothing.
use Rattle.records.proofs.UnrolledRows.{thread-first}
use Rattle.records.proofs.model.thread_row.Goals as goal

pub returns-then-at-s : goal.returns-then-at-s
returns-then-at-s c =
    thread-first _ _ _ _ c.rounds.ensures c.in_all.ensures c.threads-n.ensures
    (λ i l. (c.type_inv.s i).fits) _ _ _ c.if-j-in_all.true
    c.if-j-n.true c.thread_place-at.ensures.value c.thread_whole.ensures

pub returns : goal.returns
returns c = c.thread_by_round.ensures
