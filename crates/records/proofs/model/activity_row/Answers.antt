-- `model::activity_row` meets its contract: a row of round 0 read at its place, or any row by its round.
-- Assumes nothing.
use Rattle.records.proofs.UnrolledRows.{activity-first}
use Rattle.records.proofs.model.activity_row.Goals as goal

pub returns-then-at-s : goal.returns-then-at-s
returns-then-at-s c =
    activity-first _ _ _ _ c.rounds.ensures c.in_all.ensures c.activities-m.ensures
    (λ i l. (c.type_inv.s i).fits) _ _ _ c.if-a-in_all.true
    c.if-a-m.true c.activity_place-at.ensures.value c.activity_whole.ensures

pub returns : goal.returns
returns c = c.activity_by_round.ensures
