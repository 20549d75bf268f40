-- `choice::read_duration` meets its contract: the test of the duration that was read is rule 13's.
-- Assumes nothing.
use Rattle.records.proofs.RowTests.{duration_answered}
use Rattle.records.proofs.choice.read_duration.Goals as goal

pub returns : goal.returns
returns c =
    duration_answered _ _ _ _ _ _ _ c.activity_row-range.ensures c.duration-chosen.ensures
    c.within-holds.ensures c.answer.ensures
