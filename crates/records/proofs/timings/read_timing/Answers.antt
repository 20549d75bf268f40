-- `timings::read_timing` meets its contract: the test of the row that was read is rule 12's.
-- Assumes nothing.
use Rattle.records.proofs.RowTests.{timing_answered}
use Rattle.records.proofs.timings.read_timing.Goals as goal

pub returns : goal.returns
returns c =
    timing_answered _ _ _ _ _ _ _ c.row-timing.ensures c.in_range-holds.ensures c.answer.ensures
