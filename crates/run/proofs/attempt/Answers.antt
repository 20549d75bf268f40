-- `run::attempt` meets its contract: 41 where there is no room; else what is concluded of the buffer with the grid.
-- Assumes nothing.
use native.Mathlib.Omega.{arith}
use mathlib.Core.Path.{ap}
use Rattle.records.specs.Reads.{refusal_in}
use Rattle.run.proofs.RunLaws.{room-answers, placed-stands, outcome-answers}
use Rattle.run.proofs.attempt.Goals as goal

pub returns-then-out-length : goal.returns-then-out-length
returns-then-out-length c =
    let e = c.needed-length.ensures in
    room-answers _ _ _ _ (omega (arith, e, c.if-out-length.true)) (ap (refusal_in 41) e)

pub conclude-requires : goal.conclude-requires
conclude-requires c =
    placed-stands _ _ _ _ _ _ (omega (arith, c.needed-length.ensures, c.if-out-length.false)) c.write_grid-played.ensures

pub returns : goal.returns
returns c =
    outcome-answers _ _ _ _ _ _ _ _ (omega (arith, c.needed-length.ensures, c.if-out-length.false)) c.write_grid-played.ensures
    c.conclude.ensures
