-- `report::attempt` meets its contract: 50 where there are too few rows; else what is concluded of the machine's end.
-- Assumes nothing.
use native.Mathlib.Omega.{arith}
use mathlib.Core.Path.{refl}
use Rattle.machine.proofs.PlayLaws.{played_ended}
use Rattle.report.proofs.ReportLaws.{short-reports, fits-reports}
use Rattle.report.proofs.attempt.Goals as goal

pub returns-then-list-lt-ROWS : goal.returns-then-list-lt-ROWS
returns-then-list-lt-ROWS c = short-reports _ _ _ _ (omega (arith, c.if-list-lt-ROWS.true)) refl

pub conclude-requires : goal.conclude-requires
conclude-requires c =
    let left = c.play-played.ensures in
    (played_ended _ _ _ _ c.requires left.0 left.1, omega (arith, c.if-list-lt-ROWS.false))

pub returns : goal.returns
returns c =
    fits-reports _ _ _ _ _ (omega (arith, c.if-list-lt-ROWS.false)) c.conclude.ensures
