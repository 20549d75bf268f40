use Rattle.ticks.proofs.KeptLaws.{quiet_start, quiet_next, quiet_sooner}
use Rattle.checks.proofs.windows.Windows.next_change.Goals as goal

pub loop-a-init : goal.loop-a-init
loop-a-init c = (quiet_start _ _ _, quiet_start _ _ _)

pub loop-a-preserved : goal.loop-a-preserved
loop-a-preserved c =
    let l = c.loop-a in (
      quiet_sooner _ _ _ _ _ _ c.sooner-next-in-loop-a.ensures (quiet_next l.a _ _ _ _ c.sooner-next.ensures l.invariant.0),
      quiet_next l.a _ _ _ _ c.sooner-next-in-loop-a.ensures (quiet_sooner _ _ _ _ _ _ c.sooner-next.ensures l.invariant.1),
    )
