use native.Mathlib.Omega.{arith}
use mathlib.Core.Path.{◌≡◌}
use Rattle.machine.proofs.StretchLaws.{unchanged_next}
use Rattle.machine.proofs.inputs.Tables.next_change.Goals as goal

pub loop-a-preserved : goal.loop-a-preserved
loop-a-preserved c =
    let l = c.loop-a in
    unchanged_next l.a _ _ _ l.next _ _ _ _ (omega arith) c.sooner-next.ensures c.sooner-next-in-loop-a.ensures
    c.saturating_add.ensures c.sooner-next-in-loop-a-2.ensures l.invariant

pub returns : goal.returns
returns c =
    let l = c.loop-a in
    let whole : l.a ≡ c.args.self.now.activities = omega arith in
    rw whole at l.invariant
