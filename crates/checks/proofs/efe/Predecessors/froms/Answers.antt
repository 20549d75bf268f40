use native.Mathlib.Omega.{arith}
use Prim.Native.Nat.{max}
use mathlib.Core.Path.{ap, ap₂, ◌∙◌}
use lib.ListN.{get_or}
use Rattle.schedule.specs.Model.{model}
use Rattle.tables.proofs.TableLaws.{filled_none, filled_next}
use Rattle.checks.specs.Tables.{after}
use Rattle.checks.proofs.efe.Predecessors.froms.Goals as goal

pub loop-number-init : goal.loop-number-init
loop-number-init c = filled_none _

pub loop-number-preserved : goal.loop-number-preserved
loop-number-preserved c =
    let l = c.loop-number in
    let x = c.args in
    let p = x.self.now in
    filled_next _ l.number _ _ (omega (arith, p.few)) l.invariant
    (c.max.ensures
    ∙ ap₂ max c.saturating_sub-efe.ensures
    (c.after.ensures ∙ ap (λ k. after (model p.s.now) k (λ b. get_or x.ends.now b 0) l.number) p.activities))
