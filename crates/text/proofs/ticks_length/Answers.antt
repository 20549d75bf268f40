use Prim.Native.Nat.{ℕ}
use native.Mathlib.Omega.{arith}
use mathlib.Core.Path.{ap, ◌∙◌}
use Rattle.schedule.specs.Bounded.{total}
use Rattle.text.specs.Appended.{tick_length}
use Rattle.laws.proofs.Steps.{total-start, total_next}
use Rattle.text.proofs.ticks_length.Goals as goal

pub loop-t-init : goal.loop-t-init
loop-t-init c = omega (arith, total-start tick_length)

pub loop-t-preserved : goal.loop-t-preserved
loop-t-preserved c = omega (arith, total_next c.loop-t.t tick_length)

pub returns : goal.returns
returns c =
    let x = c.args in
    let l = c.loop-t in
    (l.invariant.1 ∙ ap (λ (j : ℕ). total j tick_length) {x = l.t} {y = x.h} (omega arith), omega arith)
