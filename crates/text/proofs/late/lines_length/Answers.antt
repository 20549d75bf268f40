use Prim.Native.Nat.{ℕ}
use native.Mathlib.Omega.{arith}
use mathlib.Core.Path.{ap, ◌∙◌}
use lib.ListN.{length}
use Rattle.schedule.specs.Bounded.{chain}
use Rattle.text.specs.Rows.{late_text}
use Rattle.text.proofs.TextLaws.{chain-none}
use Rattle.text.proofs.LateLaws.{length_next}
use Rattle.text.proofs.late.lines_length.Goals as goal

pub loop-a-init : goal.loop-a-init
loop-a-init c = omega (arith, ap length (chain-none (late_text c.args.rows.now)))

pub loop-a-preserved : goal.loop-a-preserved
loop-a-preserved c = omega (arith, length_next c.args.rows.now c.loop-a.a c.row_at.ensures)

pub returns : goal.returns
returns c =
    let x = c.args in
    let l = c.loop-a in (
      l.invariant.1 ∙ ap (λ (j : ℕ). length (chain j (late_text x.rows.now))) {x = l.a} {y = x.count} (omega arith),
      omega arith,
    )
