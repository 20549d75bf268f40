use Prim.Native.Nat.{ℕ, ◌<◌}
use native.Mathlib.Omega.{arith}
use mathlib.Core.Path.{ap}
use lib.ListN.{length}
use Rattle.schedule.specs.Bounded.{chain}
use Rattle.text.specs.Rows.{late_text}
use Rattle.text.proofs.AppendLaws.{wrote_none, wrote_both, wrote_length}
use Rattle.text.proofs.TextLaws.{chain-none, chain_most}
use Rattle.text.proofs.LateLaws.{late_text_is, lines_next}
use Rattle.text.proofs.Writer.put_rows.Goals as goal

pub loop-a-init : goal.loop-a-init
loop-a-init c = rw (chain-none (late_text c.args.rows.now)) (wrote_none c.args.self.now)

pub put_row_line-requires : goal.put_row_line-requires
put_row_line-requires c =
    let x = c.args in
    let a = c.loop-a.a in
    let h : a < x.count = omega arith in
    omega (
      arith,
      ap length (late_text_is x.rows.now a c.row_at.ensures),
      chain_most (late_text x.rows.now) x.count a h,
      wrote_length c.loop-a.invariant,
    )

pub loop-a-preserved : goal.loop-a-preserved
loop-a-preserved c =
    let l = c.loop-a in
    rw (lines_next c.args.rows.now l.a c.row_at.ensures) (wrote_both l.invariant c.put_row_line.ensures)

pub returns : goal.returns
returns c =
    let x = c.args in
    let l = c.loop-a in
    rw (← ap (λ (j : ℕ). chain j (late_text x.rows.now)) {x = l.a} {y = x.count} (omega arith)) l.invariant
