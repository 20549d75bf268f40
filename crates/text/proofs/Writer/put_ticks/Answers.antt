use Prim.Native.Nat.{ℕ, ◌<◌}
use native.Mathlib.Omega.{arith}
use mathlib.Core.Path.{ap}
use lib.ListN.{length}
use Rattle.schedule.specs.Bounded.{chain}
use Rattle.text.specs.Appended.{tick_text}
use Rattle.text.proofs.AppendLaws.{wrote_none, wrote_both, wrote_length}
use Rattle.text.proofs.TextLaws.{chain-none, chain_next, chain_most, tick_text_is}
use Rattle.text.proofs.Writer.put_ticks.Goals as goal

pub loop-t-init : goal.loop-t-init
loop-t-init c = rw (chain-none (tick_text c.args.plan.now)) (wrote_none c.args.self.now)

pub put_tick-requires : goal.put_tick-requires
put_tick-requires c =
    let x = c.args in
    let t = c.loop-t.t in
    let h : t < x.h = omega arith in
    omega (
      arith,
      ap length (tick_text_is x.plan.now t c.word_at.result c.word_at.ensures),
      chain_most (tick_text x.plan.now) x.h t h,
      wrote_length c.loop-t.invariant,
    )

pub loop-t-preserved : goal.loop-t-preserved
loop-t-preserved c =
    let x = c.args in
    let l = c.loop-t in
    let w = c.word_at in
    let e = tick_text_is x.plan.now l.t w.result w.ensures in
    rw (chain_next l.t (tick_text x.plan.now)) (wrote_both l.invariant (rw e c.put_tick.ensures))

pub returns : goal.returns
returns c =
    let x = c.args in
    let l = c.loop-t in
    rw (← ap (λ (j : ℕ). chain j (tick_text x.plan.now)) {x = l.t} {y = x.h} (omega arith)) l.invariant
