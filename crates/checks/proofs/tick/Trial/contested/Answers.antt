-- `checks::tick::Trial::contested` meets its contract, by its tests. Assumes nothing.
use Prim.Native.Nat.{ℕ}
use native.Mathlib.Omega.{arith}
use mathlib.Core.Path.{sym, ap₂, ◌∙◌}
use lib.Bits.{bit_and}
use borrow.Author.Tests.{eq-eqb, ne_eqb}
use Rattle.checks.specs.Ticks.{contending_of, contested_of}
use Rattle.checks.proofs.TickLaws.{none_contested}
use Rattle.checks.proofs.WindowLaws.{without_and}
use Rattle.checks.proofs.tick.Trial.contested.Goals as goal

pub returns-then-waiting-eq0 : goal.returns-then-waiting-eq0
returns-then-waiting-eq0 c =
    let x = c.args in
    let s = x.self.now in
    none_contested s.widths s.outranked s.befores.now s.cores x.tick
    (sym (without_and x.tick.opened x.tick.word (omega arith) (omega arith)) ∙ c.if-waiting-eq0.true)

pub returns-then-load-self : goal.returns-then-load-self
unfolding contested_of
returns-then-load-self c =
    let x = c.args in
    simp (← c.load.ensures, eq-eqb _ _ c.if-load-self.true)
    (c.contending.ensures
    ∙ ap₂ (λ (v w : ℕ). contending_of x.self.now.widths x.self.now.befores.now x.tick.word x.self.now.cores (bit_and v w))
    (without_and x.tick.opened x.tick.word (omega arith) (omega arith)) c.outranking.ensures)

pub returns : goal.returns
unfolding contested_of
returns c = simp (← c.load.ensures, ne_eqb _ _ c.if-load-self.false)
