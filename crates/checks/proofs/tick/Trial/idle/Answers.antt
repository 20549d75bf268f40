-- `checks::tick::Trial::idle` meets its contract, by its tests. Assumes nothing.
use Prim.Native.Nat.{ℕ}
use native.Mathlib.Omega.{arith}
use mathlib.Core.Path.{sym, ap, ◌∙◌}
use borrow.Author.Tests.{lt-ltb, le-ltb}
use Rattle.checks.specs.Ticks.{contending_of, idle_of}
use Rattle.checks.proofs.TickLaws.{none-idle}
use Rattle.checks.proofs.WindowLaws.{without_and}
use Rattle.checks.proofs.tick.Trial.idle.Goals as goal

pub returns-then-waiting-eq0 : goal.returns-then-waiting-eq0
returns-then-waiting-eq0 c =
    let x = c.args in
    none-idle x.self.now.widths x.self.now.befores.now x.self.now.cores x.tick
    (sym (without_and x.tick.opened x.tick.word (omega arith) (omega arith)) ∙ c.if-waiting-eq0.true)

pub returns-then-load-self : goal.returns-then-load-self
unfolding idle_of
returns-then-load-self c =
    let x = c.args in
    simp (← c.load.ensures, lt-ltb _ _ c.if-load-self.true)
    (c.contending.ensures
    ∙ ap (λ (w : ℕ). contending_of x.self.now.widths x.self.now.befores.now x.tick.word x.self.now.cores w)
    (without_and x.tick.opened x.tick.word (omega arith) (omega arith)))

pub returns : goal.returns
unfolding idle_of
returns c = simp (← c.load.ensures, le-ltb _ _ c.if-load-self.false)
