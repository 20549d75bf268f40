use native.Mathlib.Numerals.{add-one}
use native.Mathlib.Omega.{arith}
use mathlib.Core.Path.{◌≡◌, refl, sym, ap, ◌∙◌}
use Rattle.machine.specs.declared.tick.Walk.{Walk}
use Rattle.machine.specs.Masks.{walked_from}
use Rattle.machine.proofs.WalkLaws.{walk_over}
use Rattle.machine.proofs.inputs.Tables.select.Goals as goal

pub loop-k-init : goal.loop-k-init
unfolding walked_from
loop-k-init c = refl

pub loop-k-preserved : goal.loop-k-preserved
unfolding walked_from
loop-k-preserved c =
    let l = c.loop-k in
    rw (add-one l.k, ← l.invariant) c.take-walk.ensures

pub returns-after-loop-k : goal.returns-after-loop-k
returns-after-loop-k c =
    let l = c.loop-k in
    let whole : l.k ≡ c.args.self.now.activities = omega arith in
    ap (λ (w : Walk). w.word) (rw whole at l.invariant)

pub returns-then-walk-eq0 : goal.returns-then-walk-eq0
returns-then-walk-eq0 c =
    let x = c.args in
    let l = c.loop-k in
    let none = ap (λ (w : Walk). w.rest) (sym l.invariant) ∙ c.if-walk-eq0.true in
    ap (λ (w : Walk). w.word) (l.invariant ∙ walk_over x.ready x.self.now l.k x.self.now.activities (omega arith) none)
