use Prim.Native.Nat.{ℕ, min}
use native.Mathlib.Omega.{arith}
use mathlib.Core.Path.{◌≡◌, sym, ap, ap₂, ◌∙◌}
use Rattle.schedule.specs.Bounded.{least}
use Rattle.laws.proofs.Steps.{least_next, least_start, least-none}
use Rattle.tables.specs.Releases.{releases_of}
use Rattle.tables.proofs.figures.least_release.Goals as goal

pub returns-then-n-eq0 : goal.returns-then-n-eq0
returns-then-n-eq0 c =
    let x = c.args in
    let releases : ℕ → ℕ = releases_of x.whose x.r.now in
    sym (least-none releases) ∙ ap (λ k. least k releases) (sym c.if-n-eq0.true)

pub loop-j-init : goal.loop-j-init
loop-j-init c =
    let x = c.args in
    c.release_of-first.ensures ∙ sym (least_start (releases_of x.whose x.r.now))

pub loop-j-preserved : goal.loop-j-preserved
loop-j-preserved c =
    let l = c.loop-j in
    let x = c.args in
    c.min-first.ensures
    ∙ ap₂ min l.invariant c.release_of.ensures
    ∙ sym (least_next l.j (releases_of x.whose x.r.now) (omega arith))

pub returns : goal.returns
returns c =
    let x = c.args in
    let whole : c.loop-j.j ≡ x.n = omega arith in
    c.loop-j.invariant ∙ ap (λ k. least k (releases_of x.whose x.r.now)) whole
