use Prim.Native.Nat.{ℕ}
use native.Mathlib.Omega.{arith}
use mathlib.Core.Path.{◌≡◌, subst}
use Rattle.tables.proofs.TableLaws.{FilledTo, filled_none, filled_next, filled-table}
use Rattle.tables.proofs.each.table.Goals as goal

pub loop-a-init : goal.loop-a-init
loop-a-init g c = λ f h. filled_none f

pub loop-a-preserved : goal.loop-a-preserved
loop-a-preserved g c =
    let l = c.loop-a in
    let v = c.value in
    λ f h.
    filled_next f l.a v.result l.entries (omega arith) (l.invariant f h)
    (h l.a v.result c.loop-a-test.true v.ensures)

pub returns : goal.returns
returns g c =
    let l = c.loop-a in
    let whole : l.a ≡ c.args.n = omega arith in
    λ f h. filled-table c.args.n f l.entries (subst (λ (n : ℕ). FilledTo g.row.N n f l.entries) whole (l.invariant f h))
