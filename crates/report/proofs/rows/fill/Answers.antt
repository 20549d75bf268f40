use Prim.Native.Nat.{ℕ}
use native.Mathlib.Omega.{arith}
use mathlib.Core.List.{List}
use mathlib.Core.Path.{◌≡◌, ap₂, ◌∙◌}
use lib.IntN.{ℤ}
use lib.ListN.{set}
use mir.Syntax.{w32}
use mir.ValLaws.{to_z-of_z}
use Rattle.laws.proofs.LatenessLaws.{rows_none, rows_next}
use Rattle.report.specs.Tables.{row_from}
use Rattle.report.proofs.rows.fill.Goals as goal

pub loop-a-init : goal.loop-a-init
loop-a-init c = rows_none _ _

pub figure-requires : goal.figure-requires
figure-requires c =
    let l = c.loop-a in
    let small = c.requires.2 in
    (small.release l.a (omega arith), small.period l.a (omega arith), small.end l.a (omega arith))

pub loop-a-preserved : goal.loop-a-preserved
unfolding row_from
loop-a-preserved c =
    let l = c.loop-a in
    let x = c.args in
    let f : ℕ → ℤ = row_from x.releases.now x.periods.now x.ends.now in
    ap₂ (λ (rows : List ℤ) (v : ℤ). set rows l.a v) l.invariant (to_z-of_z w32 _ (record { sfits = c.figure.type_inv }))
    ∙ rows_next l.a f x.list.now _ (omega arith) c.figure.ensures

pub returns : goal.returns
returns c =
    let whole : c.loop-a.a ≡ c.args.n = omega arith in
    rw whole at c.loop-a.invariant
