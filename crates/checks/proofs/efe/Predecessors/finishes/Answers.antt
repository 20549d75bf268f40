use Prim.Native.Nat.{◌+◌, ◌*◌}
use native.Mathlib.Omega.{arith}
use mathlib.Core.Path.{refl}
use Rattle.laws.proofs.Steps.{zeros_at}
use Rattle.tables.proofs.TableLaws.{filled_none, filled_next}
use Rattle.checks.proofs.EfeTable.{bytes_brief, entry_next, set_bound}
use Rattle.checks.proofs.efe.Predecessors.finishes.Goals as goal

pub loop-number-init : goal.loop-number-init
loop-number-init c = (
  filled_none _,
  λ i. omega (arith, zeros_at 32 i),
  bytes_brief _ _ c.args.self.now.bytes (λ i _. (c.type_inv.r i).fits),
)

pub overflow_add-table : goal.overflow_add-table
overflow_add-table c =
    let l = c.loop-number in
    let p = c.args.self.now in
    let next = entry_next _ _ c.requires.ordered l.invariant.2 c.args.counts.now c.requires.counts_read l.table l.number _ _ _
    p.activities c.loop-number-test.true l.invariant.0 l.invariant.1 c.earliest-efe.ensures refl in
    omega (arith, next.1, p.few)

pub loop-number-preserved : goal.loop-number-preserved
loop-number-preserved c =
    let l = c.loop-number in
    let p = c.args.self.now in
    let next = entry_next _ _ c.requires.ordered l.invariant.2 c.args.counts.now c.requires.counts_read l.table l.number _ _ _
    p.activities c.loop-number-test.true l.invariant.0 l.invariant.1 c.earliest-efe.ensures refl in (
      filled_next _ l.number _ _ (omega (arith, p.few)) l.invariant.0 next.0,
      set_bound l.table l.number _ (131072 * l.number) (131072 * (l.number + 1)) l.invariant.1 (omega arith)
          (omega (arith, next.1)),
      l.invariant.2,
    )
