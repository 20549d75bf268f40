-- `grid::word` meets its contract: the field at the tick's place; a later tick has no byte.
-- Assumes nothing.
use Prim.Native.Nat.{ℕ}
use native.Mathlib.Omega.{arith}
use mathlib.Core.Path.{sym, ap, ◌∙◌}
use Rattle.schedule.specs.Fields.{field}
use Rattle.schedule.specs.Plan.{tick_at}
use Rattle.fields.proofs.ReadLaws.{field_past}
use Rattle.records.proofs.grid.word.Goals as goal

pub returns-then-t-le-LAST : goal.returns-then-t-le-LAST
returns-then-t-le-LAST c =
    let x = c.args in
    c.be32.ensures ∙ ap (λ (i : ℕ). field x.grid.now i 4) c.tick_at.ensures

pub returns-else-t-le-LAST : goal.returns-else-t-le-LAST
returns-else-t-le-LAST c =
    let x = c.args in
    sym (field_past x.grid.now (tick_at x.t) 4 (omega (arith, c.if-t-le-LAST.false)))
