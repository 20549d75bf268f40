use native.Mathlib.Omega.{arith}
use Prim.Native.Nat.{ℕ, ◌+◌, max}
use mathlib.Core.Bool.{cond}
use mathlib.Core.Path.{◌≡◌, refl, sym, ap₂, ◌∙◌}
use lib.ListN.{get_or}
use Rattle.schedule.specs.Bounded.{bit, greatest}
use Rattle.schedule.specs.Model.{model}
use Rattle.records.specs.declared.model.ActivityRow.{ActivityRow}
use Rattle.records.specs.Rows.{activity_row_of}
use Rattle.laws.proofs.Steps.{greatest_next, greatest-start}
use Rattle.checks.specs.Tables as tables
use Rattle.laws.proofs.Ranges.{delay_lt}
use Rattle.checks.proofs.EfeTable.{term_reads}
use Rattle.checks.proofs.efe.Predecessors.after.Goals as goal

pub loop-number-init : goal.loop-number-init
loop-number-init c = sym (greatest-start _)

pub loop-number-preserved : goal.loop-number-preserved
loop-number-preserved c =
    let l = c.loop-number in
    let x = c.args in
    let less = c.loop-number-test.true in
    let short = delay_lt x.self.now.s.now x.self.now.bytes l.number in
    c.max-latest.ensures
    ∙ ap₂ max l.invariant
    (term_reads _ _ l.number _ (get_or x.done.now l.number 0) _ _ _ _ _ c.let_go-free.ensures
    c.has.ensures c.has-in-loop-number.ensures refl (x.self.now.delays_read l.number (omega (arith, less, x.self.now.activities))) (c.requires l.number less) short)
    ∙ sym (greatest_next l.number _)

pub returns : goal.returns
unfolding activity_row_of tables.after
returns c =
    let x = c.args in
    let whole : c.loop-number.number ≡ x.self.now.n = omega arith in
    c.loop-number.invariant
    ∙ ap₂ (λ (k : ℕ) (y : ActivityRow). greatest k (λ i. cond (bit y.temporal_mask i)
    (get_or x.done.now i 0 + (model x.self.now.s.now).delay i) (cond (bit y.data_mask i) (get_or x.done.now i 0) 0)))
    whole c.activity_row-row.ensures
