use Prim.Native.Nat.{◌+◌}
use native.Mathlib.Omega.{arith}
use mathlib.Core.Path.{◌≡◌, sym, ap, ap₂, ◌∙◌}
use Rattle.schedule.specs.Bounded.{total}
use Rattle.schedule.specs.Plan.{word_in}
use Rattle.laws.proofs.Steps.{total_next, total-start}
use Rattle.tables.specs.Loads.{load_from}
use Rattle.tables.proofs.LoadLaws.{load_bound}
use Rattle.tables.proofs.figures.usage.Goals as goal
use Rattle.tables.proofs.figures.usage.Goals.{then-word-last, else-word-last}

pub loop-t-init : goal.loop-t-init
loop-t-init c = (omega arith, sym (total-start _), c.load-load.ensures)

pub overflow_add-sum : goal.overflow_add-sum
overflow_add-sum c =
    let l = c.loop-t in
    let x = c.args in
    let load : c.if-word-last.load ≡ load_from x.widths c.word-word.result =
    elim c.if-word-last.branch [
      | then-word-last w ↦ w.load-is ∙ w.load-load-then-word-last.ensures
      | else-word-last w ↦ w.load-is ∙ l.invariant.2 ∙ ap (load_from x.widths) (sym w.if-word-last.false)
    ] in
    omega (arith, load, load_bound x.widths c.word-word.result, l.invariant.0)

pub loop-t-preserved : goal.loop-t-preserved
loop-t-preserved c =
    let l = c.loop-t in
    let x = c.args in
    let load : c.if-word-last.load ≡ load_from x.widths c.word-word.result =
    elim c.if-word-last.branch [
      | then-word-last w ↦ w.load-is ∙ w.load-load-then-word-last.ensures
      | else-word-last w ↦ w.load-is ∙ l.invariant.2 ∙ ap (load_from x.widths) (sym w.if-word-last.false)
    ] in
    let last : c.if-word-last.last ≡ c.word-word.result =
    elim c.if-word-last.branch [ then-word-last w ↦ w.last-is | else-word-last w ↦ w.last-is ∙ sym w.if-word-last.false ] in (
      omega (arith, load, load_bound x.widths c.word-word.result, l.invariant.0),
      ap₂ ◌+◌ l.invariant.1 (load ∙ ap (load_from x.widths) c.word-word.ensures)
          ∙ sym (total_next l.t (λ u. load_from x.widths (word_in x.grid.now u))),
      load ∙ ap (load_from x.widths) (sym last),
    )

pub returns : goal.returns
returns c =
    let x = c.args in
    let whole : c.loop-t.t ≡ x.horizon = omega arith in
    c.loop-t.invariant.1 ∙ ap (λ k. total k (λ u. load_from x.widths (word_in x.grid.now u))) whole
