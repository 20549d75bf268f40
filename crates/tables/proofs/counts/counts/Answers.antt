use Prim.Native.Nat.{ℕ, ◌<◌}
use native.Mathlib.Omega.{arith}
use mathlib.Core.List.{List}
use mathlib.Core.Path.{◌≡◌, refl, sym, ap, ◌∙◌}
use Rattle.schedule.specs.Bounded.{bit, count}
use Rattle.schedule.specs.Model.{model}
use Rattle.schedule.specs.Plan.{word_in}
use Rattle.schedule.specs.Checks.{count_of}
use Rattle.records.specs.declared.model.Sizes.{Sizes}
use Rattle.records.specs.Rows.{sizes_of}
use Rattle.laws.proofs.Counting.{count_ext}
use Rattle.laws.proofs.Ranges.{horizon_lt}
use Rattle.laws.proofs.Steps.{count-start, zeros_at}
use Rattle.laws.proofs.PlanBytes.{word_behind}
use Rattle.tables.proofs.CountLaws.{tallied_next, few_counted}
use Rattle.tables.proofs.TableLaws.{table-whole}
use Rattle.tables.proofs.counts.counts.Goals as goal

pub loop-t-init : goal.loop-t-init
unfolding sizes_of
loop-t-init c =
    let e = ap (λ (y : Sizes). y.horizon) c.counts-sizes.ensures in (
      e,
      omega (arith, e, horizon_lt c.args.s.now (λ i _. (c.type_inv.s i).fits)),
      refl,
      λ i l. zeros_at 32 i ∙ sym (count-start _),
    )

pub tally-requires : goal.tally-requires
tally-requires c =
    let l = c.loop-t in
    let grid = c.words-grid.result.now in
    let few : l.t < 65536 = omega (arith, l.invariant.1) in
    (l.invariant.2, few_counted l.counted l.t (λ t i. bit (word_in grid t) i) few l.invariant.2 l.invariant.3)

pub loop-t-preserved : goal.loop-t-preserved
loop-t-preserved c =
    let l = c.loop-t in
    let grid = c.words-grid.result.now in (
      l.invariant.0,
      l.invariant.1,
      c.tally.ensures.sized,
      tallied_next (word_in grid) l.t _ _ _ c.word.ensures l.invariant.3 c.tally.ensures,
    )

pub returns : goal.returns
unfolding count_of
returns c =
    let l = c.loop-t in
    let words = c.words-grid in
    let x = c.args in
    let whole : l.t ≡ (model x.s.now).horizon = omega (arith, l.invariant.0) in
    table-whole 32 _ l.counted l.invariant.2 (λ i h.
    l.invariant.3 i h
    ∙ ap (λ k. count k (λ v. bit (word_in words.result.now v) i)) whole
    ∙ count_ext _ _ _ (λ v _.
    ap (λ (g : List ℕ). bit (word_in g v) i) words.ensures.0 ∙ ap (λ (w : ℕ). bit w i) (word_behind x.r.now v)))
