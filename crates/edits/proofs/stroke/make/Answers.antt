-- `edits::stroke::make` meets its contract: one word and one row are written. Assumes nothing.
use native.Mathlib.Omega.{arith}
use mathlib.Core.Path.{ap, ◌∙◌}
use Rattle.records.specs.declared.plan.PlanSizes.{PlanSizes}
use Rattle.records.specs.Rows.{plan_sizes_of}
use Rattle.records.proofs.PlanWrites.{plan-fits}
use Rattle.edit_rules.specs.Edits.{word_with}
use Rattle.edits.proofs.StrokeLaws.{make_says}
use Rattle.edits.proofs.stroke.make.Goals as goal

pub overflow_cast-t : goal.overflow_cast-t
overflow_cast-t c =
    let fits = plan-fits c.args.r.now (λ i _. (c.slice_known-1.given i).fits) in
    omega (arith, fits.horizon, c.requires.2)

pub overflow_cast-a : goal.overflow_cast-a
overflow_cast-a c =
    let fits = plan-fits c.args.r.now (λ i _. (c.slice_known-1.given i).fits) in
    omega (arith, fits.activities, c.requires.1)

pub returns : goal.returns
unfolding plan_sizes_of
returns c =
    let x = c.args in
    let sizes = c.counts-sizes.ensures in
    make_says x.r.now x.e (λ i _. (c.slice_known-1.given i).fits) c.requires _ _ _ _ _ _ _
    (ap (λ (y : PlanSizes). y.threads) sizes) (ap (λ (y : PlanSizes). y.activities) sizes)
    (c.word_with.ensures ∙ ap (word_with x.e) c.word-word.ensures) c.put_word.ensures
    c.row_of-row.ensures.0 c.row_of-row.ensures.1 c.put_activity_row.ensures
