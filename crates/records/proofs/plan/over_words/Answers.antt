use Rattle.std.proofs.Common.{rules}
use mathlib.Core.Path.{refl, ap}
use Rattle.schedule.specs.Model.{model}
use Rattle.schedule.specs.Plan.{plan, word_rule}
use Rattle.records.specs.declared.model.Sizes.{Sizes}
use Rattle.records.specs.declared.rows.Row.{Row}
use Rattle.records.specs.Rows.{sizes_of}
use Rattle.records.specs.Reads.{row_read_numbers}
use Rattle.records.proofs.Reading.{rows_break}
use Rattle.records.proofs.RowTests.{word_answered}
use Rattle.records.proofs.plan.over_words.Goals as goal

pub returns : goal.returns
unfolding word_rule sizes_of
returns c =
    let x = c.args in
    let m = model x.s.now in
    let sizes = c.counts-sizes.ensures in
    rows_break (word_rule m (plan x.r.now)) c.counts-sizes.result.horizon (λ t. Row.Word ((plan x.r.now).word t)) _
    (ap (λ (y : Sizes). y.horizon) sizes) refl
    (c.over.ensures _ (λ t y l p.
    word_answered m x.r.now _ t _ (row_read_numbers y) c.words-grid.ensures.0 (ap (λ (y : Sizes). y.activities) sizes)
    (search rules)))
