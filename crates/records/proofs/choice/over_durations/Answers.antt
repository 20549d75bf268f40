use Rattle.std.proofs.Common.{rules}
use mathlib.Core.Path.{refl, ap}
use Rattle.schedule.specs.Model.{model}
use Rattle.schedule.specs.Choice.{choice, duration_rule}
use Rattle.records.specs.declared.model.Sizes.{Sizes}
use Rattle.records.specs.declared.rows.Row.{Row}
use Rattle.records.specs.Rows.{sizes_of}
use Rattle.records.proofs.Reading.{rows_break}
use Rattle.records.proofs.choice.over_durations.Goals as goal

pub returns : goal.returns
unfolding duration_rule sizes_of
returns c =
    let x = c.args in
    let q = choice x.q.now in
    rows_break (duration_rule (model x.s.now) q) c.counts-sizes.result.activities (λ a. Row.Duration (q.duration a)) _
    (ap (λ (y : Sizes). y.activities) c.counts-sizes.ensures) refl
    (c.over.ensures _ (λ a y l p. search rules))
