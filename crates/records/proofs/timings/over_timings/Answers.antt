use Rattle.std.proofs.Common.{rules}
use mathlib.Core.Path.{refl, ap}
use Rattle.schedule.specs.Choice.{range_rule}
use Rattle.schedule.specs.Model.{model}
use Rattle.records.specs.declared.model.Sizes.{Sizes}
use Rattle.records.specs.declared.rows.Row.{Row}
use Rattle.records.specs.Rows.{sizes_of, timing_at, timing_rule}
use Rattle.records.proofs.Reading.{rows_break}
use Rattle.records.proofs.timings.over_timings.Goals as goal

pub returns : goal.returns
unfolding range_rule sizes_of
returns c =
    let x = c.args in
    let rule = timing_rule (model x.s.now) x.r.now x.first in
    rows_break rule c.counts-sizes.result.threads (λ j. Row.Timing (timing_at x.r.now x.first j)) _
    (ap (λ (y : Sizes). y.threads) c.counts-sizes.ensures) refl
    (c.over.ensures _ (λ a y l p. search rules))
