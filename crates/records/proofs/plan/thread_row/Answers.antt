-- `plan::thread_row` meets its contract: its thread rows begin at 9.
-- Assumes nothing.
use mathlib.Core.Path.{ap, ◌∙◌}
use Rattle.schedule.specs.Plan.{plan}
use Rattle.records.specs.Rows.{timing_at}
use Rattle.records.proofs.plan.thread_row.Goals as goal

pub returns : goal.returns
unfolding plan timing_at
returns c =
    c.row.ensures ∙ ap (timing_at c.args.r.now 9) c.number.ensures
