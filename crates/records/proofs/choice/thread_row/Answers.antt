-- `choice::thread_row` meets its contract: its thread rows begin at 7.
-- Assumes nothing.
use mathlib.Core.Path.{ap, ◌∙◌}
use Rattle.schedule.specs.Choice.{choice}
use Rattle.records.specs.Rows.{timing_at}
use Rattle.records.proofs.choice.thread_row.Goals as goal

pub returns : goal.returns
unfolding choice timing_at
returns c =
    c.row.ensures ∙ ap (timing_at c.args.q.now 7) c.number.ensures
