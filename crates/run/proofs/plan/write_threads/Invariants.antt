-- `run::plan::write_threads` meets its contract: the rows passed are written.
-- Assumes nothing.
use mathlib.Core.Path.{◌≡◌}
use Rattle.schedule.specs.Choice.{choice}
use Rattle.schedule.specs.Plan.{plan_thread_row, pair_rows}
use Rattle.fields.specs.Put.{put}
use Rattle.run.proofs.plan.write_threads.Given as goal

abbrev pub invariant-loop-j : goal.invariant-loop-j
invariant-loop-j l =
    l.out ≡ put (plan_thread_row 0) (pair_rows l.j (choice l.q).release (choice l.q).period) l.initial.out
