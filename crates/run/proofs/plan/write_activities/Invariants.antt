-- `run::plan::write_activities` meets its contract: the rows passed are written.
-- Assumes nothing.
use mathlib.Core.Path.{◌≡◌}
use lib.ListN.{get_or}
use Rattle.schedule.specs.Plan.{plan_thread_row, pair_rows}
use Rattle.fields.specs.Put.{put}
use Rattle.run.proofs.plan.write_activities.Given as goal

abbrev pub invariant-loop-a : goal.invariant-loop-a
invariant-loop-a l =
    l.out ≡ put (plan_thread_row l.n) (pair_rows l.a (λ a. get_or l.starts a 0) (λ a. get_or l.ends a 0)) l.initial.out
