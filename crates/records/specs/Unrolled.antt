-- The rows of a page moved on to a round, as the readers hand them out.
-- Assumes nothing.
use Rattle.std.specs.Prelude.{ℕ}
use Rattle.schedule.specs.Rounds.{in_all, number_in, moved_release, moved_mask, with_loop}
use Rattle.records.specs.declared.model.Sizes.{Sizes}
use Rattle.records.specs.declared.model.ThreadRow.{ThreadRow}
use Rattle.records.specs.declared.model.ActivityRow.{ActivityRow}

-- the counts of all rounds together
unfoldable pub unrolled_sizes : Sizes → ℕ → Sizes
unrolled_sizes one rounds = record {
  cores = one.cores;
  threads = in_all rounds one.threads;
  activities = in_all rounds one.activities;
  horizon = one.horizon;
}

-- a thread's row in round k
unfoldable pub moved_thread : ℕ → ThreadRow → ThreadRow
moved_thread k row = record {
  least_period = row.least_period;
  most_period = row.most_period;
  least_release = moved_release k row.least_period row.least_release;
  most_release = moved_release k row.least_period row.most_release;
  priority = row.priority;
}

-- an activity's row in round k, with its loop byte q, where a round has n threads and m activities
unfoldable pub moved_activity : ℕ → ℕ → ℕ → ℕ → ActivityRow → ActivityRow
moved_activity n m k q row = record {
  thread = record { 0 = number_in k n row.thread.0 };
  least_duration = row.least_duration;
  most_duration = row.most_duration;
  delay = row.delay;
  temporal_mask = with_loop k m q (moved_mask k m row.temporal_mask);
  data_mask = moved_mask k m row.data_mask;
}
