-- The rows of the three records as the readers hand them out.
-- Assumes nothing.
use Rattle.std.specs.Prelude.{ℕ, ◌+◌, ◌-◌, ◌*◌, Bool, ◌&&◌, ◌||◌, not, List, eqb, leb, ltb}
use Rattle.schedule.specs.Bounded.{all, bit, ◌⇒◌}
use Rattle.schedule.specs.Records.{within}
use Rattle.schedule.specs.Model.{Model, model}
use Rattle.schedule.specs.Rounds.{no_loop}
use Rattle.schedule.specs.Fields.{field, pair_row}
use Rattle.schedule.specs.Rule.{Rule}
use Rattle.schedule.specs.Choice.{range_rule}
use Rattle.schedule.specs.Plan.{Plan}
use Rattle.records.specs.declared.model.Sizes.{Sizes}
use Rattle.records.specs.declared.model.ThreadRow.{ThreadRow}
use Rattle.records.specs.declared.model.ActivityRow.{ActivityRow}
use Rattle.records.specs.declared.plan.PlanSizes.{PlanSizes}
use Rattle.records.specs.declared.plan.Timing.{Timing}
use Rattle.records.specs.declared.plan.Span.{Span}

-- version 1, whose rows have no loop byte, and versions 1 and 2, whose rows have no width
abbrev pub oldest : List ℕ → Bool
oldest s = eqb (field s 4 1) 1

abbrev pub older : List ℕ → Bool
older s = oldest s || eqb (field s 4 1) 2

-- the counts of a model
unfoldable pub sizes_of : Model → Sizes
sizes_of m = record { cores = m.cores; threads = m.threads; activities = m.activities; horizon = m.horizon }

-- thread row j, and activity row a
unfoldable pub thread_row_of : Model → ℕ → ThreadRow
thread_row_of m j = record {
  least_period = m.least_period j;
  most_period = m.most_period j;
  least_release = m.least_release j;
  most_release = m.most_release j;
  priority = m.priority j;
}

unfoldable pub activity_row_of : Model → ℕ → ActivityRow
activity_row_of m a = record {
  thread = record { 0 = m.thread a };
  least_duration = m.least_duration a;
  most_duration = m.most_duration a;
  delay = m.delay a;
  temporal_mask = m.temporal_mask a;
  data_mask = m.data_mask a;
}

-- the fields of a thread row, and of an activity row, that stand at a position
unfoldable pub thread_fields : List ℕ → ℕ → ThreadRow
thread_fields s at = record {
  least_period = field s at 2;
  most_period = field s (at + 2) 2;
  least_release = field s (at + 4) 2;
  most_release = field s (at + 6) 2;
  priority = field s (at + 8) 2;
}

unfoldable pub activity_fields : List ℕ → ℕ → ActivityRow
activity_fields s at = record {
  thread = record { 0 = field s at 1 };
  least_duration = field s (at + 1) 2;
  most_duration = field s (at + 3) 2;
  delay = field s (at + 5) 2;
  temporal_mask = field s (at + 7) 4;
  data_mask = field s (at + 11) 4;
}

-- a thread's release and period
unfoldable pub timing : ℕ → ℕ → Timing
timing release period = record { release = release; period = period }

-- release and period of thread j in rows of 4 bytes that begin at a position
abbrev pub release_at : List ℕ → ℕ → ℕ → ℕ
release_at s at j = field s (pair_row at j) 2

abbrev pub period_at : List ℕ → ℕ → ℕ → ℕ
period_at s at j = field s (pair_row at j + 2) 2

unfoldable pub timing_at : List ℕ → ℕ → ℕ → Timing
timing_at s at j = timing (release_at s at j) (period_at s at j)

-- the counts at the head of a plan, and an activity's start and end
unfoldable pub plan_sizes_of : Plan → PlanSizes
plan_sizes_of p = record { threads = p.threads; activities = p.activities; horizon = p.horizon }

unfoldable pub span_of : Plan → ℕ → Span
span_of p a = record { start = p.start a; end = p.end a }

-- ---- what the rules say of a row that was read

-- rule 3, of the counts
unfoldable pub limits_hold : Sizes → Bool
limits_hold x =
    (within 1 8 x.cores && within 1 8 x.threads) && (within 1 32 x.activities && within 1 4096 x.horizon)

-- rule 51, of the counts of one round
unfoldable pub rounds_hold : Sizes → ℕ → Bool
rounds_hold one rounds =
    (within 1 4 rounds && leb (rounds * one.threads) 8) && leb (rounds * one.activities) 32

-- rule 5, of a thread row
unfoldable pub thread_holds : ThreadRow → Bool
thread_holds row =
    (leb row.least_period row.most_period && leb row.least_release row.most_release)
    && (eqb row.least_period 0 ⇒ eqb row.most_period 0)

-- rule 52, of a thread row
unfoldable pub period_holds : ℕ → ThreadRow → Bool
period_holds rounds row =
    ltb 1 rounds
    ⇒ (eqb row.least_period row.most_period
    && leb (row.most_release + (rounds - 1) * row.least_period) 65535)

-- rule 6, of an activity row beside n threads
unfoldable pub activity_holds : ℕ → ActivityRow → Bool
activity_holds n row =
    (ltb row.thread.0 n && leb 1 row.least_duration) && leb row.least_duration row.most_duration

-- rule 53, of a loop byte beside m activities
unfoldable pub loop_holds : ℕ → ℕ → Bool
loop_holds m q = not (eqb q no_loop) ⇒ ltb q m

-- a word has no bit at n or above
unfoldable pub none_from : ℕ → ℕ → Bool
none_from w n = all 32 (λ b. leb n b ⇒ not (bit w b))

-- rule 7, of activity row a
unfoldable pub masks_hold : ℕ → ActivityRow → Bool
masks_hold a row = all 32 (λ b. leb a b ⇒ (not (bit row.temporal_mask b) && not (bit row.data_mask b)))

-- rule 10, of the bytes of a model and of a second record: n and m
unfoldable pub counts_hold : List ℕ → List ℕ → Bool
counts_hold s r = eqb (field r 5 1) (model s).threads && eqb (field r 6 1) (model s).activities

-- and a plan's H
unfoldable pub horizon_holds : List ℕ → List ℕ → Bool
horizon_holds s r = eqb (field r 7 2) (model s).horizon

-- rule 12, of a thread's release and period beside its row in the model
unfoldable pub timing_holds : ThreadRow → Timing → Bool
timing_holds row x =
    within row.least_release row.most_release x.release
    && within row.least_period row.most_period x.period

-- rule 12 over rows that begin at a position
abbrev pub timing_rule : Model → List ℕ → ℕ → Rule
timing_rule m s at = range_rule m (release_at s at) (period_at s at)
