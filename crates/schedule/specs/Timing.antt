-- The release and the period that are chosen for each thread, and the one deadline that follows from them.
-- Assumes nothing.
use Rattle.std.specs.Prelude.{ℕ, ◌+◌, ◌≤◌, Bool, not, ◌≡◌, eqb, leb}
use Rattle.schedule.specs.Bounded.{◌⇒◌}
use Rattle.schedule.specs.Rule.{Rule}
use Rattle.schedule.specs.Model.{Model}

-- What a choice and a plan both say of the threads: "n rows of release, period".
pub record Timing : Type 0 where
  pub release : ℕ → ℕ
  pub period : ℕ → ℕ

-- the deadline of a thread that has a period: its release and its period, "the time allowed after release" (U2 of 02)
abbrev pub deadline : ℕ → ℕ → ℕ
deadline release period = release + period

-- an end that is no later than the deadline; a period of 0 is none, and there is no deadline then
abbrev pub OnTime : ℕ → ℕ → ℕ → Type 0
OnTime release period end = ¬ (period ≡ 0) → end ≤ deadline release period

abbrev pub on_time : ℕ → ℕ → ℕ → Bool
on_time release period end = not (eqb period 0) ⇒ leb end (deadline release period)

-- "a thread with a period" has "end ≤ release + period", of activity a
unfoldable pub InTime : Model → Timing → (ℕ → ℕ) → ℕ → Type 0
InTime m timing end a = OnTime (timing.release (m.thread a)) (timing.period (m.thread a)) (end a)

unfoldable pub in_time : Model → Timing → (ℕ → ℕ) → ℕ → Bool
in_time m timing end a = on_time (timing.release (m.thread a)) (timing.period (m.thread a)) (end a)

-- the rule of that, of a plan's ends (23) and of the run's (43). A activity.
unfoldable pub deadline_rule : ℕ → Model → Timing → (ℕ → ℕ) → Rule
deadline_rule number m timing end = record {
  number = number;
  rows = m.activities;
  columns = 1;
  Holds = λ a _. InTime m timing end a;
  test = λ a _. in_time m timing end a;
}
