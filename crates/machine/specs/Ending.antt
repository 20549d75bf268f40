-- What stands when the machine has stopped: tables of what is owed and of the ends.
-- Assumes nothing.
use Rattle.std.specs.Prelude.{ℕ, ◌≤◌, ◌<◌, ◌≡◌, Bool, true, false, List, get_or, Option, MatchOption}
use Rattle.schedule.specs.Model.{Model}
use Rattle.schedule.specs.Timing.{on_time}
use Rattle.schedule.specs.Choice.{Choice}
use Rattle.schedule.specs.Machine.{machine_end, machine_owes}
use Rattle.tables.specs.Columns.{TableOf}

-- what is found is the lowest of the first n activities that has a property, or none where none has it
abbrev pub First : ℕ → (ℕ → Bool) → Option ℕ → Type 0
First n p found =
    MatchOption found ((k : ℕ) → k < n → p k ≡ false) (λ a. (a < n) × (p a ≡ true) × ((k : ℕ) → k < a → p k ≡ false))

-- Tables that hold what the machine leaves at H.
pub record Stopped (m : Model) (q : Choice) (owed ends : List ℕ) : Type 0 where
  pub few : m.activities ≤ 32
  pub owed_ticks : TableOf m owed (machine_owes m q.release q.duration)
  pub end_ticks : TableOf m ends (machine_end m q.release q.duration)

-- activity a keeps its deadline, from tables of releases, periods and ends
unfoldable pub in_time_from : List ℕ → List ℕ → List ℕ → ℕ → Bool
in_time_from releases periods ends a = on_time (get_or releases a 0) (get_or periods a 0) (get_or ends a 0)
