-- Tables by activity that the report works on.
-- Assumes nothing.
use Rattle.std.specs.Prelude.{ℕ, ◌<◌, List, ◌≡◌, ℤ, get_or}
use Rattle.schedule.specs.Model.{Model, Formed}
use Rattle.schedule.specs.Choice.{Choice}
use Rattle.schedule.specs.Machine.{machine_end, machine_owes}
use Rattle.schedule.specs.Report.{lateness}
use Rattle.tables.specs.Columns.{TableOf}

-- the first n entries are below k
abbrev pub Below : ℕ → ℕ → List ℕ → Type 0
Below k n table = (a : ℕ) → a < n → get_or table a 0 < k

-- the row of activity a, from tables of releases, periods and ends
unfoldable pub row_from : List ℕ → List ℕ → List ℕ → ℕ → ℤ
row_from releases periods ends a = lateness (get_or releases a 0) (get_or periods a 0) (get_or ends a 0)

-- Such tables of numbers that two bytes hold.
pub record Small (n : ℕ) (releases periods ends : List ℕ) : Type 0 where
  pub release : Below 65536 n releases
  pub period : Below 65536 n periods
  pub end : Below 65536 n ends

-- A table of the machine's ends, of a model that meets its form rules.
pub record HasEnds (m : Model) (q : Choice) (ends : List ℕ) : Type 0 where
  pub formed : Formed m
  pub end_ticks : TableOf m ends (machine_end m q.release q.duration)

-- "all ended": nothing is owed at the end.
pub record AllEnded (m : Model) (q : Choice) (ends : List ℕ) : Type 0 where
  pub has_ends : HasEnds m q ends
  pub nothing_owed : (a : ℕ) → a < m.activities → machine_owes m q.release q.duration a ≡ 0
