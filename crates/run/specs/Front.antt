-- A plan's bytes in front of its grid, and what the grid's words say.
-- Assumes nothing.
use Rattle.std.specs.Prelude.{ℕ, ◌<◌, cond, List, ◌++◌, ◌≡◌, length, get_or, drop}
use Rattle.schedule.specs.Bounded.{bit, lowest}
use Rattle.schedule.specs.Model.{Model}
use Rattle.schedule.specs.Choice.{Choice}
use Rattle.schedule.specs.Plan.{grid_at, word_in, pair_rows}
use Rattle.records.specs.Writes.{head_bytes}

-- all that stands in front of the grid
unfoldable pub front_bytes : ℕ → ℕ → ℕ → (ℕ → ℕ) → (ℕ → ℕ) → (ℕ → ℕ) → (ℕ → ℕ) → List ℕ
front_bytes n m h release period start end =
    head_bytes n m h ++ (pair_rows n release period ++ pair_rows m start end)

-- where the grid begins in a plan of a model, and the grid that stands in a buffer
abbrev pub grid_of : Model → ℕ
grid_of m = grid_at m.threads m.activities

abbrev pub grid_in : Model → List ℕ → List ℕ
grid_in m out = drop (grid_of m) out

-- "Start is the first active tick", in a grid of h ticks
unfoldable pub start_in : List ℕ → ℕ → ℕ → ℕ
start_in grid h a = lowest h (λ t. bit (word_in grid t) a)

-- the activities of a word start at tick t, in tables before and after
pub record Entered (word t : ℕ) (starts starts' : List ℕ) : Type 0 where
  pub sized : length starts' ≡ 32
  pub entered : (a : ℕ) → a < 32 → get_or starts' a 0 ≡ cond (bit word a) t (get_or starts a 0)

-- what is written in front of a grid, from a buffer that has it and a table of ends
unfoldable pub front_in : Model → Choice → List ℕ → List ℕ → List ℕ
front_in m q out ends =
    front_bytes m.threads m.activities m.horizon q.release q.period
    (start_in (grid_in m out) m.horizon) (λ a. get_or ends a 0)
