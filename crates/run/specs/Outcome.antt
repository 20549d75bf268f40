-- The run past its input: what stands when the machine has stopped, and what a verdict and a buffer say of how it ended.
-- Assumes nothing.
use Rattle.std.specs.Prelude.{ℕ, ◌≤◌, ◌<◌, List, ◌≡◌, length, get_or}
use Rattle.schedule.specs.Model.{Model, Formed}
use Rattle.schedule.specs.Choice.{Choice}
use Rattle.schedule.specs.Answers.{length_needed, Outcome, answer_of, buffer_after}
use Rattle.schedule.specs.Numbers.{run_numbers}
use Rattle.schedule.specs.Numbers.{RunVerdict}
use Rattle.fields.specs.Put.{put}
use Rattle.machine.specs.declared.Judged.{Judged}
use Rattle.machine.specs.Played.{grid_bytes, Ended}
use Rattle.run.specs.Front.{grid_of}

-- The grid is written behind the rows, and how the machine ended is known.
pub record Placed (m : Model) (q : Choice) (out out' : List ℕ) (judged : Judged) (ends : List ℕ) : Type 0 where
  pub written : out' ≡ put (grid_of m) (grid_bytes m q m.horizon) out
  pub ended : Ended m q judged ends

-- The grid stands in the buffer, and how the machine ended is known.
pub record Standing (m : Model) (q : Choice) (out : List ℕ) (judged : Judged) (ends : List ℕ) : Type 0 where
  pub room : length_needed m ≤ length out
  pub grid : put (grid_of m) (grid_bytes m q m.horizon) out ≡ out
  pub ended : Ended m q judged ends

-- There is room for what stands in front of the grid, and the ends fit their fields.
pub record FrontFits (m : Model) (out ends : List ℕ) : Type 0 where
  pub formed : Formed m
  pub room : grid_of m ≤ length out
  pub small : (a : ℕ) → a < m.activities → get_or ends a 0 < 65536

-- A verdict says what an outcome answers, and the buffer is as that outcome leaves it.
pub record Answers (o : Outcome) (m : Model) (q : Choice) (out out' : List ℕ) (r : RunVerdict) : Type 0 where
  pub says : run_numbers r ≡ answer_of o
  pub leaves : out' ≡ buffer_after o m q out
