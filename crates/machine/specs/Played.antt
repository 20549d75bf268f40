-- What is left when the machine has been played: the ends by activity, how they are judged, and the words in a grid.
-- Assumes nothing.
use Rattle.std.specs.Prelude.{ℕ, min, Bool, cond, List, ◌≡◌, leb, replicate}
use Rattle.std.proofs.Math.Option.{Option, some, none}
use Rattle.schedule.specs.Bounded.{chain}
use Rattle.schedule.specs.Fields.{bytes}
use Rattle.schedule.specs.Rule.{Refusal, first_break}
use Rattle.schedule.specs.Model.{Model, Formed}
use Rattle.schedule.specs.Choice.{Choice}
use Rattle.schedule.specs.Plan.{ticks_in}
use Rattle.schedule.specs.Machine.{machine_word, machine_end, machine_owes}
use Rattle.schedule.specs.Answers.{run_rules}
use Rattle.schedule.specs.Numbers.{refusal_numbers}
use Rattle.fields.specs.Put.{put}
use Rattle.tables.specs.Columns.{TableOf, by_activity}
use Rattle.machine.specs.declared.Judged.{Judged}

-- the machine's words of the first k ticks, 4 bytes each
unfoldable pub grid_bytes : Model → Choice → ℕ → List ℕ
grid_bytes m q k = chain k (λ t. bytes 4 (machine_word m q.release q.duration t))

-- a word has bits for 32 activities: the machine of a model with more is not played
abbrev pub playable : Model → Bool
playable m = leb m.activities 32

-- the ends of the activities, all 0 where the machine is not played
unfoldable pub played_ends : Model → Choice → List ℕ
played_ends m q = cond (playable m) (by_activity m (machine_end m q.release q.duration)) (replicate 32 0)

-- how the machine's end is judged
pub data Judgement : Type 0 where
  succeeds : Judgement
  refused : Refusal → Judgement
  not_played : Judgement

-- a judgement as the code answers it, in the paper's numbers
abbrev pub judged_numbers : Judged → Judgement
judged_numbers Judged.Succeeds = succeeds
judged_numbers (Judged.Refused x) = refused (refusal_numbers x)
judged_numbers Judged.NotPlayed = not_played

-- the judgement of a machine that is played: refused by the first break of 42 and 43, else it succeeds
abbrev pub judged_by : Option Refusal → Judgement
judged_by none = succeeds
judged_by (some x) = refused x

-- the judgement of any machine
unfoldable pub played_judgement : Model → Choice → Judgement
played_judgement m q = cond (playable m) (judged_by (first_break (run_rules m q))) not_played

-- a grid with the words of the ticks for which it has room
abbrev pub written_grid : Model → Choice → ℕ → List ℕ → List ℕ
written_grid m q k grid = put 0 (grid_bytes m q (min k (ticks_in grid))) grid

-- the grid after the machine: all its words that fit, and the other bytes as they were
unfoldable pub played_grid : Model → Choice → List ℕ → List ℕ
played_grid m q grid = cond (playable m) (written_grid m q m.horizon grid) grid

-- the machine has been played
pub record Finished (m : Model) (q : Choice) (grid grid' owed ends : List ℕ) : Type 0 where
  pub written : grid' ≡ written_grid m q m.horizon grid
  pub owed_ticks : owed ≡ by_activity m (machine_owes m q.release q.duration)
  pub end_ticks : ends ≡ by_activity m (machine_end m q.release q.duration)

-- The machine of a model that meets its form rules, which is always played: its end is judged by 42 and 43, and the table holds
-- the ends.
pub record Ended (m : Model) (q : Choice) (judged : Judged) (ends : List ℕ) : Type 0 where
  pub formed : Formed m
  pub judgement : judged_numbers judged ≡ judged_by (first_break (run_rules m q))
  pub end_ticks : TableOf m ends (machine_end m q.release q.duration)
