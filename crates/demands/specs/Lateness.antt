-- What a right report of lateness is: of any answer and any list after it, with quantifiers over the rows, from the machine's
-- ends, the deadline and rule 23.
-- Assumes nothing.
use Rattle.std.specs.Prelude.{ℕ, ◌≤◌, ◌<◌, List, ◌↔◌, ◌≡◌, ℤ, pos, ◌+ℤ◌, length, get_or, ◌<ℤ◌}
use Rattle.schedule.specs.Rule.{Refusal, AllHold, FirstBroken}
use Rattle.schedule.specs.Model.{Model, model}
use Rattle.schedule.specs.Timing.{deadline}
use Rattle.schedule.specs.Choice.{Choice, choice}
use Rattle.schedule.specs.Machine.{machine_end}
use Rattle.schedule.specs.Checks.{rule23}
use Rattle.schedule.specs.Answers.{Answer, accepted, refused, Written, machine_plan, length_needed, run_checks, run_answer}
use Rattle.schedule.specs.Report.{dash}

-- row a of a list
abbrev pub row_of : List ℤ → ℕ → ℤ
row_of list a = get_or list a (pos 0)

-- "dashes aside, a late run has a negative row": a row that says late
pub record Late (z : ℤ) : Type 0 where
  pub negative : z <ℤ pos 0
  pub no_dash : ¬ (z ≡ dash)

-- the end of activity a as the machine ends it, and its deadline
abbrev pub end_of : Model → Choice → ℕ → ℕ
end_of m q a = machine_end m q.release q.duration a

abbrev pub deadline_of : Model → Choice → ℕ → ℕ
deadline_of m q a = deadline (q.release (m.thread a)) (q.period (m.thread a))

abbrev pub HasPeriod : Model → Choice → ℕ → Type 0
HasPeriod m q a = ¬ (q.period (m.thread a) ≡ 0)

-- what a row says of activity a
pub record RightRow (m : Model) (q : Choice) (a : ℕ) (z : ℤ) : Type 0 where
  -- "An activity whose thread has no period gets −2147483648", and no other does
  pub dashed : (z ≡ dash) ↔ (q.period (m.thread a) ≡ 0)
  -- "the deadline less its end": the row and the end make the deadline
  pub figure : HasPeriod m q a → z +ℤ pos (end_of m q a) ≡ pos (deadline_of m q a)
  -- "The signs must match rule 23", of the machine's plan
  pub sign : Late z ↔ (¬ (rule23 m (machine_plan m q)).Holds a 0)

-- A list that a report has filled: "for each activity", and "rows past the last activity stay untouched".
pub record Filled (m : Model) (q : Choice) (old new : List ℤ) : Type 0 where
  pub rows : (a : ℕ) → a < m.activities → RightRow m q a (row_of new a)
  pub untouched : (a : ℕ) → m.activities ≤ a → row_of new a ≡ row_of old a
  pub sized : length new ≡ length old

-- What a refusal by 43 says: the row of its A is late, and none below it.
pub record FirstLate (m : Model) (x : Refusal) (new : List ℤ) : Type 0 where
  pub activity : x.A < m.activities
  pub late : Late (row_of new x.A)
  pub none_below : (a : ℕ) → a < x.A → ¬ Late (row_of new a)

-- A report of a model's and a choice's bytes: its answer, and the lent list before and after.
pub record RightReport (s q : List ℕ) (said : Answer Written) (old new : List ℤ) : Type 1 where
  -- "answers as the run does": with 32 rows, and a buffer that is long enough
  pub as_the_run : 32 ≤ length old → (room : ℕ) → length_needed (model s) ≤ room → said ≡ run_answer s q room
  -- "50, after the input, for a list under 32 rows"
  pub input : (x : Refusal) → FirstBroken (run_checks s q) x → said ≡ refused x
  pub short : length old < 32 → AllHold (run_checks s q) → said ≡ refused (record { number = 50; A = 0; B = 0 })
  -- "fills a lent list .. for success"; "a good run" has no late row
  pub good : (w : Written) → said ≡ accepted w
      → Filled (model s) (choice q) old new × ((a : ℕ) → a < (model s).activities → ¬ Late (row_of new a))
  -- "and for 43"; "a late run has a negative row"
  pub late : (x : Refusal) → said ≡ refused x → x.number ≡ 43
      → Filled (model s) (choice q) old new × FirstLate (model s) x new
  -- "for every other answer no row is written"
  pub other : (x : Refusal) → said ≡ refused x → (¬ (x.number ≡ 43)) → new ≡ old
