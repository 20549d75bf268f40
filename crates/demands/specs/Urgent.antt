-- "Urgent threads don't notice the others" (U3 of 02), as a statement: of the machine's words, and of the pages that two
-- runs have written.
-- Assumes nothing.
use Rattle.std.specs.Prelude.{ℕ, ◌≤◌, ◌<◌, Bool, List, ◌≡◌, T, length}
use Rattle.schedule.specs.Bounded.{bit}
use Rattle.schedule.specs.Fields.{Bytes}
use Rattle.schedule.specs.Model.{Model, model, temporally, by_data}
use Rattle.schedule.specs.Choice.{Choice, choice}
use Rattle.schedule.specs.Plan.{Plan, plan, active}
use Rattle.schedule.specs.Machine.{machine_word}
use Rattle.schedule.specs.Answers.{accepted, Written, run_answer, MeetsForm}
use Rattle.demands.specs.Strict.{plan_written}

-- thread j is "below P", or "at or above P"
abbrev pub Below : Model → ℕ → ℕ → Type 0
Below m P j = m.priority j < P

abbrev pub AtOrAbove : Model → ℕ → ℕ → Type 0
AtOrAbove m P j = P ≤ m.priority j

-- activity a is of a thread at or above P
abbrev pub Urgent : Model → ℕ → ℕ → Type 0
Urgent m P a = AtOrAbove m P (m.thread a)

-- "no activity of a thread below P precedes one at or above it", by either mask
pub record Apart (m : Model) (P : ℕ) : Type 0 where
  pub temporal : (b a : ℕ) → b < m.activities → a < m.activities
      → Below m P (m.thread b) → Urgent m P a → ¬ T (temporally m b a)
  pub on_data : (b a : ℕ) → b < m.activities → a < m.activities
      → Below m P (m.thread b) → Urgent m P a → ¬ T (by_data m b a)

-- two choices "that agree on releases of threads at or above P, and on durations of their activities"
pub record Alike (m : Model) (P : ℕ) (q q' : Choice) : Type 0 where
  pub releases : (j : ℕ) → j < m.threads → AtOrAbove m P j → q.release j ≡ q'.release j
  pub durations : (a : ℕ) → a < m.activities → Urgent m P a → q.duration a ≡ q'.duration a

-- bit a of the word that the machine makes of a choice at tick t
abbrev pub machine_bit : Model → Choice → ℕ → ℕ → Bool
machine_bit m q t a = bit (machine_word m q.release q.duration t) a

-- Two such choices "give words that agree at every tick in those activities' bits": in their ranges or not, whatever their
-- periods, whether or not a run succeeds, and at the ticks past H too.
abbrev pub Unaffected : Type 0
Unaffected = (s : List ℕ) (P : ℕ) (q q' : Choice) → MeetsForm s → Apart (model s) P → Alike (model s) P q q'
    → (t a : ℕ) → a < (model s).activities → Urgent (model s) P a
    → machine_bit (model s) q t a ≡ machine_bit (model s) q' t a

-- two plans agree on the activities of threads at or above P: in their bits, their starts and their ends
pub record PlansAgree (m : Model) (P : ℕ) (p p' : Plan) : Type 0 where
  pub words : (t a : ℕ) → t < m.horizon → a < m.activities → Urgent m P a
      → active p t a ≡ active p' t a
  pub starts : (a : ℕ) → a < m.activities → Urgent m P a → p.start a ≡ p'.start a
  pub ends : (a : ℕ) → a < m.activities → Urgent m P a → p.end a ≡ p'.end a

-- "want the sampling threads' page to stand": of the plans that two successful runs wrote, whatever buffers they were lent
abbrev pub PagesStand : Type 0
PagesStand = (s q q' buffer buffer' : List ℕ) (P : ℕ) → Bytes q → Bytes q'
    → Apart (model s) P → Alike (model s) P (choice q) (choice q')
    → (w w' : Written) → run_answer s q (length buffer) ≡ accepted w → run_answer s q' (length buffer') ≡ accepted w'
    → PlansAgree (model s) P (plan (plan_written s q buffer w)) (plan (plan_written s q' buffer' w'))
