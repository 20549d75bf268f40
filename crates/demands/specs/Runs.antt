-- What the run answers of any two byte strings and what it leaves in any lent buffer, by its rules; what a run that succeeds has
-- passed, and the page that it has written.
-- Assumes nothing.
use Rattle.std.specs.Prelude.{ℕ, ◌≤◌, ◌<◌, List, ◌++◌, ◌⊎◌, ◌↔◌, ◌≡◌, length, drop, replicate}
use Rattle.schedule.specs.Fields.{Bytes}
use Rattle.schedule.specs.Rule.{Refusal, AllHold, FirstBroken}
use Rattle.schedule.specs.Model.{model}
use Rattle.schedule.specs.Choice.{choice}
use Rattle.schedule.specs.Plan.{plan, plan_bytes}
use Rattle.schedule.specs.Answers.{accepted, refused, machine_plan, Made, run_rules, Written, written, length_needed, run_checks}
use Rattle.schedule.specs.Answers.{run_answer, run_buffer, MeetsForm, PassesTests}
use Rattle.schedule.specs.Lines.{run_lines}
use Rattle.demands.specs.ByNumber.{answer_by_rules, buffer_by_number}
use Rattle.demands.specs.Strict.{plan_written}

-- The run of a model and a choice with a lent buffer: which of its rules decides, and what the buffer then holds.
pub record RunAnswers (s q buffer : List ℕ) : Type 1 where
  -- its input rules all hold, or there is a first break
  pub tried : AllHold (run_checks s q) ⊎ ((x : Refusal) × FirstBroken (run_checks s q) x)
  -- "Input refusals .. change no byte"
  pub input : (x : Refusal) → FirstBroken (run_checks s q) x
      → (run_answer s q (length buffer) ≡ refused x) × (run_buffer s q buffer ≡ buffer)
  -- "41 buffer shorter than the plan; A is the length needed", and no byte changed
  pub short : AllHold (run_checks s q) → length buffer < length_needed (model s)
      → (run_answer s q (length buffer) ≡ refused (record { number = 41; A = length_needed (model s); B = 0 }))
      × (run_buffer s q buffer ≡ buffer)
  -- with room enough it is refused exactly with the first break of 42 and 43 of the machine's run
  pub owed_or_late : AllHold (run_checks s q) → length_needed (model s) ≤ length buffer → (x : Refusal)
      → (run_answer s q (length buffer) ≡ refused x) ↔ FirstBroken (run_rules (model s) (choice q)) x
  -- "42 and 43 set the plan's length of bytes to 0", and the bytes beyond are what they were
  pub zeroed : AllHold (run_checks s q) → length_needed (model s) ≤ length buffer → (x : Refusal)
      → FirstBroken (run_rules (model s) (choice q)) x
      → run_buffer s q buffer ≡ replicate (length_needed (model s)) 0 ++ drop (length_needed (model s)) buffer
  -- and it succeeds exactly where both hold, with the plan's length and the figures of the machine's plan
  pub succeeds : AllHold (run_checks s q) → length_needed (model s) ≤ length buffer → (w : Written)
      → (run_answer s q (length buffer) ≡ accepted w)
      ↔ (AllHold (run_rules (model s) (choice q)) × (w ≡ written (model s) (choice q)))
  -- which it has then written, and "Bytes beyond the plan's length never change"
  pub writes : AllHold (run_checks s q) → length_needed (model s) ≤ length buffer → AllHold (run_rules (model s) (choice q))
      → run_buffer s q buffer ≡ plan_bytes (machine_plan (model s) (choice q)) ++ drop (length_needed (model s)) buffer

abbrev pub RunsAreAnswered : Type 1
RunsAreAnswered = (s q buffer : List ℕ) → RunAnswers s q buffer

-- Where a refusal comes from shows in its number: the answer is what the rules alone say, and the lent buffer what the number
-- that is answered says.
pub record ByNumber (s q buffer : List ℕ) : Type 0 where
  pub answer : (room : ℕ) → run_answer s q room ≡ answer_by_rules s q room
  pub buffer_left : run_buffer s q buffer ≡ buffer_by_number (run_answer s q (length buffer)) (model s) (choice q) buffer

abbrev pub RunsByNumber : Type 0
RunsByNumber = (s q buffer : List ℕ) → ByNumber s q buffer

-- what a run that succeeds has passed
pub record HasPassed (s q : List ℕ) (room : ℕ) : Type 0 where
  pub formed : MeetsForm s
  pub tested : PassesTests s q
  pub roomy : length_needed (model s) ≤ room
  pub settles : AllHold (run_rules (model s) (choice q))

abbrev pub SuccessHasPassed : Type 0
SuccessHasPassed = (s q : List ℕ) (room : ℕ) (w : Written) → run_answer s q room ≡ accepted w → HasPassed s q room

-- the plan that a successful run wrote has the machine's words, starts and ends, and the chosen releases
abbrev pub PlansAreMade : Type 0
PlansAreMade = (s q buffer : List ℕ) → Bytes q → (w : Written) → run_answer s q (length buffer) ≡ accepted w
    → Made (model s) (choice q).release (choice q).duration (plan (plan_written s q buffer w))

-- the page that `gridrun` prints from the buffer is that of the machine's plan, whatever else stands in the buffer
abbrev pub PageWritten : Type 0
PageWritten = (s q buffer : List ℕ) → Bytes q
    → run_lines (run_answer s q (length buffer)) (plan (run_buffer s q buffer))
    ≡ run_lines (run_answer s q (length buffer)) (machine_plan (model s) (choice q))
