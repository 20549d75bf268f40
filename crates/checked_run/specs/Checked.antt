-- What a run that has been checked answers, and what demand 3 says of the answers and of the lent buffer.
-- Assumes nothing.
use Rattle.std.specs.Prelude.{ℕ, ◌≤◌, List, ◌≡◌, length, take, Result, Ok, Err}
use Rattle.schedule.specs.Rule
use Rattle.schedule.specs.Model.{model}
use Rattle.schedule.specs.Answers
use Rattle.schedule.specs.Answers.{Answer, accepted, refused, plain_verdict, strict_verdict, length_needed, run_answer}
use Rattle.schedule.specs.Answers.{MeetsForm, PassesTests}
use Rattle.schedule.specs.Numbers.{refusal_numbers, verdict_numbers, written_numbers}
use Rattle.demands.specs.Strict.{PassesWith, Passes, plan_written}
use Rattle.schedule.specs.declared.Refusal.{Refusal}
use Rattle.checked_run.specs.declared.Ran.{Ran}

-- the run's refusal; or its answer with the plain and the strict verdict on the plan that it wrote
pub data CheckedRun : Type 0 where
  ran : Answers.Written → Answer Answers.Figures → Answer Answers.Figures → CheckedRun
  sent_back : Rule.Refusal → CheckedRun

-- what the declared answer says, in the paper's numbers
abbrev pub ran_numbers : Ran → CheckedRun
ran_numbers x = ran (written_numbers x.written) (verdict_numbers x.plain) (verdict_numbers x.strict)

abbrev pub Checked : Type 0
Checked = Result Ran Refusal

abbrev pub checked_numbers : Checked → CheckedRun
checked_numbers (Ok x) = ran_numbers x
checked_numbers (Err x) = sent_back (refusal_numbers x)

-- the answer for every model, choice and lent buffer
unfoldable pub checked_of : List ℕ → List ℕ → List ℕ → Answer Answers.Written → CheckedRun
checked_of s q buffer (accepted w) =
    ran w (plain_verdict s (plan_written s q buffer w)) (strict_verdict s (plan_written s q buffer w))
checked_of s q buffer (refused x) = sent_back x

unfoldable pub checked_run : List ℕ → List ℕ → List ℕ → CheckedRun
checked_run s q buffer = checked_of s q buffer (run_answer s q (length buffer))

-- "the plan it wrote is then the only one, and passes both checks", of the buffer afterwards and of the answers given
pub record OnlyPlan (s q new : List ℕ) (w : Answers.Written) (plain strict : Answer Answers.Figures) : Type 0 where
  pub passes : PassesWith s q (take w.length new) w.figures
  pub plain_accepts : plain ≡ accepted w.figures
  pub strict_accepts : strict ≡ accepted w.figures
  pub only : (r : List ℕ) → Passes s q r → r ≡ take w.length new

-- Demand 3 of the three answers: after a success the plan stands in the buffer and is the only one; "when it refuses, none
-- passes", for a model and a choice of right form and a buffer that was long enough.
abbrev pub KeepsDemand3 : List ℕ → List ℕ → List ℕ → List ℕ → CheckedRun → Type 0
KeepsDemand3 s q old new (ran w plain strict) = OnlyPlan s q new w plain strict
KeepsDemand3 s q old new (sent_back x) =
    MeetsForm s → PassesTests s q → length_needed (model s) ≤ length old → (r : List ℕ) → ¬ Passes s q r
