-- Any deadline in the place of rule 23's: what the checks, the run and the report answer with it. So it can be said that 23,
-- 43 and the report's rows hang on one deadline, that "Threads released at 0 see no change" (U2 of 02), of whole pages and of
-- each activity, and what a wrong deadline would answer.
-- Assumes nothing.
use Rattle.std.specs.Prelude.{ℕ, ◌+◌, ◌≤◌, ◌<◌, true, false, not, cond, List, [], ◌∷◌, ◌++◌, ◌↔◌, ◌≡◌, eqb, leb, ℤ, length, drop, get_or}
use Rattle.std.proofs.Math.IntN.{sub_ℕ}
use Rattle.schedule.specs.Bounded.{◌⇒◌, table}
use Rattle.schedule.specs.Rule.{Rule, first_break}
use Rattle.schedule.specs.Model.{Model, model}
use Rattle.schedule.specs.Timing.{Timing, deadline_rule}
use Rattle.schedule.specs.Choice.{Choice, choice, choice_timing}
use Rattle.schedule.specs.Plan.{Plan, plan, plan_timing}
use Rattle.schedule.specs.Machine.{machine_end}
use Rattle.schedule.specs.Checks.{rule23}
use Rattle.schedule.specs.Answers.{Answer, answer, Figures, figures, plain_checks, strict_checks, plain_verdict, strict_verdict}
use Rattle.schedule.specs.Answers.{run_rules, Written, written, run_answer, run_buffer}
use Rattle.schedule.specs.Report.{dash, report_rules, report_answer, fills, report_rows}
use Rattle.demands.specs.ByNumber.{answer_by, buffer_by_number}

-- a deadline of each activity, from the model and the chosen releases and periods
abbrev pub Deadline : Type 0
Deadline = Model → Timing → ℕ → ℕ

-- "end ≤ release + period", the chosen ones of the activity's thread
abbrev pub from_release : Deadline
from_release m timing a = timing.release (m.thread a) + timing.period (m.thread a)

-- what it was in 01: "a thread with a period has end ≤ that period"
abbrev pub former : Deadline
former m timing a = timing.period (m.thread a)

-- A list of rules, with one in the place of that of its number. That 23 and 43 stand in the lists below is in demand 2; the
-- table of wrong deadlines shows that a rule put in their place bites.
abbrev pub replaced : Rule → List Rule → List Rule
replaced rule [] = []
replaced rule (x ∷ xs) = cond (eqb x.number rule.number) rule x ∷ replaced rule xs

-- ---- the answers with a deadline

module _ (d : Deadline) where
  -- rule 23, of a plan's ends, and 43, of the run's. A activity.
  unfoldable pub rule_with : ℕ → Model → Timing → (ℕ → ℕ) → Rule
  rule_with number m timing end = record {
    number = number;
    rows = m.activities;
    columns = 1;
    Holds = λ a _. ¬ (timing.period (m.thread a) ≡ 0) → end a ≤ d m timing a;
    test = λ a _. not (eqb (timing.period (m.thread a)) 0) ⇒ leb (end a) (d m timing a);
  }

  abbrev pub plan_rule_with : List ℕ → List ℕ → Rule
  plan_rule_with s r = rule_with 23 (model s) (plan_timing (plan r)) (plan r).end

  abbrev pub run_rule_with : Model → Choice → Rule
  run_rule_with m q = rule_with 43 m (choice_timing q) (machine_end m q.release q.duration)

  -- both checks of a model's and a plan's bytes
  unfoldable pub plain_with : List ℕ → List ℕ → Answer Figures
  plain_with s r = answer (first_break (replaced (plan_rule_with s r) (plain_checks s r))) (figures (model s) (plan r))

  unfoldable pub strict_with : List ℕ → List ℕ → Answer Figures
  strict_with s r = answer (first_break (replaced (plan_rule_with s r) (strict_checks s r))) (figures (model s) (plan r))

  -- the run of a model's and a choice's bytes with a buffer's length, and the buffer after it
  unfoldable pub run_with : List ℕ → List ℕ → ℕ → Answer Written
  run_with s q room =
      answer_by (replaced (run_rule_with (model s) (choice q)) (run_rules (model s) (choice q))) s q room

  unfoldable pub buffer_with : List ℕ → List ℕ → List ℕ → List ℕ
  buffer_with s q buffer = buffer_by_number (run_with s q (length buffer)) (model s) (choice q) buffer

  -- the report of them with a list's length, a row of it, and the list after it
  unfoldable pub report_with : List ℕ → List ℕ → ℕ → Answer Written
  report_with s q lent =
      answer (first_break (replaced (run_rule_with (model s) (choice q)) (report_rules s q lent))) (written (model s) (choice q))

  unfoldable pub row_with : Model → Choice → ℕ → ℤ
  row_with m q a =
      cond (eqb (q.period (m.thread a)) 0) dash
      (sub_ℕ (d m (choice_timing q) a) (machine_end m q.release q.duration a))

  unfoldable pub rows_with : List ℕ → List ℕ → List ℤ → List ℤ
  rows_with s q list = elim (fills (report_with s q (length list))) [
    | true ↦ table (model s).activities (row_with (model s) (choice q)) ++ drop (model s).activities list
    | false ↦ list
  ]

-- ---- what is said of a deadline

-- The answers are those with deadline d, of every two byte strings for which a condition holds: of the model, and of the
-- releases and periods that the second record has.
pub record AnswersAs (d : Deadline) (Where : Model → Timing → Type 0) : Type 0 where
  pub plain : (s r : List ℕ) → Where (model s) (plan_timing (plan r)) → plain_verdict s r ≡ plain_with d s r
  pub strict : (s r : List ℕ) → Where (model s) (plan_timing (plan r)) → strict_verdict s r ≡ strict_with d s r
  pub run : (s q : List ℕ) (room : ℕ) → Where (model s) (choice_timing (choice q)) → run_answer s q room ≡ run_with d s q room
  pub buffer : (s q buffer : List ℕ) → Where (model s) (choice_timing (choice q)) → run_buffer s q buffer ≡ buffer_with d s q buffer
  pub report : (s q : List ℕ) (lent : ℕ) → Where (model s) (choice_timing (choice q))
      → report_answer s q lent ≡ report_with d s q lent
  pub rows : (s q : List ℕ) (list : List ℤ) → Where (model s) (choice_timing (choice q))
      → report_rows s q list ≡ rows_with d s q list

-- always
abbrev pub Always : Model → Timing → Type 0
Always m timing = Unit {0}

-- thread j is "released at 0", which is asked of a thread with a period alone
abbrev pub AtZero : Timing → ℕ → Type 0
AtZero timing j = ¬ (timing.period j ≡ 0) → timing.release j ≡ 0

-- "Threads released at 0": each thread is
abbrev pub ReleasedAtZero : Model → Timing → Type 0
ReleasedAtZero m timing = (j : ℕ) → j < m.threads → AtZero timing j

-- Rule 23, 43 and the report's rows take this deadline, and no other.
abbrev pub FromRelease : Type 0
FromRelease = AnswersAs from_release Always

-- "Threads released at 0 see no change", where all are.
abbrev pub SeeNoChange : Type 0
SeeNoChange = AnswersAs former ReleasedAtZero

-- ---- the same of one activity, whatever the other threads are

-- two rules say one thing of activity a, and test it alike
pub record AlikeAt (rule rule' : Rule) (a : ℕ) : Type 0 where
  pub says : rule.Holds a 0 ↔ rule'.Holds a 0
  pub test : rule.test a 0 ≡ rule'.test a 0

-- Wherever a condition holds of activity a: rule 23 of every plan, and 43 of the run's ends with every choice, say of it what
-- they say with deadline d; and row a of every lent list, after the report of every two byte strings, is the one with it. Where
-- the list has no row a, any z stands for it; past the last activity both lists are as they were lent.
pub record ActivityAs (d : Deadline) (Where : Model → Timing → ℕ → Type 0) : Type 0 where
  pub check : (m : Model) (p : Plan) (a : ℕ) → Where m (plan_timing p) a
      → AlikeAt (rule23 m p) (rule_with d 23 m (plan_timing p) p.end) a
  pub run : (m : Model) (q : Choice) (a : ℕ) → Where m (choice_timing q) a
      → AlikeAt (deadline_rule 43 m (choice_timing q) (machine_end m q.release q.duration)) (run_rule_with d m q) a
  pub row : (s q : List ℕ) (list : List ℤ) (a : ℕ) (z : ℤ) → Where (model s) (choice_timing (choice q)) a
      → get_or (report_rows s q list) a z ≡ get_or (rows_with d s q list) a z

-- the thread of activity a is "released at 0"
abbrev pub OfThreadAtZero : Model → Timing → ℕ → Type 0
OfThreadAtZero m timing a = AtZero timing (m.thread a)

-- "Threads released at 0 see no change", each by itself and whatever the others are: the rule is 01's there, "a thread with a
-- period has end ≤ that period", and its row of the report the former one.
abbrev pub EachSeesNoChange : Type 0
EachSeesNoChange = ActivityAs former OfThreadAtZero
