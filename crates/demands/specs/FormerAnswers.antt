-- What the run, the report and the held view answered before U7 of 02, and what was left in the lent buffer and in the lent list: with
-- the former machine and the former usage. A choice's and a plan's form rules, the lengths and the deadlines are today's. A model's
-- bytes are not read here: what is answered is by the form rules of its record and by the model that it says.
-- Assumes nothing.
use Rattle.std.specs.Prelude.{ℕ, true, false, cond, List, [], ◌∷◌, ◌++◌, ◌≡◌, eqb, ltb, ℤ, length, drop, replicate}
use Rattle.std.proofs.Math.Option.{Option, some, none}
use Rattle.schedule.specs.Bounded.{table}
use Rattle.schedule.specs.Rule.{Rule, Refusal, first_break}
use Rattle.schedule.specs.Model.{Model}
use Rattle.schedule.specs.Timing.{deadline_rule}
use Rattle.schedule.specs.Choice.{Choice, choice, choice_timing, choice_form}
use Rattle.schedule.specs.Plan.{Plan, plan, plan_form, plan_bytes}
use Rattle.schedule.specs.Answers.{Answer, answer, Written, length_needed}
use Rattle.schedule.specs.Answers.{Outcome, from_input, from_buffer, from_run, succeeded, answer_of}
use Rattle.schedule.specs.Report.{lateness, rows_rule, fills}
use Rattle.schedule.specs.Streams.{WordOrPast, word, past, or_past}
use Rattle.demands.specs.FormerMachine.{machine_word, machine_start, machine_end, machine_owes}
use Rattle.demands.specs.FormerChecks.{figures}

-- "the well-formed plan with the chosen releases and periods and the machine's starts, ends and words"
unfoldable pub machine_plan : Model → Choice → Plan
machine_plan m q = record {
  threads = m.threads;
  activities = m.activities;
  horizon = m.horizon;
  release = q.release;
  period = q.period;
  start = machine_start m q.release q.duration;
  end = machine_end m q.release q.duration;
  word = machine_word m q.release q.duration;
}

-- 42 something owed after tick H − 1; A the lowest such activity
unfoldable pub owed_rule : Model → Choice → Rule
owed_rule m q = record {
  number = 42;
  rows = m.activities;
  columns = 1;
  Holds = λ a _. machine_owes m q.release q.duration a ≡ 0;
  test = λ a _. eqb (machine_owes m q.release q.duration a) 0;
}

-- 42, then 43 all ended, an end breaks rule 23; A the lowest
unfoldable pub run_rules : Model → Choice → List Rule
run_rules m q =
    owed_rule m q ∷ deadline_rule 43 m (choice_timing q) (machine_end m q.release q.duration) ∷ []

-- ---- the run

-- what a successful run answers
abbrev pub written : Model → Choice → Written
written m q = record { length = length_needed m; figures = figures m (machine_plan m q) }

-- how it ends: by the input, by 41, by 42 and 43, or with a plan written
unfoldable pub concluded : Model → Choice → Outcome
concluded m q = elim (first_break (run_rules m q)) [ some x ↦ from_run x | none ↦ succeeded (written m q) ]

unfoldable pub outcome : Model → Choice → ℕ → Outcome
outcome m q room =
    cond (ltb room (length_needed m)) (from_buffer (record { number = 41; A = length_needed m; B = 0 })) (concluded m q)

unfoldable pub run_outcome : List Rule → Model → List ℕ → ℕ → Outcome
run_outcome form m q room =
    elim (first_break (form ++ choice_form m q)) [ some x ↦ from_input x | none ↦ outcome m (choice q) room ]

unfoldable pub run_answer : List Rule → Model → List ℕ → ℕ → Answer Written
run_answer form m q room = answer_of (run_outcome form m q room)

-- the lent buffer after it
unfoldable pub buffer_after : Outcome → Model → Choice → List ℕ → List ℕ
buffer_after (from_input x) m q buffer = buffer
buffer_after (from_buffer x) m q buffer = buffer
buffer_after (from_run x) m q buffer = replicate (length_needed m) 0 ++ drop (length_needed m) buffer
buffer_after (succeeded w) m q buffer = plan_bytes (machine_plan m q) ++ drop w.length buffer

unfoldable pub run_buffer : List Rule → Model → List ℕ → List ℕ → List ℕ
run_buffer form m q buffer = buffer_after (run_outcome form m q (length buffer)) m (choice q) buffer

-- ---- the report

unfoldable pub report_answer : List Rule → Model → List ℕ → ℕ → Answer Written
report_answer form m q lent =
    answer (first_break ((form ++ choice_form m q) ++ (rows_rule lent ∷ run_rules m (choice q)))) (written m (choice q))

unfoldable pub report_row : Model → Choice → ℕ → ℤ
report_row m q a =
    lateness (q.release (m.thread a)) (q.period (m.thread a)) (machine_end m q.release q.duration a)

-- the lent list after it
unfoldable pub report_rows : List Rule → Model → List ℕ → List ℤ → List ℤ
report_rows form m q list = elim (fills (report_answer form m q (length list))) [
  | true ↦ table m.activities (report_row m (choice q)) ++ drop m.activities list
  | false ↦ list
]

-- ---- the held view of a plan's grid

unfoldable pub view_refusal : List Rule → Model → List ℕ → Option Refusal
view_refusal form m r = first_break (form ++ plan_form m r)

unfoldable pub view_word : List Rule → Model → List ℕ → ℕ → WordOrPast
view_word form m r t = or_past (view_refusal form m r) (cond (ltb t (plan r).horizon) (word ((plan r).word t)) past)
