-- What the checks and the run answer, and what the run leaves in the lent buffer.
-- Assumes nothing.
use Rattle.std.specs.Prelude.{ℕ, ◌-◌, ◌*◌, ◌<◌, cond, List, [], ◌∷◌, ◌++◌, ◌≡◌, eqb, ltb, length, drop, replicate}
use Rattle.std.proofs.Math.Option.{Option, some, none}
use Rattle.schedule.specs.Bounded.{total, greatest, least}
use Rattle.schedule.specs.Rule.{Rule, Refusal, first_break, AllHold}
use Rattle.schedule.specs.Model.{Model, model, model_form}
use Rattle.schedule.specs.Timing.{deadline_rule}
use Rattle.schedule.specs.Choice.{Choice, choice, choice_timing, choice_form}
use Rattle.schedule.specs.Plan.{Plan, plan, plan_form, plan_length, plan_bytes}
use Rattle.schedule.specs.Machine.{machine_word, machine_start, machine_end, machine_owes}
use Rattle.schedule.specs.Checks.{load, plain_rules, strict_rules}

-- what a call answers: what a pass answers, or the refusal
pub data Answer (F : Type 0) : Type 0 where
  accepted : F → Answer F
  refused : Refusal → Answer F

-- a pass unless a rule is broken
unfoldable pub answer : {F : Type 0} → Option Refusal → F → Answer F
answer none pass = accepted pass
answer (some x) pass = refused x

-- "A pass answers usage (all ones), c times H, makespan"
pub record Figures : Type 0 where
  pub usage : ℕ
  pub capacity : ℕ
  pub makespan : ℕ

-- usage is counted from the words, "in core ticks" (U7 of 02); makespan is the greatest end less the least release over all threads
unfoldable pub figures : Model → Plan → Figures
figures m p = record {
  usage = total m.horizon (λ t. load m p t);
  capacity = m.cores * m.horizon;
  makespan = greatest m.activities p.end - least m.threads p.release;
}

-- the rules of a check on two byte strings, in the order in which they are tried
unfoldable pub plain_checks : List ℕ → List ℕ → List Rule
plain_checks s r = model_form s ++ (plan_form (model s) r ++ plain_rules (model s) (plan r))

unfoldable pub strict_checks : List ℕ → List ℕ → List Rule
strict_checks s r = model_form s ++ (plan_form (model s) r ++ strict_rules (model s) (plan r))

-- the plain check's verdict on a model's and a plan's bytes
unfoldable pub plain_verdict : List ℕ → List ℕ → Answer Figures
plain_verdict s r = answer (first_break (plain_checks s r)) (figures (model s) (plan r))

-- the strict check's
unfoldable pub strict_verdict : List ℕ → List ℕ → Answer Figures
strict_verdict s r = answer (first_break (strict_checks s r)) (figures (model s) (plan r))

-- "the well-formed plan with the chosen releases and periods and the machine's starts, ends and words"
unfoldable pub machine_plan : Model → Choice → Plan
machine_plan m q = record {
  threads = m.threads;
  activities = m.activities;
  horizon = m.horizon;
  release = q.release;
  period = q.period;
  start = machine_start m q.release q.duration;
  end = machine_end m q.release q.duration;
  word = machine_word m q.release q.duration;
}

-- a plan that the machine makes: its words, starts and ends are the machine's, and its releases those that it was played with
pub record Made (m : Model) (release duration : ℕ → ℕ) (p : Plan) : Type 0 where
  pub words : (t : ℕ) → t < m.horizon → p.word t ≡ machine_word m release duration t
  pub starts : (a : ℕ) → a < m.activities → p.start a ≡ machine_start m release duration a
  pub ends : (a : ℕ) → a < m.activities → p.end a ≡ machine_end m release duration a
  pub released : (a : ℕ) → a < m.activities → p.release (m.thread a) ≡ release (m.thread a)

-- 42 something owed after tick H − 1; A the lowest such activity
unfoldable pub owed_rule : Model → Choice → Rule
owed_rule m q = record {
  number = 42;
  rows = m.activities;
  columns = 1;
  Holds = λ a _. machine_owes m q.release q.duration a ≡ 0;
  test = λ a _. eqb (machine_owes m q.release q.duration a) 0;
}

-- 42, then 43 all ended, an end breaks rule 23; A the lowest
unfoldable pub run_rules : Model → Choice → List Rule
run_rules m q =
    owed_rule m q ∷ deadline_rule 43 m (choice_timing q) (machine_end m q.release q.duration) ∷ []

-- "It answers the length, usage, c times H, and makespan"
pub record Written : Type 0 where
  pub length : ℕ
  pub figures : Figures

-- the length of the plan that a model asks for
unfoldable pub length_needed : Model → ℕ
length_needed m = plan_length m.threads m.activities m.horizon

-- what a successful run answers
abbrev pub written : Model → Choice → Written
written m q = record { length = length_needed m; figures = figures m (machine_plan m q) }

-- the rules of the run on its two records, in the order in which they are tried
unfoldable pub run_checks : List ℕ → List ℕ → List Rule
run_checks s q = model_form s ++ choice_form (model s) q

-- How the run ends, by where its refusal comes from: "From the input" (1 to 13, 51 to 53 and 57), or "From the state of the buffer
-- or run", which is the buffer's room (41) or the run itself (42 and 43); or with a plan written.
pub data Outcome : Type 0 where
  from_input : Refusal → Outcome
  from_buffer : Refusal → Outcome
  from_run : Refusal → Outcome
  succeeded : Written → Outcome

-- where there is room: 42 and 43, or the length and the figures
unfoldable pub concluded : Model → Choice → Outcome
concluded m q = elim (first_break (run_rules m q)) [ some x ↦ from_run x | none ↦ succeeded (written m q) ]

-- past the input: 41 buffer shorter than the plan, A is the length needed; then 42 and 43
unfoldable pub outcome : Model → Choice → ℕ → Outcome
outcome m q room =
    cond (ltb room (length_needed m)) (from_buffer (record { number = 41; A = length_needed m; B = 0 })) (concluded m q)

-- how the run ends on a model's and a choice's bytes and the buffer's length: "tried after the input"
unfoldable pub run_outcome : List ℕ → List ℕ → ℕ → Outcome
run_outcome s q room =
    elim (first_break (run_checks s q)) [ some x ↦ from_input x | none ↦ outcome (model s) (choice q) room ]

-- what the run answers
unfoldable pub answer_of : Outcome → Answer Written
answer_of (from_input x) = refused x
answer_of (from_buffer x) = refused x
answer_of (from_run x) = refused x
answer_of (succeeded w) = accepted w

unfoldable pub run_answer : List ℕ → List ℕ → ℕ → Answer Written
run_answer s q room = answer_of (run_outcome s q room)

-- what the run leaves in the lent buffer: "Input refusals and 41 change no byte"; "42 and 43 set the plan's length of
-- bytes to 0"; the plan on success; "Bytes beyond the plan's length never change"
unfoldable pub buffer_after : Outcome → Model → Choice → List ℕ → List ℕ
buffer_after (from_input x) m q buffer = buffer
buffer_after (from_buffer x) m q buffer = buffer
buffer_after (from_run x) m q buffer = replicate (length_needed m) 0 ++ drop (length_needed m) buffer
buffer_after (succeeded w) m q buffer = plan_bytes (machine_plan m q) ++ drop w.length buffer

-- the whole buffer after the run
unfoldable pub run_buffer : List ℕ → List ℕ → List ℕ → List ℕ
run_buffer s q buffer = buffer_after (run_outcome s q (length buffer)) (model s) (choice q) buffer

-- "A model that passes 1 to 7 meets its form rules": with 51 to 53 and 57 among them (02)
abbrev pub MeetsForm : List ℕ → Type 0
MeetsForm s = AllHold (model_form s)

-- "a plan that then passes 8 to 14 is well-formed"
abbrev pub WellFormed : List ℕ → List ℕ → Type 0
WellFormed s r = AllHold (plan_form (model s) r)

-- "a choice record that then passes 8 to 13 passes its tests"
abbrev pub PassesTests : List ℕ → List ℕ → Type 0
PassesTests s q = AllHold (choice_form (model s) q)
