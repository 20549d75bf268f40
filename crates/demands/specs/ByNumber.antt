-- The run's answer and the lent buffer by rules and numbers alone, without saying where a refusal comes from.
-- Assumes nothing.
use Rattle.std.specs.Prelude.{ℕ, Bool, ◌||◌, cond, List, ◌++◌, eqb, ltb, drop, replicate}
use Rattle.std.proofs.Math.Option.{some, none}
use Rattle.schedule.specs.Rule.{Rule, first_break}
use Rattle.schedule.specs.Model.{Model, model}
use Rattle.schedule.specs.Choice.{Choice, choice}
use Rattle.schedule.specs.Plan.{plan_bytes}
use Rattle.schedule.specs.Answers.{Answer, accepted, refused, answer, Written, machine_plan, run_rules, length_needed, written, run_checks}

-- the first break of the input rules; else 41, where the buffer is too short; else the verdict of some rules, which stand in
-- the place of 42 and 43
unfoldable pub answer_by : List Rule → List ℕ → List ℕ → ℕ → Answer Written
answer_by rules s q room =
    elim (first_break (run_checks s q)) [
      | some x ↦ refused x
      | none ↦
          cond (ltb room (length_needed (model s))) (refused (record { number = 41; A = length_needed (model s); B = 0 }))
          (answer (first_break rules) (written (model s) (choice q)))
    ]

-- with the run's own rules, 42 and 43
unfoldable pub answer_by_rules : List ℕ → List ℕ → ℕ → Answer Written
answer_by_rules s q room = answer_by (run_rules (model s) (choice q)) s q room

-- the refusals that set bytes to 0
abbrev pub zeroing : ℕ → Bool
zeroing number = eqb number 42 || eqb number 43

-- "42 and 43 set the plan's length of bytes to 0"; every other refusal changes no byte
unfoldable pub buffer_by_number : Answer Written → Model → Choice → List ℕ → List ℕ
buffer_by_number (accepted w) m q buffer = plan_bytes (machine_plan m q) ++ drop w.length buffer
buffer_by_number (refused x) m q buffer =
    cond (zeroing x.number) (replicate (length_needed m) 0 ++ drop (length_needed m) buffer) buffer
