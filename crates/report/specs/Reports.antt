-- The report past its input: what it answers, and what a verdict and a list say of an answer.
-- Assumes nothing.
use Rattle.std.specs.Prelude.{ℕ, List, ◌∷◌, ◌≡◌, ℤ}
use Rattle.schedule.specs.Rule.{first_break}
use Rattle.schedule.specs.Model.{Model}
use Rattle.schedule.specs.Choice.{Choice}
use Rattle.schedule.specs.Answers.{Answer, answer, run_rules, Written, written}
use Rattle.schedule.specs.Report.{rows_rule, rows_after}
use Rattle.schedule.specs.Numbers.{run_numbers}
use Rattle.schedule.specs.Numbers.{RunVerdict}

-- 50, then 42 and 43
abbrev pub past_input : Model → Choice → ℕ → Answer Written
past_input m q lent = answer (first_break (rows_rule lent ∷ run_rules m q)) (written m q)

-- 42 and 43
abbrev pub past_rows : Model → Choice → Answer Written
past_rows m q = answer (first_break (run_rules m q)) (written m q)

-- A verdict says an answer, and the list is as that answer leaves it.
pub record Reports (said : Answer Written) (m : Model) (q : Choice) (list list' : List ℤ) (r : RunVerdict) : Type 0 where
  pub says : run_numbers r ≡ said
  pub leaves : list' ≡ rows_after said m q list
