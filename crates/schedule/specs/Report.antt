-- "Lateness in a table" (U1 of 02): by how much each activity keeps or misses its deadline, what the report answers, and
-- what it leaves in the lent list.
-- Assumes nothing.
use Rattle.std.specs.Prelude.{ℕ, ◌≤◌, Bool, true, false, cond, List, ◌∷◌, ◌++◌, eqb, leb, ℤ, pos, negsuc, length, drop}
use Rattle.std.proofs.Math.IntN.{sub_ℕ}
use Rattle.schedule.specs.Bounded.{table}
use Rattle.schedule.specs.Rule.{Rule, first_break}
use Rattle.schedule.specs.Model.{Model, model}
use Rattle.schedule.specs.Timing.{deadline}
use Rattle.schedule.specs.Choice.{Choice, choice}
use Rattle.schedule.specs.Machine.{machine_end}
use Rattle.schedule.specs.Answers.{Answer, accepted, refused, answer, run_rules, Written, written, run_checks}

-- "An activity whose thread has no period gets −2147483648, printed as a dash"
abbrev pub dash : ℤ
dash = negsuc 2147483647

abbrev pub is_dash : ℤ → Bool
is_dash (pos n) = false
is_dash (negsuc n) = eqb n 2147483647

-- "the deadline less its end, as a signed whole number, negative when late and 0 on the dot", from the release and the
-- period of a thread and the end of an activity of it. The word and the sign are the paper's.
abbrev pub lateness : ℕ → ℕ → ℕ → ℤ
lateness release period end = cond (eqb period 0) dash (sub_ℕ (deadline release period) end)

-- the report's row of activity a: from the chosen release and period of its thread, and its end as the machine ends it
unfoldable pub report_row : Model → Choice → ℕ → ℤ
report_row m q a =
    lateness (q.release (m.thread a)) (q.period (m.thread a)) (machine_end m q.release q.duration a)

-- 50 "for a list under 32 rows": however many activities there are
abbrev pub rows_needed : ℕ
rows_needed = 32

unfoldable pub rows_rule : ℕ → Rule
rows_rule lent = record {
  number = 50;
  rows = 1;
  columns = 1;
  Holds = λ _ _. rows_needed ≤ lent;
  test = λ _ _. leb rows_needed lent;
}

-- The rules of the report on its two records and a list of so many rows, in the order in which they are tried: "50, after
-- the input", where the run has 41, which "does not arise here"; then 42 and 43.
unfoldable pub report_rules : List ℕ → List ℕ → ℕ → List Rule
report_rules s q lent = run_checks s q ++ (rows_rule lent ∷ run_rules (model s) (choice q))

-- "The report takes a model and a choice, answers as the run does"
unfoldable pub report_answer : List ℕ → List ℕ → ℕ → Answer Written
report_answer s q lent = answer (first_break (report_rules s q lent)) (written (model s) (choice q))

-- "fills a lent list of 32-bit numbers for success and for 43; for every other answer no row is written"
abbrev pub fills : Answer Written → Bool
fills (accepted w) = true
fills (refused x) = eqb x.number 43

-- the list after that answer: a row for each activity, and "rows past the last activity stay untouched"
unfoldable pub rows_after : Answer Written → Model → Choice → List ℤ → List ℤ
rows_after said m q list = elim (fills said) [
  | true ↦ table m.activities (report_row m q) ++ drop m.activities list
  | false ↦ list
]

-- the whole list after the report
unfoldable pub report_rows : List ℕ → List ℕ → List ℤ → List ℤ
report_rows s q list = rows_after (report_answer s q (length list)) (model s) (choice q) list
