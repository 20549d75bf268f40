-- Deadlines that are nearly right, each with literal records on which the run, the report's rows and both checks would be
-- others with it than they are. One table of threads that are all released late, and one of a thread released at 0 beside one
-- released late, where with 01's deadline the row of the first stays. One truth about each; the values are worked out by hand.
-- Assumes nothing.
use Prim.Native.Nat.{ℕ, ◌+◌, ◌-◌, ◌%◌}
use mathlib.Core.List.{List, [], ◌∷◌, ◌++◌, map}
use mathlib.Core.Path.{◌≡◌, refl}
use lib.IntN.{ℤ, pos, negsuc}
use lib.ListN.{get_or}
use Rattle.schedule.specs.Bounded.{greatest, least, chain}
use Rattle.schedule.specs.Fields.{bytes}
use Rattle.schedule.specs.Answers.{Answer, Figures, Written, plain_verdict, strict_verdict, run_answer}
use Rattle.schedule.specs.Report.{report_rows}
use Rattle.schedule.specs.Cases.{every, patch, accepts, refuses}
use Rattle.schedule.specs.Lateness.{lent, kept, answers}
use Rattle.schedule.specs.Deadlines.{gauges, lasting, period_in, long_period, two, four, five, second_late}
use Rattle.demands.specs.ByNumber.{answer_by}
use Rattle.demands.specs.Deadline.{
  Deadline,
  from_release,
  former,
  rule_with,
  plain_with,
  strict_with,
  run_with,
  report_with,
  row_with,
  rows_with,
}

-- ---- the deadlines, beside the former one, which adds no release

-- the least and the most release that the thread may have
abbrev pub by_least_release : Deadline
by_least_release m timing a = m.least_release (m.thread a) + timing.period (m.thread a)

abbrev pub by_most_release : Deadline
by_most_release m timing a = m.most_release (m.thread a) + timing.period (m.thread a)

-- the release of another thread: by the activity's number, or the earliest of all
abbrev pub by_activity : Deadline
by_activity m timing a = timing.release a + timing.period (m.thread a)

abbrev pub earliest_release : Deadline
earliest_release m timing a = least m.threads timing.release + timing.period (m.thread a)

-- the latest of all: where all are released at 0 nobody sees a change, and where one is released later everybody does
abbrev pub latest_release : Deadline
latest_release m timing a = greatest m.threads timing.release + timing.period (m.thread a)

-- the sum cut to 16 bits
abbrev pub cut : Deadline
cut m timing a = from_release m timing a % 65536

-- the tick before, as "end < release + period" has it
abbrev pub before : Deadline
before m timing a = from_release m timing a - 1

-- ---- the tables

-- what is answered: the run's answer, the report's rows, and the verdict of both checks
pub record Said : Type 0 where
  pub run : Answer Written
  pub rows : List ℤ
  pub plain : Answer Figures
  pub strict : Answer Figures

-- A deadline, and a choice and a plan for a model: what is right of them, and what would be answered with that deadline.
pub record Case : Type 0 where
  pub deadline : Deadline
  pub choice : List ℕ
  pub plan : List ℕ
  pub right : Said
  pub instead : Said

-- an answer of the run with the rows of the two activities, and the verdict of both checks
abbrev says : Answer Written → ℤ → ℤ → Answer Figures → Said
says run first second check = record { run = run; rows = first ∷ second ∷ kept 2 32; plain = check; strict = check }

-- what is right of durations 2 and 2: ends 7 and 4, of deadlines 9 and 5
abbrev within_time : Said
within_time = says (answers 73 4 24 5) (pos 2) (pos 1) (accepts 4 24 5)

-- the room that the plan needs
abbrev room : ℕ
room = 73

abbrev pub rightly : List ℕ → Case → Said
rightly s c = record {
  run = run_answer s c.choice room;
  rows = report_rows s c.choice (lent 32);
  plain = plain_verdict s c.plan;
  strict = strict_verdict s c.plan;
}

abbrev pub wrongly : List ℕ → Case → Said
wrongly s c = record {
  run = run_with c.deadline s c.choice room;
  rows = rows_with c.deadline s c.choice (lent 32);
  plain = plain_with c.deadline s c.plan;
  strict = strict_with c.deadline s c.plan;
}

abbrev pub cases : List Case
cases =
    record {
      deadline = former;
      choice = lasting 2 2;
      plan = two;
      right = within_time;
      instead = says (refuses 43 0 0) (negsuc 2) (negsuc 0) (refuses 23 0 0);
    }
    ∷ record {
      deadline = former;
      choice = lasting 2 4;
      plan = second_late;
      right = says (refuses 43 1 0) (pos 2) (negsuc 0) (refuses 23 1 0);
      instead = says (refuses 43 0 0) (negsuc 2) (negsuc 2) (refuses 23 0 0);
    }
    ∷ record {
      deadline = by_least_release;
      choice = lasting 2 2;
      plan = two;
      right = within_time;
      instead = says (refuses 43 0 0) (negsuc 1) (pos 0) (refuses 23 0 0);
    }
    ∷ record {
      deadline = by_most_release;
      choice = lasting 5 2;
      plan = five;
      right = says (refuses 43 0 0) (negsuc 0) (pos 1) (refuses 23 0 0);
      instead = says (answers 73 7 24 8) (pos 3) (pos 65534) (accepts 7 24 8);
    }
    ∷ record {
      deadline = by_activity;
      choice = lasting 2 2;
      plan = two;
      right = within_time;
      instead = says (refuses 43 0 0) (negsuc 0) (pos 4) (refuses 23 0 0);
    }
    ∷ record {
      deadline = earliest_release;
      choice = lasting 2 2;
      plan = two;
      right = within_time;
      instead = says (refuses 43 0 0) (negsuc 0) (pos 1) (refuses 23 0 0);
    }
    ∷ record {
      deadline = cut;
      choice = period_in 255 255 (lasting 2 2);
      plan = long_period two;
      right = says (answers 73 4 24 5) (pos 65533) (pos 1) (accepts 4 24 5);
      instead = says (refuses 43 0 0) (negsuc 2) (pos 1) (refuses 23 0 0);
    }
    ∷ record {
      deadline = before;
      choice = lasting 4 2;
      plan = four;
      right = says (answers 73 6 24 7) (pos 0) (pos 1) (accepts 6 24 7);
      instead = says (refuses 43 0 0) (negsuc 0) (pos 0) (refuses 23 0 0);
    }
    ∷ []

-- ---- one thread released at 0, one later

-- the gauges with releases of thread 0 from 0 on
abbrev gauges-from-zero : List ℕ
gauges-from-zero = patch 14 (0 ∷ 0 ∷ []) gauges

-- Thread 0 is released at 0 with period 3, thread 1 at 5 with period 4: the deadlines are 9 for activity 0, which is of thread
-- 1, and 3 for activity 1, which is of thread 0.
abbrev one_at_zero : ℕ → ℕ → List ℕ
one_at_zero first second = patch 7 (0 ∷ 0 ∷ []) (lasting first second)

-- the plan of that: activity 0 at ticks 5 and 6, activity 1 from tick 0 up to an end
abbrev beside : ℕ → List ℕ → List ℕ
beside end words =
    (0 ∷ 0 ∷ 0 ∷ 73 ∷ 1 ∷ 2 ∷ 2 ∷ 0 ∷ 12 ∷ [])
    ++ (0 ∷ 0 ∷ 0 ∷ 3 ∷ 0 ∷ 5 ∷ 0 ∷ 4 ∷ [])
    ++ (0 ∷ 5 ∷ 0 ∷ 7 ∷ 0 ∷ 0 ∷ 0 ∷ end ∷ [])
    ++ chain 12 (λ t. bytes 4 (get_or words t 0))

-- With 01's deadline the verdict is another, because of thread 1, and the row of activity 1 is the same, in time or late. With
-- the latest of all releases that row is another.
abbrev pub beside_cases : List Case
beside_cases =
    record {
      deadline = former;
      choice = one_at_zero 2 2;
      plan = beside 2 (2 ∷ 2 ∷ 0 ∷ 0 ∷ 0 ∷ 1 ∷ 1 ∷ []);
      right = says (answers 73 4 24 7) (pos 2) (pos 1) (accepts 4 24 7);
      instead = says (refuses 43 0 0) (negsuc 2) (pos 1) (refuses 23 0 0);
    }
    ∷ record {
      deadline = former;
      choice = one_at_zero 2 4;
      plan = beside 4 (2 ∷ 2 ∷ 2 ∷ 2 ∷ 0 ∷ 1 ∷ 1 ∷ []);
      right = says (refuses 43 1 0) (pos 2) (negsuc 0) (refuses 23 1 0);
      instead = says (refuses 43 0 0) (negsuc 2) (negsuc 0) (refuses 23 0 0);
    }
    ∷ record {
      deadline = latest_release;
      choice = one_at_zero 2 4;
      plan = beside 4 (2 ∷ 2 ∷ 2 ∷ 2 ∷ 0 ∷ 1 ∷ 1 ∷ []);
      right = says (refuses 43 1 0) (pos 2) (negsuc 0) (refuses 23 1 0);
      instead = says (answers 73 6 24 7) (pos 2) (pos 4) (accepts 6 24 7);
    }
    ∷ []

-- a table about a model is right in both columns
abbrev Right : List ℕ → List Case → Type 0
Right s table = (map (rightly s) table ≡ map (λ c. c.right) table) × (map (wrongly s) table ≡ map (λ c. c.instead) table)

pub wrong_deadlines : Right gauges cases
unfolding every answer_by rule_with plain_with strict_with run_with report_with row_with rows_with
wrong_deadlines = (refl, refl)

pub wrong_beside : Right gauges-from-zero beside_cases
unfolding every answer_by rule_with plain_with strict_with run_with report_with row_with rows_with
wrong_beside = (refl, refl)
