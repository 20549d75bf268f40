-- The report of lateness on literal records: one table with one truth about it. The rows of a lent list are all different, so
-- that a row that is not left alone shows. Threads with a period are released at 0; Deadlines has those released late. The
-- expected values are worked out by hand.
-- Assumes nothing.
use Rattle.std.specs.Prelude.{ℕ, ◌+◌, List, [], ◌∷◌, ◌++◌, refl, ℤ, pos, negsuc, drop}
use Rattle.schedule.specs.Bounded.{table}
use Rattle.schedule.specs.Answers.{Answer, accepted, Written}
use Rattle.schedule.specs.Report.{dash}
use Rattle.schedule.specs.Cases.{every, patch, refuses, Case, Right, report, reports}
use Rattle.schedule.specs.Starred.{model_s, choice_s, horizon, wider_period, chosen_period}

-- a lent list of k rows: 100, 101, 102, ..
abbrev pub lent : ℕ → List ℤ
lent k = table k (λ a. pos (100 + a))

-- its rows from n on, which are left alone
abbrev pub kept : ℕ → ℕ → List ℤ
kept n k = drop n (lent k)

-- "accepted 5 8 6" with the length of the plan before it
abbrev pub answers : ℕ → ℕ → ℕ → ℕ → Answer Written
answers length u c h = accepted (record { length = length; figures = record { usage = u; capacity = c; makespan = h } })

-- S's choice with release 3 for thread 0, which 12 refuses, and with duration 3 for activity 0, which 13 refuses
abbrev late_release : List ℕ
late_release = patch 7 (0 ∷ 3 ∷ []) choice_s

abbrev long_duration : List ℕ
long_duration = patch 15 (0 ∷ 3 ∷ []) choice_s

-- c 1, n 3, m 2, H 4, no predecessors. Thread 0 owns no activity: period 9, release 0, priority 9.
-- Thread 1: period 1..65535, release 0, priority 1. Thread 2: period 1..4, release 0, priority 2.
-- Activity 0: thread 2, duration 1..4. Activity 1: thread 1, duration 1.
abbrev pub apart : List ℕ
apart =
    (0 ∷ 0 ∷ 0 ∷ 70 ∷ 1 ∷ 1 ∷ 3 ∷ 2 ∷ 0 ∷ 4 ∷ [])
    ++ (0 ∷ 9 ∷ 0 ∷ 9 ∷ 0 ∷ 0 ∷ 0 ∷ 0 ∷ 0 ∷ 9 ∷ [])
    ++ (0 ∷ 1 ∷ 255 ∷ 255 ∷ 0 ∷ 0 ∷ 0 ∷ 0 ∷ 0 ∷ 1 ∷ [])
    ++ (0 ∷ 1 ∷ 0 ∷ 4 ∷ 0 ∷ 0 ∷ 0 ∷ 0 ∷ 0 ∷ 2 ∷ [])
    ++ (2 ∷ 0 ∷ 1 ∷ 0 ∷ 4 ∷ 0 ∷ 0 ∷ 0 ∷ 0 ∷ 0 ∷ 0 ∷ 0 ∷ 0 ∷ 0 ∷ 0 ∷ [])
    ++ (1 ∷ 0 ∷ 1 ∷ 0 ∷ 1 ∷ 0 ∷ 0 ∷ 0 ∷ 0 ∷ 0 ∷ 0 ∷ 0 ∷ 0 ∷ 0 ∷ 0 ∷ [])

-- a choice for it: the periods of threads 1 and 2, and the duration of activity 0; all released at 0
abbrev pub chosen : ℕ → ℕ → ℕ → List ℕ
chosen period1 period2 duration =
    (0 ∷ 0 ∷ 0 ∷ 23 ∷ 1 ∷ 3 ∷ 2 ∷ [])
    ++ (0 ∷ 0 ∷ 0 ∷ 9 ∷ 0 ∷ 0 ∷ 0 ∷ period1 ∷ 0 ∷ 0 ∷ 0 ∷ period2 ∷ [])
    ++ (0 ∷ duration ∷ 0 ∷ 1 ∷ [])

-- thread 2 has no period
abbrev one_period : List ℕ
one_period = patch 30 (0 ∷ 0 ∷ 0 ∷ 0 ∷ []) apart

abbrev pub cases : List Case
cases =
    -- S has ends 3, 4, 6; thread 0 has no period, thread 1 has 8. Rows past the last activity are kept.
    record {
      asked = report model_s choice_s (lent 32);
      expected = reports (answers 61 5 8 6) (dash ∷ pos 4 ∷ pos 2 ∷ kept 3 32);
    }
    ∷ record {
      asked = report model_s choice_s (lent 33);
      expected = reports (answers 61 5 8 6) (dash ∷ pos 4 ∷ pos 2 ∷ kept 3 33);
    }
    -- thread 1's period range 5..8, chosen 5: one late
    ∷ record {
      asked = report wider_period (chosen_period 5) (lent 32);
      expected = reports (refuses 43 2 0) (dash ∷ pos 1 ∷ negsuc 0 ∷ kept 3 32);
    }
    -- chosen 6: 0 on the dot
    ∷ record {
      asked = report wider_period (chosen_period 6) (lent 32);
      expected = reports (answers 61 5 8 6) (dash ∷ pos 2 ∷ pos 0 ∷ kept 3 32);
    }
    -- H 5, 42: no row
    ∷ record { asked = report (horizon 5) choice_s (lent 32); expected = reports (refuses 42 2 0) (lent 32) }
    -- 50 for fewer than 32 rows, also where three would hold the report; before 42 and 43, after the input
    ∷ record { asked = report model_s choice_s (lent 31); expected = reports (refuses 50 0 0) (lent 31) }
    ∷ record { asked = report model_s choice_s []; expected = reports (refuses 50 0 0) [] }
    ∷ record { asked = report (horizon 5) choice_s (lent 31); expected = reports (refuses 50 0 0) (lent 31) }
    ∷ record { asked = report wider_period (chosen_period 5) (lent 3); expected = reports (refuses 50 0 0) (lent 3) }
    ∷ record { asked = report model_s late_release (lent 31); expected = reports (refuses 12 0 0) (lent 31) }
    ∷ record { asked = report model_s long_duration (lent 31); expected = reports (refuses 13 0 0) (lent 31) }
    ∷ record { asked = report model_s late_release (lent 32); expected = reports (refuses 12 0 0) (lent 32) }
    ∷ record { asked = report [] [] []; expected = reports (refuses 1 0 0) [] }
    -- A thread without activities has no row, and a period is looked up by an activity's thread: ends 1 and 2, periods 4
    -- and 3. By the activity's number they would be 9 and 3.
    ∷ record {
      asked = report apart (chosen 3 4 1) (lent 32);
      expected = reports (answers 45 2 4 2) (pos 3 ∷ pos 1 ∷ kept 2 32);
    }
    -- and so is that there is none: thread 2 owns activity 0
    ∷ record {
      asked = report one_period (chosen 3 0 1) (lent 32);
      expected = reports (answers 45 2 4 2) (dash ∷ pos 1 ∷ kept 2 32);
    }
    -- one late behind one on the dot, and two late: A is the lowest, and every activity has its row
    ∷ record {
      asked = report apart (chosen 1 1 1) (lent 32);
      expected = reports (refuses 43 1 0) (pos 0 ∷ negsuc 0 ∷ kept 2 32);
    }
    ∷ record {
      asked = report apart (chosen 1 1 2) (lent 32);
      expected = reports (refuses 43 0 0) (negsuc 0 ∷ negsuc 1 ∷ kept 2 32);
    }
    -- one late beside one that is owed: 42, and no row
    ∷ record { asked = report apart (chosen 1 1 4) (lent 32); expected = reports (refuses 42 1 0) (lent 32) }
    -- a period of 65535
    ∷ record {
      asked = report apart (patch 13 (255 ∷ 255 ∷ []) (chosen 0 4 1)) (lent 32);
      expected = reports (answers 45 2 4 2) (pos 3 ∷ pos 65533 ∷ kept 2 32);
    }
    ∷ []

pub late_cases : Right cases
unfolding every
late_cases = refl
