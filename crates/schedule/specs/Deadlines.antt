-- "Deadlines counted from the release" (U2 of 02), on literal records whose threads are released late: the report, which
-- answers as the run does, with its rows, and both checks of a plan. One table with one truth about it; in S no thread with a
-- period is released late, so that its cases say nothing of this. The expected values are worked out by hand.
-- Assumes nothing.
use Rattle.std.specs.Prelude.{ℕ, List, [], ◌∷◌, ◌++◌, refl, pos, negsuc}
use Rattle.schedule.specs.Report.{dash}
use Rattle.schedule.specs.Cases.{every, patch, accepts, refuses, Case, Right, check, report, verdicts, reports}
use Rattle.schedule.specs.Lateness.{lent, kept, answers}

-- c 2, n 2, m 2, H 12, no predecessors. Thread 0: period 1..65535, release 1..65535. Thread 1: period 1..65535, release 1..9.
-- Both have priority 1. Activity 0: thread 1, duration 1..8. Activity 1: thread 0, duration 1..8.
abbrev pub gauges : List ℕ
gauges =
    (0 ∷ 0 ∷ 0 ∷ 60 ∷ 1 ∷ 2 ∷ 2 ∷ 2 ∷ 0 ∷ 12 ∷ [])
    ++ (0 ∷ 1 ∷ 255 ∷ 255 ∷ 0 ∷ 1 ∷ 255 ∷ 255 ∷ 0 ∷ 1 ∷ [])
    ++ (0 ∷ 1 ∷ 255 ∷ 255 ∷ 0 ∷ 1 ∷ 0 ∷ 9 ∷ 0 ∷ 1 ∷ [])
    ++ (1 ∷ 0 ∷ 1 ∷ 0 ∷ 8 ∷ 0 ∷ 0 ∷ 0 ∷ 0 ∷ 0 ∷ 0 ∷ 0 ∷ 0 ∷ 0 ∷ 0 ∷ [])
    ++ (0 ∷ 0 ∷ 1 ∷ 0 ∷ 8 ∷ 0 ∷ 0 ∷ 0 ∷ 0 ∷ 0 ∷ 0 ∷ 0 ∷ 0 ∷ 0 ∷ 0 ∷ [])

-- thread 1 has no period
abbrev no_period : List ℕ
no_period = patch 20 (0 ∷ 0 ∷ 0 ∷ 0 ∷ []) gauges

-- Thread 0 is released at 2 with period 3, thread 1 at 5 with period 4: the deadlines are 9 for activity 0, 5 for activity 1.
abbrev timings : List ℕ
timings = 0 ∷ 2 ∷ 0 ∷ 3 ∷ 0 ∷ 5 ∷ 0 ∷ 4 ∷ []

-- the choice with these, and durations of activities 0 and 1
abbrev pub lasting : ℕ → ℕ → List ℕ
lasting first second = (0 ∷ 0 ∷ 0 ∷ 19 ∷ 1 ∷ 2 ∷ 2 ∷ []) ++ timings ++ (0 ∷ first ∷ 0 ∷ second ∷ [])

-- the same with another period of thread 1
abbrev pub period_in : ℕ → ℕ → List ℕ → List ℕ
period_in high low q = patch 13 (high ∷ low ∷ []) q

-- a word of a tick
abbrev word : ℕ → List ℕ
word w = 0 ∷ 0 ∷ 0 ∷ w ∷ []

-- The plan with these timings, in which activities 0 and 1 have a start and an end, and its words at ticks 2 to 9.
abbrev planned : List ℕ → List ℕ → List ℕ
planned spans words =
    (0 ∷ 0 ∷ 0 ∷ 73 ∷ 1 ∷ 2 ∷ 2 ∷ 0 ∷ 12 ∷ []) ++ timings ++ spans
    ++ (word 0 ++ word 0 ++ words ++ word 0 ++ word 0)

-- activity 1 at ticks 2 and 3; activity 0 from tick 5 on for 2, 4 and 5 ticks
abbrev pub two : List ℕ
two =
    planned (0 ∷ 5 ∷ 0 ∷ 7 ∷ 0 ∷ 2 ∷ 0 ∷ 4 ∷ [])
    (word 2 ++ word 2 ++ word 0 ++ word 1 ++ word 1 ++ word 0 ++ word 0 ++ word 0)

abbrev pub four : List ℕ
four =
    planned (0 ∷ 5 ∷ 0 ∷ 9 ∷ 0 ∷ 2 ∷ 0 ∷ 4 ∷ [])
    (word 2 ++ word 2 ++ word 0 ++ word 1 ++ word 1 ++ word 1 ++ word 1 ++ word 0)

abbrev pub five : List ℕ
five =
    planned (0 ∷ 5 ∷ 0 ∷ 10 ∷ 0 ∷ 2 ∷ 0 ∷ 4 ∷ [])
    (word 2 ++ word 2 ++ word 0 ++ word 1 ++ word 1 ++ word 1 ++ word 1 ++ word 1)

-- activity 1 at ticks 2 to 5, activity 0 at ticks 5 and 6
abbrev pub second_late : List ℕ
second_late =
    planned (0 ∷ 5 ∷ 0 ∷ 7 ∷ 0 ∷ 2 ∷ 0 ∷ 6 ∷ [])
    (word 2 ++ word 2 ++ word 2 ++ word 3 ++ word 1 ++ word 0 ++ word 0 ++ word 0)

-- a plan with period 65535 for thread 1
abbrev pub long_period : List ℕ → List ℕ
long_period r = patch 15 (255 ∷ 255 ∷ []) r

-- a plan with release 65535 and period 1 for thread 0
abbrev last_release : List ℕ → List ℕ
last_release r = patch 9 (255 ∷ 255 ∷ 0 ∷ 1 ∷ []) r

abbrev pub cases : List Case
cases =
    -- ends 7 and 4, both later than the period alone and in time
    record {
      asked = report gauges (lasting 2 2) (lent 32);
      expected = reports (answers 73 4 24 5) (pos 2 ∷ pos 1 ∷ kept 2 32);
    }
    ∷ record { asked = check gauges two; expected = verdicts (accepts 4 24 5) (accepts 4 24 5) }
    -- end 9: 0 on the dot
    ∷ record {
      asked = report gauges (lasting 4 2) (lent 32);
      expected = reports (answers 73 6 24 7) (pos 0 ∷ pos 1 ∷ kept 2 32);
    }
    ∷ record { asked = check gauges four; expected = verdicts (accepts 6 24 7) (accepts 6 24 7) }
    -- end 10: one late, after a release at 5
    ∷ record {
      asked = report gauges (lasting 5 2) (lent 32);
      expected = reports (refuses 43 0 0) (negsuc 0 ∷ pos 1 ∷ kept 2 32);
    }
    ∷ record { asked = check gauges five; expected = verdicts (refuses 23 0 0) (refuses 23 0 0) }
    -- ends 7 and 6: activity 0 is in time, and activity 1 is the first that is late
    ∷ record {
      asked = report gauges (lasting 2 4) (lent 32);
      expected = reports (refuses 43 1 0) (pos 2 ∷ negsuc 0 ∷ kept 2 32);
    }
    ∷ record { asked = check gauges second_late; expected = verdicts (refuses 23 1 0) (refuses 23 1 0) }
    -- 5 + 65535: the sum is not cut to 16 bits
    ∷ record {
      asked = report gauges (period_in 255 255 (lasting 2 2)) (lent 32);
      expected = reports (answers 73 4 24 5) (pos 65533 ∷ pos 1 ∷ kept 2 32);
    }
    ∷ record { asked = check gauges (long_period two); expected = verdicts (accepts 4 24 5) (accepts 4 24 5) }
    -- 65535 + 1: 23 holds, and 27 is broken by a start before the release
    ∷ record { asked = check gauges (last_release two); expected = verdicts (refuses 27 1 0) (refuses 27 1 0) }
    -- no period is no deadline, whatever the release
    ∷ record {
      asked = report no_period (period_in 0 0 (lasting 5 2)) (lent 32);
      expected = reports (answers 73 7 24 8) (dash ∷ pos 1 ∷ kept 2 32);
    }
    ∷ []

pub deadline_cases : Right cases
unfolding every
deadline_cases = refl
