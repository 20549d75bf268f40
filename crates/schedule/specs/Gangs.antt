-- Activities that take several cores (U7 of 02), on literal bytes: the run's words and verdict on models of version 3, and both
-- verdicts on plans, where a nearly right walk, duration or usage would answer otherwise; and 57. Pages for rules 28 to 31 are
-- in crate counterexamples, GangRules. One table with one truth about it; every width of S is 1, so that its cases say nothing
-- of this. The expected values do not come from these definitions.
-- Assumes nothing.
use Rattle.std.specs.Prelude.{ℕ, ◌*◌, List, [], ◌∷◌, ◌++◌, refl, replicate}
use Rattle.schedule.specs.Answers.{Answer, Figures}
use Rattle.schedule.specs.Cases.{every, patch, accepts, refuses, Case, Right, unrolls, check, run, words}
use Rattle.schedule.specs.Cases.{verdicts, verdict, numbers}

-- ---- rows of the records

-- the head of a model of version 3: its length, c, n, m, H and i
abbrev pub head : ℕ → ℕ → ℕ → ℕ → ℕ → ℕ → List ℕ
head length c n m h i = 0 ∷ 0 ∷ 0 ∷ length ∷ 3 ∷ c ∷ n ∷ m ∷ 0 ∷ h ∷ i ∷ []

-- a thread without a period, released at 0, of a priority
abbrev pub thread : ℕ → List ℕ
thread priority = 0 ∷ 0 ∷ 0 ∷ 0 ∷ 0 ∷ 0 ∷ 0 ∷ 0 ∷ 0 ∷ priority ∷ []

-- an activity of a thread, of so many ticks and a width: no delay, no predecessors, no loop
abbrev pub gang : ℕ → ℕ → ℕ → List ℕ
gang j ticks width =
    j ∷ 0 ∷ ticks ∷ 0 ∷ ticks ∷ 0 ∷ 0 ∷ 0 ∷ 0 ∷ 0 ∷ 0 ∷ 0 ∷ 0 ∷ 0 ∷ 0 ∷ 255 ∷ width ∷ []

-- a choice up to its durations, and a plan up to its starts and ends: no periods, all releases 0
abbrev pub chosen : ℕ → ℕ → ℕ → List ℕ
chosen length n m = (0 ∷ 0 ∷ 0 ∷ length ∷ 1 ∷ n ∷ m ∷ []) ++ replicate (4 * n) 0

abbrev pub planned : ℕ → ℕ → ℕ → ℕ → List ℕ
planned length n m h = (0 ∷ 0 ∷ 0 ∷ length ∷ 1 ∷ n ∷ m ∷ 0 ∷ h ∷ []) ++ replicate (4 * n) 0

-- a page: the run's words and verdict, and both verdicts on a plan
abbrev pub paged : List ℕ → List ℕ → List ℕ → List ℕ → Answer Figures → Answer Figures → Answer Figures → List Case
paged model choice plan ticks ran plain strict =
    record { asked = words model choice; expected = numbers ticks }
    ∷ record { asked = run model choice; expected = verdict ran }
    ∷ record { asked = check model plan; expected = verdicts plain strict }
    ∷ []

-- ---- pages

-- Activity 0 takes a core, 1 needs both, and 2 takes the other: the walk goes on past 1. The words have five ones, and the
-- usage is 2 + 1 * 2 + 2.
abbrev misfit : List ℕ
misfit =
    head 92 2 3 3 4 1 ++ thread 3 ++ thread 2 ++ thread 1
    ++ gang 0 2 1
    ++ gang 1 1 2
    ++ gang 2 2 1

abbrev misfit_choice : List ℕ
misfit_choice = chosen 25 3 3 ++ (0 ∷ 2 ∷ 0 ∷ 1 ∷ 0 ∷ 2 ∷ [])

abbrev misfit_plan : List ℕ
misfit_plan =
    planned 49 3 3 4 ++ (0 ∷ 0 ∷ 0 ∷ 2 ∷ 0 ∷ 2 ∷ 0 ∷ 3 ∷ 0 ∷ 0 ∷ 0 ∷ 2 ∷ [])
    ++ (0 ∷ 0 ∷ 0 ∷ 5 ∷ 0 ∷ 0 ∷ 0 ∷ 5 ∷ 0 ∷ 0 ∷ 0 ∷ 2 ∷ 0 ∷ 0 ∷ 0 ∷ 0 ∷ [])

-- A plan whose walk stopped at the misfit, with a tick more. At tick 0 activity 1 waits and does not count, 2 > 2 - 1, and 2
-- counts, 1 ≤ 2 - 1.
abbrev stopped : List ℕ
stopped = patch 9 (5 ∷ []) misfit

abbrev stopped_plan : List ℕ
stopped_plan =
    planned 53 3 3 5 ++ (0 ∷ 0 ∷ 0 ∷ 2 ∷ 0 ∷ 2 ∷ 0 ∷ 3 ∷ 0 ∷ 3 ∷ 0 ∷ 5 ∷ [])
    ++ (0 ∷ 0 ∷ 0 ∷ 1 ∷ 0 ∷ 0 ∷ 0 ∷ 1 ∷ 0 ∷ 0 ∷ 0 ∷ 2 ∷ 0 ∷ 0 ∷ 0 ∷ 4 ∷ 0 ∷ 0 ∷ 0 ∷ 4 ∷ [])

-- The walk goes on past two that do not fit, 3 > 4 - 2 twice, and takes two behind them. In the plan, at tick 0, activities 3
-- and 4 wait and count, 1 ≤ 4 - 2, and 1 and 2 do not.
abbrev past : List ℕ
past =
    head 106 4 1 5 3 1 ++ thread 1
    ++ gang 0 1 2
    ++ gang 0 1 3
    ++ gang 0 1 3
    ++ gang 0 1 1
    ++ gang 0 1 1

abbrev past_choice : List ℕ
past_choice = chosen 21 1 5 ++ (0 ∷ 1 ∷ 0 ∷ 1 ∷ 0 ∷ 1 ∷ 0 ∷ 1 ∷ 0 ∷ 1 ∷ [])

abbrev past_plan : List ℕ
past_plan =
    planned 45 1 5 3 ++ (0 ∷ 0 ∷ 0 ∷ 1 ∷ 0 ∷ 1 ∷ 0 ∷ 2 ∷ 0 ∷ 2 ∷ 0 ∷ 3 ∷ 0 ∷ 1 ∷ 0 ∷ 2 ∷ 0 ∷ 2 ∷ 0 ∷ 3 ∷ [])
    ++ (0 ∷ 0 ∷ 0 ∷ 1 ∷ 0 ∷ 0 ∷ 0 ∷ 10 ∷ 0 ∷ 0 ∷ 0 ∷ 20 ∷ [])

-- A gang that runs is put off for a more urgent activity that becomes ready, and goes on after it. In the plan it is not: 29.
abbrev put_off : List ℕ
put_off =
    head 82 2 2 3 4 1 ++ thread 2 ++ thread 1
    ++ (0 ∷ 0 ∷ 1 ∷ 0 ∷ 1 ∷ 0 ∷ 1 ∷ 0 ∷ 0 ∷ 0 ∷ 0 ∷ 0 ∷ 0 ∷ 0 ∷ 0 ∷ 255 ∷ 1 ∷ [])
    ++ gang 1 2 2
    ++ (0 ∷ 0 ∷ 1 ∷ 0 ∷ 1 ∷ 0 ∷ 0 ∷ 0 ∷ 0 ∷ 0 ∷ 1 ∷ 0 ∷ 0 ∷ 0 ∷ 0 ∷ 255 ∷ 1 ∷ [])

abbrev put_off_choice : List ℕ
put_off_choice = chosen 21 2 3 ++ (0 ∷ 1 ∷ 0 ∷ 2 ∷ 0 ∷ 1 ∷ [])

abbrev put_off_plan : List ℕ
put_off_plan =
    planned 45 2 3 4 ++ (0 ∷ 0 ∷ 0 ∷ 1 ∷ 0 ∷ 1 ∷ 0 ∷ 3 ∷ 0 ∷ 3 ∷ 0 ∷ 4 ∷ [])
    ++ (0 ∷ 0 ∷ 0 ∷ 1 ∷ 0 ∷ 0 ∷ 0 ∷ 2 ∷ 0 ∷ 0 ∷ 0 ∷ 2 ∷ 0 ∷ 0 ∷ 0 ∷ 4 ∷ [])

-- Durations count ticks: two ticks of two cores.
abbrev ticks : List ℕ
ticks =
    head 38 2 1 1 3 1 ++ thread 1
    ++ gang 0 2 2

abbrev ticks_choice : List ℕ
ticks_choice = chosen 13 1 1 ++ (0 ∷ 2 ∷ [])

abbrev ticks_plan : List ℕ
ticks_plan =
    planned 29 1 1 3 ++ (0 ∷ 0 ∷ 0 ∷ 2 ∷ [])
    ++ (0 ∷ 0 ∷ 0 ∷ 1 ∷ 0 ∷ 0 ∷ 0 ∷ 1 ∷ 0 ∷ 0 ∷ 0 ∷ 0 ∷ [])

-- efe counts ticks: that of activity 1, after 0 by its data mask, is 0 + 1.
abbrev eligible : List ℕ
eligible =
    head 55 2 1 2 2 1 ++ thread 1
    ++ gang 0 1 2
    ++ (0 ∷ 0 ∷ 1 ∷ 0 ∷ 1 ∷ 0 ∷ 0 ∷ 0 ∷ 0 ∷ 0 ∷ 0 ∷ 0 ∷ 0 ∷ 0 ∷ 1 ∷ 255 ∷ 1 ∷ [])

abbrev eligible_choice : List ℕ
eligible_choice = chosen 15 1 2 ++ (0 ∷ 1 ∷ 0 ∷ 1 ∷ [])

abbrev eligible_plan : List ℕ
eligible_plan =
    planned 29 1 2 2 ++ (0 ∷ 0 ∷ 0 ∷ 1 ∷ 0 ∷ 1 ∷ 0 ∷ 2 ∷ [])
    ++ (0 ∷ 0 ∷ 0 ∷ 1 ∷ 0 ∷ 0 ∷ 0 ∷ 2 ∷ [])

-- efe counts ticks over a temporal mask too: that of activity 1, after 0, is 0 + 1 + 0.
abbrev eligible_after : List ℕ
eligible_after =
    head 55 2 1 2 2 1 ++ thread 1
    ++ gang 0 1 2
    ++ (0 ∷ 0 ∷ 1 ∷ 0 ∷ 1 ∷ 0 ∷ 0 ∷ 0 ∷ 0 ∷ 0 ∷ 1 ∷ 0 ∷ 0 ∷ 0 ∷ 0 ∷ 255 ∷ 1 ∷ [])

-- Width 8 of eight cores: nothing beside it.
abbrev every_core : List ℕ
every_core =
    head 72 8 1 3 3 1 ++ thread 1
    ++ gang 0 1 8
    ++ gang 0 1 1
    ++ gang 0 1 8

abbrev every_core_choice : List ℕ
every_core_choice = chosen 17 1 3 ++ (0 ∷ 1 ∷ 0 ∷ 1 ∷ 0 ∷ 1 ∷ [])

abbrev every_core_plan : List ℕ
every_core_plan =
    planned 37 1 3 3 ++ (0 ∷ 0 ∷ 0 ∷ 1 ∷ 0 ∷ 1 ∷ 0 ∷ 2 ∷ 0 ∷ 2 ∷ 0 ∷ 3 ∷ [])
    ++ (0 ∷ 0 ∷ 0 ∷ 1 ∷ 0 ∷ 0 ∷ 0 ∷ 2 ∷ 0 ∷ 0 ∷ 0 ∷ 4 ∷ [])

-- i 2. The gang loops to itself with delay 1: in round 1 it is ready at tick 2, passed over for activity 3, and taken at tick 3.
abbrev rounds : List ℕ
rounds =
    head 55 2 1 2 4 2 ++ thread 1
    ++ (0 ∷ 0 ∷ 1 ∷ 0 ∷ 1 ∷ 0 ∷ 1 ∷ 0 ∷ 0 ∷ 0 ∷ 0 ∷ 0 ∷ 0 ∷ 0 ∷ 0 ∷ 0 ∷ 2 ∷ [])
    ++ gang 0 2 1

abbrev rounds_choice : List ℕ
rounds_choice = chosen 23 2 4 ++ (0 ∷ 1 ∷ 0 ∷ 2 ∷ 0 ∷ 1 ∷ 0 ∷ 2 ∷ [])

abbrev rounds_plan : List ℕ
rounds_plan =
    planned 49 2 4 4 ++ (0 ∷ 0 ∷ 0 ∷ 1 ∷ 0 ∷ 1 ∷ 0 ∷ 3 ∷ 0 ∷ 3 ∷ 0 ∷ 4 ∷ 0 ∷ 1 ∷ 0 ∷ 3 ∷ [])
    ++ (0 ∷ 0 ∷ 0 ∷ 1 ∷ 0 ∷ 0 ∷ 0 ∷ 10 ∷ 0 ∷ 0 ∷ 0 ∷ 10 ∷ 0 ∷ 0 ∷ 0 ∷ 4 ∷ [])

-- the record of one round of its unrolled model
abbrev rounds_unrolled : List ℕ
rounds_unrolled =
    head 99 2 2 4 4 1 ++ thread 1 ++ thread 1
    ++ (0 ∷ 0 ∷ 1 ∷ 0 ∷ 1 ∷ 0 ∷ 1 ∷ 0 ∷ 0 ∷ 0 ∷ 0 ∷ 0 ∷ 0 ∷ 0 ∷ 0 ∷ 255 ∷ 2 ∷ [])
    ++ gang 0 2 1
    ++ (1 ∷ 0 ∷ 1 ∷ 0 ∷ 1 ∷ 0 ∷ 1 ∷ 0 ∷ 0 ∷ 0 ∷ 1 ∷ 0 ∷ 0 ∷ 0 ∷ 0 ∷ 255 ∷ 2 ∷ [])
    ++ gang 1 2 1

-- c 2, n 1, m 3, H 4: widths 1, 1 and 1 of version 3; and a record of version 2
abbrev three : List ℕ
three = head 72 2 1 3 4 1 ++ thread 1 ++ gang 0 1 1 ++ gang 0 1 1 ++ gang 0 1 1

-- the record of version 1 of `three`, whose widths are all 1
abbrev three_unrolled : List ℕ
three_unrolled =
    (0 ∷ 0 ∷ 0 ∷ 65 ∷ 1 ∷ 2 ∷ 1 ∷ 3 ∷ 0 ∷ 4 ∷ []) ++ thread 1
    ++ (0 ∷ 0 ∷ 1 ∷ 0 ∷ 1 ∷ 0 ∷ 0 ∷ 0 ∷ 0 ∷ 0 ∷ 0 ∷ 0 ∷ 0 ∷ 0 ∷ 0 ∷ [])
    ++ (0 ∷ 0 ∷ 1 ∷ 0 ∷ 1 ∷ 0 ∷ 0 ∷ 0 ∷ 0 ∷ 0 ∷ 0 ∷ 0 ∷ 0 ∷ 0 ∷ 0 ∷ [])
    ++ (0 ∷ 0 ∷ 1 ∷ 0 ∷ 1 ∷ 0 ∷ 0 ∷ 0 ∷ 0 ∷ 0 ∷ 0 ∷ 0 ∷ 0 ∷ 0 ∷ 0 ∷ [])

abbrev two : List ℕ
two =
    (0 ∷ 0 ∷ 0 ∷ 37 ∷ 2 ∷ 2 ∷ 1 ∷ 1 ∷ 0 ∷ 4 ∷ 1 ∷ []) ++ thread 1
    ++ (0 ∷ 0 ∷ 1 ∷ 0 ∷ 1 ∷ 0 ∷ 0 ∷ 0 ∷ 0 ∷ 0 ∷ 0 ∷ 0 ∷ 0 ∷ 0 ∷ 0 ∷ 255 ∷ [])

-- ---- the table

-- a model alone: no choice is looked at before it has passed
abbrev alone : List ℕ → Answer Figures → List Case
alone model ran = record { asked = run model []; expected = verdict ran } ∷ []

abbrev cases : List Case
cases =
    paged misfit misfit_choice misfit_plan (5 ∷ 5 ∷ 2 ∷ 0 ∷ []) (accepts 6 8 3) (accepts 6 8 3) (accepts 6 8 3)
    ++ paged stopped misfit_choice stopped_plan (5 ∷ 5 ∷ 2 ∷ 0 ∷ 0 ∷ []) (accepts 6 10 3) (accepts 6 10 5) (refuses 30 0 2)
    -- the gang of `misfit` is owed after two ticks, and late with period 2
    ++ (record { asked = run (patch 9 (2 ∷ []) misfit) misfit_choice; expected = verdict (refuses 42 1 0) } ∷ [])
    ++ (record {
      asked = run (patch 21 (0 ∷ 2 ∷ 0 ∷ 2 ∷ []) misfit) (patch 13 (0 ∷ 2 ∷ []) misfit_choice);
      expected = verdict (refuses 43 1 0);
    } ∷ [])
    ++ paged past past_choice past_plan (25 ∷ 2 ∷ 4 ∷ []) (accepts 10 12 3) (accepts 10 12 3) (refuses 30 0 3)
    ++ paged put_off put_off_choice put_off_plan (1 ∷ 2 ∷ 4 ∷ 2 ∷ []) (accepts 6 8 4) (refuses 29 2 2) (refuses 29 2 2)
    ++ paged ticks ticks_choice ticks_plan (1 ∷ 1 ∷ 0 ∷ []) (accepts 4 6 2) (accepts 4 6 2) (accepts 4 6 2)
    ++ paged eligible eligible_choice eligible_plan (1 ∷ 2 ∷ []) (accepts 3 4 2) (accepts 3 4 2) (accepts 3 4 2)
    ++ paged eligible_after eligible_choice eligible_plan (1 ∷ 2 ∷ []) (accepts 3 4 2) (accepts 3 4 2) (accepts 3 4 2)
    ++ paged every_core every_core_choice every_core_plan (1 ∷ 2 ∷ 4 ∷ []) (accepts 17 24 3) (accepts 17 24 3) (accepts 17 24 3)
    ++ paged rounds rounds_choice rounds_plan (1 ∷ 10 ∷ 10 ∷ 4 ∷ []) (accepts 8 8 4) (accepts 8 8 4) (accepts 8 8 4)
    ++ paged rounds_unrolled rounds_choice rounds_plan (1 ∷ 10 ∷ 10 ∷ 4 ∷ []) (accepts 8 8 4) (accepts 8 8 4) (accepts 8 8 4)
    ++ (record { asked = unrolls rounds; expected = numbers rounds_unrolled } ∷ [])
    ++ (record { asked = unrolls misfit; expected = numbers misfit } ∷ [])
    ++ (record { asked = unrolls three; expected = numbers three_unrolled } ∷ [])
    -- 57: width 0, and c + 1 of c; c itself passes
    ++ alone (patch 54 (0 ∷ []) three) (refuses 57 1 0)
    ++ alone (patch 54 (3 ∷ []) three) (refuses 57 1 0)
    ++ alone (patch 54 (2 ∷ []) three) (refuses 8 0 0)
    ++ alone (patch 54 (130 ∷ []) three) (refuses 57 1 0)
    -- its lowest A; after 53 over all rows, and before 7
    ++ alone (patch 54 (3 ∷ []) (patch 71 (0 ∷ []) three)) (refuses 57 1 0)
    ++ alone (patch 37 (0 ∷ []) (patch 70 (3 ∷ []) three)) (refuses 53 2 0)
    ++ alone (patch 31 (1 ∷ []) (patch 71 (3 ∷ []) three)) (refuses 57 2 0)
    -- of two rounds A is the page's row, and c the bound
    ++ alone (patch 10 (2 ∷ []) (patch 71 (3 ∷ []) three)) (refuses 57 2 0)
    -- the length of version 3, and no version 4
    ++ alone (patch 4 (4 ∷ []) three) (refuses 2 0 0)
    ++ alone (patch 4 (2 ∷ []) three) (refuses 4 0 0)
    ++ alone (patch 4 (3 ∷ []) two) (refuses 4 0 0)
    ++ alone two (refuses 8 0 0)

-- the rules say so
pub gang_cases : Right cases
unfolding every
gang_cases = refl
