-- The paper's "Mistakes seen": for each, cases in which that mistake would answer otherwise than the rules do; then
-- cases of efe that would come out otherwise with a half of it, or a term of a half, left out. One table with one truth
-- about it. The expected values are worked out by hand.
-- Assumes nothing.
use Rattle.std.specs.Prelude.{ℕ, ◌+◌, ◌*◌, List, [], ◌∷◌, ◌++◌, refl}
use Rattle.schedule.specs.Cases.{every, patch, accepts, refuses, Case, Right}
use Rattle.schedule.specs.Cases.{check, efes, run, words, verdicts, verdict, numbers}
use Rattle.schedule.specs.Starred.{model_s, plan_s}

-- c 1, n 2, m 2, H 4. Thread 0: no period, release 0..0, priority 1. Thread 1: no period, release 0..2, priority 9.
-- Activity 0: thread 0, duration 1..1, delay 2. Activity 1: thread 1, duration 1..1, delay 0. No predecessors.
abbrev pair : List ℕ
pair =
    (0 ∷ 0 ∷ 0 ∷ 60 ∷ 1 ∷ 1 ∷ 2 ∷ 2 ∷ 0 ∷ 4 ∷ [])
    ++ (0 ∷ 0 ∷ 0 ∷ 0 ∷ 0 ∷ 0 ∷ 0 ∷ 0 ∷ 0 ∷ 1 ∷ [])
    ++ (0 ∷ 0 ∷ 0 ∷ 0 ∷ 0 ∷ 0 ∷ 0 ∷ 2 ∷ 0 ∷ 9 ∷ [])
    ++ (0 ∷ 0 ∷ 1 ∷ 0 ∷ 1 ∷ 0 ∷ 2 ∷ 0 ∷ 0 ∷ 0 ∷ 0 ∷ 0 ∷ 0 ∷ 0 ∷ 0 ∷ [])
    ++ (1 ∷ 0 ∷ 1 ∷ 0 ∷ 1 ∷ 0 ∷ 0 ∷ 0 ∷ 0 ∷ 0 ∷ 0 ∷ 0 ∷ 0 ∷ 0 ∷ 0 ∷ [])

-- activity 0 on thread 1 and activity 1 on thread 0
abbrev crossed : List ℕ
crossed = patch 30 (1 ∷ []) (patch 45 (0 ∷ []) pair)

-- activity 0 is a data predecessor of activity 1
abbrev on_data : List ℕ → List ℕ
on_data s = patch 56 (0 ∷ 0 ∷ 0 ∷ 1 ∷ []) s

abbrev data_pair : List ℕ
data_pair = on_data pair

-- activity 0 is a temporal predecessor of activity 1
abbrev temporal : List ℕ → List ℕ
temporal s = patch 52 (0 ∷ 0 ∷ 0 ∷ 1 ∷ []) s

-- S with another delay of activity 1, which precedes activity 2 temporally, as activity 0 does by data
abbrev delayed : ℕ → List ℕ
delayed delay = patch 50 (0 ∷ delay ∷ []) model_s

-- two cores
abbrev two_cores : List ℕ
two_cores = patch 5 (2 ∷ []) pair

-- no periods, durations 1, thread 0 released at 0 and thread 1 at a tick
abbrev choose : ℕ → List ℕ
choose release =
    (0 ∷ 0 ∷ 0 ∷ 19 ∷ 1 ∷ 2 ∷ 2 ∷ [])
    ++ (0 ∷ 0 ∷ 0 ∷ 0 ∷ 0 ∷ release ∷ 0 ∷ 0 ∷ [])
    ++ (0 ∷ 1 ∷ 0 ∷ 1 ∷ [])

-- the plan with these choices in which activity 0 is active at one tick and activity 1 at another
abbrev planned : ℕ → ℕ → ℕ → List ℕ
planned release first second =
    patch (28 + 4 * first) (1 ∷ []) (patch (28 + 4 * second) (2 ∷ [])
    ((0 ∷ 0 ∷ 0 ∷ 41 ∷ 1 ∷ 2 ∷ 2 ∷ 0 ∷ 4 ∷ [])
    ++ (0 ∷ 0 ∷ 0 ∷ 0 ∷ 0 ∷ release ∷ 0 ∷ 0 ∷ [])
    ++ (0 ∷ first ∷ 0 ∷ (first + 1) ∷ 0 ∷ second ∷ 0 ∷ (second + 1) ∷ [])
    ++ (0 ∷ 0 ∷ 0 ∷ 0 ∷ 0 ∷ 0 ∷ 0 ∷ 0 ∷ 0 ∷ 0 ∷ 0 ∷ 0 ∷ 0 ∷ 0 ∷ 0 ∷ 0 ∷ [])))

abbrev pub cases : List Case
cases =
    -- Priority looked up by activity number: 1 and 9 for activities 0 and 1, where their threads give 9 and 1. It would
    -- run activity 1 first, and give 29 0 1 for the plan with activity 0 first.
    record { asked = words crossed (choose 0); expected = numbers (1 ∷ 2 ∷ 0 ∷ 0 ∷ []) }
    ∷ record { asked = check crossed (planned 0 0 1); expected = verdicts (accepts 2 4 2) (accepts 2 4 2) }
    ∷ record { asked = check crossed (planned 0 1 0); expected = verdicts (refuses 29 0 0) (refuses 29 0 0) }
    -- Data dependency given the delay: activity 0 ends at 1, and with its delay 2 activity 1 could start only at 3.
    -- It would run 1, 0, 0, 2, give efe 0, 3, and refuse the first plan by 26 or 27, or find nothing waiting in the second.
    ∷ record { asked = words data_pair (choose 0); expected = numbers (1 ∷ 2 ∷ 0 ∷ 0 ∷ []) }
    ∷ record { asked = run data_pair (choose 0); expected = verdict (accepts 2 4 2) }
    ∷ record { asked = efes data_pair (planned 0 0 1); expected = numbers (0 ∷ 1 ∷ []) }
    ∷ record { asked = check data_pair (planned 0 0 1); expected = verdicts (accepts 2 4 2) (accepts 2 4 2) }
    ∷ record { asked = check data_pair (planned 0 0 2); expected = verdicts (accepts 2 4 3) (refuses 30 1 1) }
    -- The release left out of efe because a predecessor exists: thread 1 is released at 2, and efe of activity 1 would
    -- be 1. It would accept a start at 1, and have activity 1 wait at tick 1 in the plan that starts it at 2.
    ∷ record { asked = efes data_pair (planned 2 0 2); expected = numbers (0 ∷ 2 ∷ []) }
    ∷ record { asked = check data_pair (planned 2 0 1); expected = verdicts (refuses 27 1 0) (refuses 27 1 0) }
    ∷ record { asked = check data_pair (planned 2 0 2); expected = verdicts (accepts 2 4 3) (accepts 2 4 3) }
    -- An idle tick counted as a preemption breach: activity 0 waits at tick 1, where nothing is active. It would give
    -- plain 29 1 0.
    ∷ record { asked = check pair (planned 0 2 0); expected = verdicts (accepts 2 4 3) (refuses 30 1 0) }
    -- Rule 29 tried when a core is free: at tick 0 activity 1, of priority 9, waits beside activity 0, of priority 1,
    -- with one core of two free. It would give plain 29 0 1.
    ∷ record { asked = check two_cores (planned 0 0 1); expected = verdicts (accepts 2 8 2) (refuses 30 0 1) }
    -- efe by the temporal half alone: 0 + 1 + 2 for activity 1. Without the delay it would be 1, without the count 2,
    -- without the temporal half 0. By the data half alone it is 0 + 1 (above), and without the count it would be 0.
    ∷ record { asked = efes (temporal pair) (planned 0 0 3); expected = numbers (0 ∷ 3 ∷ []) }
    -- The predecessor's efe: activity 0 is released at 2, activity 1 at 0. By the temporal half it is 2 + 1 + 2 and by
    -- the data half 2 + 1; without the predecessor's efe it would be 3 and 1.
    ∷ record { asked = efes (temporal crossed) (planned 2 2 3); expected = numbers (2 ∷ 5 ∷ []) }
    ∷ record { asked = efes (on_data crossed) (planned 2 2 3); expected = numbers (2 ∷ 3 ∷ []) }
    -- Both halves, of different predecessors: with delay 2 the temporal half of activity 2 is 0 + 2 + 2 and the data
    -- half 1 + 2; with delay 0 they are 0 + 2 and 1 + 2. The data half alone would give 3 for the first, the temporal
    -- half alone 2 for the second; without the count the larger half falls below the other, with the same answers.
    ∷ record { asked = efes (delayed 2) plan_s; expected = numbers (1 ∷ 0 ∷ 4 ∷ []) }
    ∷ record { asked = efes (delayed 0) plan_s; expected = numbers (1 ∷ 0 ∷ 3 ∷ []) }
    ∷ []

pub mistakes : Right cases
unfolding every
mistakes = refl
