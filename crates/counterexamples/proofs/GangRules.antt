-- Rules 28 to 31 with activities that take several cores (U7 of 02), on literal bytes: plans on which a nearly right rule would
-- answer otherwise, with the run's words and verdict. One table with one truth about it. The expected values do not come from
-- these definitions.
-- Assumes nothing.
use Prim.Native.Nat.{ℕ}
use mathlib.Core.List.{List, [], ◌∷◌, ◌++◌}
use mathlib.Core.Path.{refl}
use Rattle.schedule.specs.Cases.{every, accepts, refuses, Case, Right, check, verdicts}
use Rattle.schedule.specs.Gangs.{head, thread, gang, chosen, planned, paged}

-- ---- pages

-- 28: widths 2 and 1 on two cores, with two ones.
abbrev overfull : List ℕ
overfull =
    head 55 2 1 2 2 1 ++ thread 1
    ++ gang 0 1 2
    ++ gang 0 1 1

abbrev overfull_choice : List ℕ
overfull_choice = chosen 15 1 2 ++ (0 ∷ 1 ∷ 0 ∷ 1 ∷ [])

abbrev overfull_plan : List ℕ
overfull_plan =
    planned 29 1 2 2 ++ (0 ∷ 0 ∷ 0 ∷ 1 ∷ 0 ∷ 0 ∷ 0 ∷ 1 ∷ [])
    ++ (0 ∷ 0 ∷ 0 ∷ 3 ∷ 0 ∷ 0 ∷ 0 ∷ 0 ∷ [])

-- 28 over all ticks before 29: tick 0 breaks 29 by activity 2, and tick 1 takes three cores of two.
abbrev overfull_later : List ℕ
overfull_later =
    head 82 2 2 3 3 1 ++ thread 1 ++ thread 2
    ++ gang 0 1 2
    ++ gang 0 1 2
    ++ gang 1 1 1

abbrev overfull_later-choice : List ℕ
overfull_later-choice = chosen 21 2 3 ++ (0 ∷ 1 ∷ 0 ∷ 1 ∷ 0 ∷ 1 ∷ [])

abbrev overfull_later-plan : List ℕ
overfull_later-plan =
    planned 41 2 3 3 ++ (0 ∷ 1 ∷ 0 ∷ 2 ∷ 0 ∷ 0 ∷ 0 ∷ 1 ∷ 0 ∷ 1 ∷ 0 ∷ 2 ∷ [])
    ++ (0 ∷ 0 ∷ 0 ∷ 2 ∷ 0 ∷ 0 ∷ 0 ∷ 5 ∷ 0 ∷ 0 ∷ 0 ∷ 0 ∷ [])

-- 29: both cores are held by one less urgent gang, a single one in the word. 1 ≤ 2 - 0.
abbrev held : List ℕ
held =
    head 65 2 2 2 2 1 ++ thread 1 ++ thread 2
    ++ gang 0 1 2
    ++ gang 1 1 1

abbrev held_choice : List ℕ
held_choice = chosen 19 2 2 ++ (0 ∷ 1 ∷ 0 ∷ 1 ∷ [])

abbrev held_plan : List ℕ
held_plan =
    planned 33 2 2 2 ++ (0 ∷ 0 ∷ 0 ∷ 1 ∷ 0 ∷ 1 ∷ 0 ∷ 2 ∷ [])
    ++ (0 ∷ 0 ∷ 0 ∷ 1 ∷ 0 ∷ 0 ∷ 0 ∷ 2 ∷ [])

-- 29: a waiting gang that fits if two less urgent ones were away. 2 ≤ 2 - 0.
abbrev two_away : List ℕ
two_away =
    head 82 2 2 3 3 1 ++ thread 1 ++ thread 2
    ++ gang 0 2 1
    ++ gang 0 2 1
    ++ gang 1 1 2

abbrev two_away_choice : List ℕ
two_away_choice = chosen 21 2 3 ++ (0 ∷ 2 ∷ 0 ∷ 2 ∷ 0 ∷ 1 ∷ [])

abbrev two_away_plan : List ℕ
two_away_plan =
    planned 41 2 3 3 ++ (0 ∷ 0 ∷ 0 ∷ 2 ∷ 0 ∷ 0 ∷ 0 ∷ 2 ∷ 0 ∷ 2 ∷ 0 ∷ 3 ∷ [])
    ++ (0 ∷ 0 ∷ 0 ∷ 3 ∷ 0 ∷ 0 ∷ 0 ∷ 3 ∷ 0 ∷ 0 ∷ 0 ∷ 4 ∷ [])

-- 29: a waiting gang that just fits beside the one that ranks before it. 2 ≤ 4 - 2.
abbrev exact : List ℕ
exact =
    head 92 4 3 3 2 1 ++ thread 3 ++ thread 2 ++ thread 1
    ++ gang 0 1 2
    ++ gang 1 1 2
    ++ gang 2 1 2

abbrev exact_choice : List ℕ
exact_choice = chosen 25 3 3 ++ (0 ∷ 1 ∷ 0 ∷ 1 ∷ 0 ∷ 1 ∷ [])

abbrev exact_plan : List ℕ
exact_plan =
    planned 41 3 3 2 ++ (0 ∷ 0 ∷ 0 ∷ 1 ∷ 0 ∷ 1 ∷ 0 ∷ 2 ∷ 0 ∷ 0 ∷ 0 ∷ 1 ∷ [])
    ++ (0 ∷ 0 ∷ 0 ∷ 5 ∷ 0 ∷ 0 ∷ 0 ∷ 2 ∷ [])

-- 29, not broken: a waiting gang that does not fit beside the one that ranks before it. 3 > 4 - 2, though its priority is
-- above that of activity 2.
abbrev beside : List ℕ
beside =
    head 92 4 3 3 2 1 ++ thread 3 ++ thread 2 ++ thread 1
    ++ gang 0 1 2
    ++ gang 1 1 3
    ++ gang 2 1 2

abbrev beside_choice : List ℕ
beside_choice = chosen 25 3 3 ++ (0 ∷ 1 ∷ 0 ∷ 1 ∷ 0 ∷ 1 ∷ [])

abbrev beside_plan : List ℕ
beside_plan =
    planned 41 3 3 2 ++ (0 ∷ 0 ∷ 0 ∷ 1 ∷ 0 ∷ 1 ∷ 0 ∷ 2 ∷ 0 ∷ 0 ∷ 0 ∷ 1 ∷ [])
    ++ (0 ∷ 0 ∷ 0 ∷ 5 ∷ 0 ∷ 0 ∷ 0 ∷ 2 ∷ [])

-- 29, not broken: two rank before the waiting gang. 3 > 5 - (2 + 1), though 3 ≤ 5 - 2.
abbrev beside_two : List ℕ
beside_two =
    head 109 5 3 4 2 1 ++ thread 3 ++ thread 2 ++ thread 1
    ++ gang 0 1 2
    ++ gang 0 1 1
    ++ gang 1 1 3
    ++ gang 2 1 2

abbrev beside_two-choice : List ℕ
beside_two-choice = chosen 27 3 4 ++ (0 ∷ 1 ∷ 0 ∷ 1 ∷ 0 ∷ 1 ∷ 0 ∷ 1 ∷ [])

abbrev beside_two-plan : List ℕ
beside_two-plan =
    planned 45 3 4 2 ++ (0 ∷ 0 ∷ 0 ∷ 1 ∷ 0 ∷ 0 ∷ 0 ∷ 1 ∷ 0 ∷ 1 ∷ 0 ∷ 2 ∷ 0 ∷ 0 ∷ 0 ∷ 1 ∷ [])
    ++ (0 ∷ 0 ∷ 0 ∷ 11 ∷ 0 ∷ 0 ∷ 0 ∷ 4 ∷ [])

-- 29, not broken: one of its own priority ranks before the waiting gang by its number, 2 > 3 - 2. Where the gangs change places
-- the lower number waits, and counts, 2 ≤ 3 - 0.
abbrev level : List ℕ
level =
    head 82 3 2 3 2 1 ++ thread 2 ++ thread 1
    ++ gang 0 1 2
    ++ gang 0 1 2
    ++ gang 1 1 1

abbrev level-choice : List ℕ
level-choice = chosen 21 2 3 ++ (0 ∷ 1 ∷ 0 ∷ 1 ∷ 0 ∷ 1 ∷ [])

abbrev level-plan : List ℕ
level-plan =
    planned 37 2 3 2 ++ (0 ∷ 0 ∷ 0 ∷ 1 ∷ 0 ∷ 1 ∷ 0 ∷ 2 ∷ 0 ∷ 0 ∷ 0 ∷ 1 ∷ [])
    ++ (0 ∷ 0 ∷ 0 ∷ 5 ∷ 0 ∷ 0 ∷ 0 ∷ 2 ∷ [])

abbrev level-turned : List ℕ
level-turned =
    planned 37 2 3 2 ++ (0 ∷ 1 ∷ 0 ∷ 2 ∷ 0 ∷ 0 ∷ 0 ∷ 1 ∷ 0 ∷ 0 ∷ 0 ∷ 1 ∷ [])
    ++ (0 ∷ 0 ∷ 0 ∷ 6 ∷ 0 ∷ 0 ∷ 0 ∷ 1 ∷ [])

-- 29: activity 1 waits and does not count, 2 > 3 - 2, and 2 counts, 1 ≤ 3 - 2.
abbrev lowest : List ℕ
lowest =
    head 109 3 3 4 3 1 ++ thread 3 ++ thread 2 ++ thread 1
    ++ gang 0 1 2
    ++ gang 1 1 2
    ++ gang 1 1 1
    ++ gang 2 1 1

abbrev lowest-choice : List ℕ
lowest-choice = chosen 27 3 4 ++ (0 ∷ 1 ∷ 0 ∷ 1 ∷ 0 ∷ 1 ∷ 0 ∷ 1 ∷ [])

abbrev lowest-plan : List ℕ
lowest-plan =
    planned 49 3 4 3 ++ (0 ∷ 0 ∷ 0 ∷ 1 ∷ 0 ∷ 1 ∷ 0 ∷ 2 ∷ 0 ∷ 1 ∷ 0 ∷ 2 ∷ 0 ∷ 0 ∷ 0 ∷ 1 ∷ [])
    ++ (0 ∷ 0 ∷ 0 ∷ 9 ∷ 0 ∷ 0 ∷ 0 ∷ 6 ∷ 0 ∷ 0 ∷ 0 ∷ 0 ∷ [])

-- 30: a waiting gang that fits if the less urgent one were away, 2 ≤ 2 - 0. With a core free 29 is not tried.
abbrev idle : List ℕ
idle =
    head 65 2 2 2 2 1 ++ thread 2 ++ thread 1
    ++ gang 0 1 2
    ++ gang 1 1 1

abbrev idle-choice : List ℕ
idle-choice = chosen 19 2 2 ++ (0 ∷ 1 ∷ 0 ∷ 1 ∷ [])

abbrev idle-plan : List ℕ
idle-plan =
    planned 33 2 2 2 ++ (0 ∷ 1 ∷ 0 ∷ 2 ∷ 0 ∷ 0 ∷ 0 ∷ 1 ∷ [])
    ++ (0 ∷ 0 ∷ 0 ∷ 2 ∷ 0 ∷ 0 ∷ 0 ∷ 1 ∷ [])

-- 30: a waiting gang that fits if two less urgent ones were away, 4 ≤ 4 - 0, with two cores free.
abbrev idle_away : List ℕ
idle_away =
    head 82 4 2 3 2 1 ++ thread 1 ++ thread 2
    ++ gang 0 1 1
    ++ gang 0 1 1
    ++ gang 1 1 4

abbrev idle_away_choice : List ℕ
idle_away_choice = chosen 21 2 3 ++ (0 ∷ 1 ∷ 0 ∷ 1 ∷ 0 ∷ 1 ∷ [])

abbrev idle_away_plan : List ℕ
idle_away_plan =
    planned 37 2 3 2 ++ (0 ∷ 0 ∷ 0 ∷ 1 ∷ 0 ∷ 0 ∷ 0 ∷ 1 ∷ 0 ∷ 1 ∷ 0 ∷ 2 ∷ [])
    ++ (0 ∷ 0 ∷ 0 ∷ 3 ∷ 0 ∷ 0 ∷ 0 ∷ 4 ∷ [])

-- 30: two wait and count at a tick with nothing active, and B is the lower number, though the walk would take the other.
abbrev idle-number : List ℕ
idle-number =
    head 65 2 2 2 3 1 ++ thread 1 ++ thread 2
    ++ gang 0 1 1
    ++ gang 1 1 2

abbrev idle-number-choice : List ℕ
idle-number-choice = chosen 19 2 2 ++ (0 ∷ 1 ∷ 0 ∷ 1 ∷ [])

abbrev idle-number-plan : List ℕ
idle-number-plan =
    planned 37 2 2 3 ++ (0 ∷ 2 ∷ 0 ∷ 3 ∷ 0 ∷ 1 ∷ 0 ∷ 2 ∷ [])
    ++ (0 ∷ 0 ∷ 0 ∷ 0 ∷ 0 ∷ 0 ∷ 0 ∷ 2 ∷ 0 ∷ 0 ∷ 0 ∷ 1 ∷ [])

-- 30, not broken: a waiting gang that does not fit beside a more urgent one. 2 > 2 - 1.
abbrev idle_beside : List ℕ
idle_beside =
    head 65 2 2 2 3 1 ++ thread 2 ++ thread 1
    ++ gang 0 2 1
    ++ gang 1 1 2

abbrev idle_beside_choice : List ℕ
idle_beside_choice = chosen 19 2 2 ++ (0 ∷ 2 ∷ 0 ∷ 1 ∷ [])

abbrev idle_beside_plan : List ℕ
idle_beside_plan =
    planned 37 2 2 3 ++ (0 ∷ 0 ∷ 0 ∷ 2 ∷ 0 ∷ 2 ∷ 0 ∷ 3 ∷ [])
    ++ (0 ∷ 0 ∷ 0 ∷ 1 ∷ 0 ∷ 0 ∷ 0 ∷ 1 ∷ 0 ∷ 0 ∷ 0 ∷ 2 ∷ [])

-- 30, not broken: two rank before the waiting gang. 3 > 5 - (2 + 1), though 3 ≤ 5 - 2.
abbrev idle-two : List ℕ
idle-two =
    head 82 5 2 3 2 1 ++ thread 2 ++ thread 1
    ++ gang 0 1 2
    ++ gang 0 1 1
    ++ gang 1 1 3

abbrev idle-two-choice : List ℕ
idle-two-choice = chosen 21 2 3 ++ (0 ∷ 1 ∷ 0 ∷ 1 ∷ 0 ∷ 1 ∷ [])

abbrev idle-two-plan : List ℕ
idle-two-plan =
    planned 37 2 3 2 ++ (0 ∷ 0 ∷ 0 ∷ 1 ∷ 0 ∷ 0 ∷ 0 ∷ 1 ∷ 0 ∷ 1 ∷ 0 ∷ 2 ∷ [])
    ++ (0 ∷ 0 ∷ 0 ∷ 3 ∷ 0 ∷ 0 ∷ 0 ∷ 4 ∷ [])

-- The same where the more urgent one has the higher number.
abbrev idle_urgent : List ℕ
idle_urgent =
    head 65 2 2 2 3 1 ++ thread 1 ++ thread 2
    ++ gang 0 1 2
    ++ gang 1 2 1

abbrev idle_urgent_choice : List ℕ
idle_urgent_choice = chosen 19 2 2 ++ (0 ∷ 1 ∷ 0 ∷ 2 ∷ [])

abbrev idle_urgent_plan : List ℕ
idle_urgent_plan =
    planned 37 2 2 3 ++ (0 ∷ 2 ∷ 0 ∷ 3 ∷ 0 ∷ 0 ∷ 0 ∷ 2 ∷ [])
    ++ (0 ∷ 0 ∷ 0 ∷ 2 ∷ 0 ∷ 0 ∷ 0 ∷ 2 ∷ 0 ∷ 0 ∷ 0 ∷ 1 ∷ [])

-- The same at one priority, where the lower number ranks before.
abbrev idle-level : List ℕ
idle-level =
    head 55 2 1 2 3 1 ++ thread 1
    ++ gang 0 2 1
    ++ gang 0 1 2

abbrev idle-level-choice : List ℕ
idle-level-choice = chosen 15 1 2 ++ (0 ∷ 2 ∷ 0 ∷ 1 ∷ [])

abbrev idle-level-plan : List ℕ
idle-level-plan =
    planned 33 1 2 3 ++ (0 ∷ 0 ∷ 0 ∷ 2 ∷ 0 ∷ 2 ∷ 0 ∷ 3 ∷ [])
    ++ (0 ∷ 0 ∷ 0 ∷ 1 ∷ 0 ∷ 0 ∷ 0 ∷ 1 ∷ 0 ∷ 0 ∷ 0 ∷ 2 ∷ [])

-- 30: at one priority the higher number does not rank before. 2 ≤ 2 - 0.
abbrev idle_behind : List ℕ
idle_behind =
    head 55 2 1 2 3 1 ++ thread 1
    ++ gang 0 1 2
    ++ gang 0 2 1

abbrev idle_behind_choice : List ℕ
idle_behind_choice = chosen 15 1 2 ++ (0 ∷ 1 ∷ 0 ∷ 2 ∷ [])

abbrev idle_behind_plan : List ℕ
idle_behind_plan =
    planned 33 1 2 3 ++ (0 ∷ 1 ∷ 0 ∷ 2 ∷ 0 ∷ 0 ∷ 0 ∷ 3 ∷ [])
    ++ (0 ∷ 0 ∷ 0 ∷ 2 ∷ 0 ∷ 0 ∷ 0 ∷ 1 ∷ 0 ∷ 0 ∷ 0 ∷ 2 ∷ [])

-- 31: both cores are held by one gang of the same priority with a larger number. 1 ≤ 2 - 0.
abbrev tie : List ℕ
tie =
    head 55 2 1 2 2 1 ++ thread 1
    ++ gang 0 1 1
    ++ gang 0 1 2

abbrev tie-choice : List ℕ
tie-choice = chosen 15 1 2 ++ (0 ∷ 1 ∷ 0 ∷ 1 ∷ [])

abbrev tie-plan : List ℕ
tie-plan =
    planned 29 1 2 2 ++ (0 ∷ 1 ∷ 0 ∷ 2 ∷ 0 ∷ 0 ∷ 0 ∷ 1 ∷ [])
    ++ (0 ∷ 0 ∷ 0 ∷ 2 ∷ 0 ∷ 0 ∷ 0 ∷ 1 ∷ [])

-- 31: a waiting gang that fits if two of its priority with larger numbers were away. 2 ≤ 2 - 0.
abbrev tie_away : List ℕ
tie_away =
    head 72 2 1 3 2 1 ++ thread 1
    ++ gang 0 1 2
    ++ gang 0 1 1
    ++ gang 0 1 1

abbrev tie_away_choice : List ℕ
tie_away_choice = chosen 17 1 3 ++ (0 ∷ 1 ∷ 0 ∷ 1 ∷ 0 ∷ 1 ∷ [])

abbrev tie_away_plan : List ℕ
tie_away_plan =
    planned 33 1 3 2 ++ (0 ∷ 1 ∷ 0 ∷ 2 ∷ 0 ∷ 0 ∷ 0 ∷ 1 ∷ 0 ∷ 0 ∷ 0 ∷ 1 ∷ [])
    ++ (0 ∷ 0 ∷ 0 ∷ 6 ∷ 0 ∷ 0 ∷ 0 ∷ 1 ∷ [])

-- 31, not broken: a waiting gang that does not fit beside the lower number. 2 > 3 - 2, though activity 2 is active.
abbrev tie_beside : List ℕ
tie_beside =
    head 72 3 1 3 2 1 ++ thread 1
    ++ gang 0 1 2
    ++ gang 0 1 2
    ++ gang 0 1 1

abbrev tie_beside_choice : List ℕ
tie_beside_choice = chosen 17 1 3 ++ (0 ∷ 1 ∷ 0 ∷ 1 ∷ 0 ∷ 1 ∷ [])

abbrev tie_beside_plan : List ℕ
tie_beside_plan =
    planned 33 1 3 2 ++ (0 ∷ 0 ∷ 0 ∷ 1 ∷ 0 ∷ 1 ∷ 0 ∷ 2 ∷ 0 ∷ 0 ∷ 0 ∷ 1 ∷ [])
    ++ (0 ∷ 0 ∷ 0 ∷ 5 ∷ 0 ∷ 0 ∷ 0 ∷ 2 ∷ [])

-- 31, not broken: two rank before the waiting gang. 3 > 5 - (2 + 1), though 3 ≤ 5 - 2.
abbrev tie-two : List ℕ
tie-two =
    head 89 5 1 4 2 1 ++ thread 1
    ++ gang 0 1 2
    ++ gang 0 1 1
    ++ gang 0 1 3
    ++ gang 0 1 2

abbrev tie-two-choice : List ℕ
tie-two-choice = chosen 19 1 4 ++ (0 ∷ 1 ∷ 0 ∷ 1 ∷ 0 ∷ 1 ∷ 0 ∷ 1 ∷ [])

abbrev tie-two-plan : List ℕ
tie-two-plan =
    planned 37 1 4 2 ++ (0 ∷ 0 ∷ 0 ∷ 1 ∷ 0 ∷ 0 ∷ 0 ∷ 1 ∷ 0 ∷ 1 ∷ 0 ∷ 2 ∷ 0 ∷ 0 ∷ 0 ∷ 1 ∷ [])
    ++ (0 ∷ 0 ∷ 0 ∷ 11 ∷ 0 ∷ 0 ∷ 0 ∷ 4 ∷ [])

-- 31, not broken: a more urgent one with a larger number ranks before the waiting gang. 2 > 3 - 2.
abbrev tie_urgent : List ℕ
tie_urgent =
    head 82 3 2 3 2 1 ++ thread 1 ++ thread 2
    ++ gang 0 1 2
    ++ gang 0 1 1
    ++ gang 1 1 2

abbrev tie_urgent_choice : List ℕ
tie_urgent_choice = chosen 21 2 3 ++ (0 ∷ 1 ∷ 0 ∷ 1 ∷ 0 ∷ 1 ∷ [])

abbrev tie_urgent_plan : List ℕ
tie_urgent_plan =
    planned 37 2 3 2 ++ (0 ∷ 1 ∷ 0 ∷ 2 ∷ 0 ∷ 0 ∷ 0 ∷ 1 ∷ 0 ∷ 0 ∷ 0 ∷ 1 ∷ [])
    ++ (0 ∷ 0 ∷ 0 ∷ 6 ∷ 0 ∷ 0 ∷ 0 ∷ 1 ∷ [])

-- 31: activity 1 waits and does not count, 2 > 3 - 2, and 2 counts, 1 ≤ 3 - 2.
abbrev tie-lowest : List ℕ
tie-lowest =
    head 89 3 1 4 3 1 ++ thread 1
    ++ gang 0 1 2
    ++ gang 0 1 2
    ++ gang 0 1 1
    ++ gang 0 1 1

abbrev tie-lowest-choice : List ℕ
tie-lowest-choice = chosen 19 1 4 ++ (0 ∷ 1 ∷ 0 ∷ 1 ∷ 0 ∷ 1 ∷ 0 ∷ 1 ∷ [])

abbrev tie-lowest-plan : List ℕ
tie-lowest-plan =
    planned 41 1 4 3 ++ (0 ∷ 0 ∷ 0 ∷ 1 ∷ 0 ∷ 1 ∷ 0 ∷ 2 ∷ 0 ∷ 1 ∷ 0 ∷ 2 ∷ 0 ∷ 0 ∷ 0 ∷ 1 ∷ [])
    ++ (0 ∷ 0 ∷ 0 ∷ 9 ∷ 0 ∷ 0 ∷ 0 ∷ 6 ∷ 0 ∷ 0 ∷ 0 ∷ 0 ∷ [])

-- ---- the table

abbrev cases : List Case
cases =
    paged overfull overfull_choice overfull_plan (1 ∷ 2 ∷ []) (accepts 3 4 2) (refuses 28 0 0) (refuses 28 0 0)
    ++ paged overfull_later overfull_later-choice overfull_later-plan (4 ∷ 1 ∷ 2 ∷ []) (accepts 5 6 3) (refuses 28 1 0) (refuses 28 1 0)
    ++ paged held held_choice held_plan (2 ∷ 1 ∷ []) (accepts 3 4 2) (refuses 29 0 1) (refuses 29 0 1)
    ++ paged two_away two_away_choice two_away_plan (4 ∷ 3 ∷ 3 ∷ []) (accepts 6 6 3) (refuses 29 0 2) (refuses 29 0 2)
    ++ paged exact exact_choice exact_plan (3 ∷ 4 ∷ []) (accepts 6 8 2) (refuses 29 0 1) (refuses 29 0 1)
    ++ paged beside beside_choice beside_plan (5 ∷ 2 ∷ []) (accepts 7 8 2) (accepts 7 8 2) (accepts 7 8 2)
    ++ paged beside_two beside_two-choice beside_two-plan (11 ∷ 4 ∷ []) (accepts 8 10 2) (accepts 8 10 2) (accepts 8 10 2)
    ++ paged level level-choice level-plan (5 ∷ 2 ∷ []) (accepts 5 6 2) (accepts 5 6 2) (accepts 5 6 2)
    ++ (record { asked = check level level-turned; expected = verdicts (refuses 29 0 0) (refuses 29 0 0) } ∷ [])
    ++ paged lowest lowest-choice lowest-plan (5 ∷ 10 ∷ 0 ∷ []) (accepts 6 9 2) (refuses 29 0 2) (refuses 29 0 2)
    ++ paged idle idle-choice idle-plan (1 ∷ 2 ∷ []) (accepts 3 4 2) (accepts 3 4 2) (refuses 30 0 0)
    ++ paged idle_away idle_away_choice idle_away_plan (4 ∷ 3 ∷ []) (accepts 6 8 2) (accepts 6 8 2) (refuses 30 0 2)
    ++ paged idle-number idle-number-choice idle-number-plan (2 ∷ 1 ∷ 0 ∷ []) (accepts 3 6 2) (accepts 3 6 3) (refuses 30 0 0)
    ++ paged idle_beside idle_beside_choice idle_beside_plan (1 ∷ 1 ∷ 2 ∷ []) (accepts 4 6 3) (accepts 4 6 3) (accepts 4 6 3)
    ++ paged idle-two idle-two-choice idle-two-plan (3 ∷ 4 ∷ []) (accepts 6 10 2) (accepts 6 10 2) (accepts 6 10 2)
    ++ paged idle_urgent idle_urgent_choice idle_urgent_plan (2 ∷ 2 ∷ 1 ∷ []) (accepts 4 6 3) (accepts 4 6 3) (accepts 4 6 3)
    ++ paged idle-level idle-level-choice idle-level-plan (1 ∷ 1 ∷ 2 ∷ []) (accepts 4 6 3) (accepts 4 6 3) (accepts 4 6 3)
    ++ paged idle_behind idle_behind_choice idle_behind_plan (1 ∷ 2 ∷ 2 ∷ []) (accepts 4 6 3) (accepts 4 6 3) (refuses 30 0 0)
    ++ paged tie tie-choice tie-plan (1 ∷ 2 ∷ []) (accepts 3 4 2) (accepts 3 4 2) (refuses 31 0 0)
    ++ paged tie_away tie_away_choice tie_away_plan (1 ∷ 6 ∷ []) (accepts 4 4 2) (accepts 4 4 2) (refuses 31 0 0)
    ++ paged tie_beside tie_beside_choice tie_beside_plan (5 ∷ 2 ∷ []) (accepts 5 6 2) (accepts 5 6 2) (accepts 5 6 2)
    ++ paged tie-two tie-two-choice tie-two-plan (11 ∷ 4 ∷ []) (accepts 8 10 2) (accepts 8 10 2) (accepts 8 10 2)
    ++ paged tie_urgent tie_urgent_choice tie_urgent_plan (6 ∷ 1 ∷ []) (accepts 5 6 2) (accepts 5 6 2) (accepts 5 6 2)
    ++ paged tie-lowest tie-lowest-choice tie-lowest-plan (5 ∷ 10 ∷ 0 ∷ []) (accepts 6 9 2) (accepts 6 9 2) (refuses 31 0 2)

-- the rules say so
pub gang-rules : Right cases
unfolding every
gang-rules = refl
