-- The paper's starred cases: model S and its neighbours, as one table with one truth about it.
-- The records of S stand as literal bytes; every expected value is copied from the paper.
-- Assumes nothing.
use Rattle.std.specs.Prelude.{ℕ, ◌+◌, ◌*◌, List, [], ◌∷◌, ◌++◌, refl}
use Rattle.schedule.specs.Cases.{every, patch, accepts, refuses, Case, Right}
use Rattle.schedule.specs.Cases.{check, efes, run, words, starts, ends, writes, verdicts, verdict, numbers}

-- "S: c 1, n 2, m 3, H 8"; thread rows: least and most period, least and most release, priority; activity rows:
-- thread, least and most duration, delay, temporal mask, data mask
abbrev pub model_s : List ℕ
model_s =
    (0 ∷ 0 ∷ 0 ∷ 75 ∷ 1 ∷ 1 ∷ 2 ∷ 3 ∷ 0 ∷ 8 ∷ [])
    ++ (0 ∷ 0 ∷ 0 ∷ 0 ∷ 0 ∷ 0 ∷ 0 ∷ 2 ∷ 0 ∷ 5 ∷ [])
    ++ (0 ∷ 8 ∷ 0 ∷ 8 ∷ 0 ∷ 0 ∷ 0 ∷ 0 ∷ 0 ∷ 3 ∷ [])
    ++ (0 ∷ 0 ∷ 1 ∷ 0 ∷ 2 ∷ 0 ∷ 0 ∷ 0 ∷ 0 ∷ 0 ∷ 0 ∷ 0 ∷ 0 ∷ 0 ∷ 0 ∷ [])
    ++ (1 ∷ 0 ∷ 2 ∷ 0 ∷ 3 ∷ 0 ∷ 1 ∷ 0 ∷ 0 ∷ 0 ∷ 0 ∷ 0 ∷ 0 ∷ 0 ∷ 0 ∷ [])
    ++ (1 ∷ 0 ∷ 1 ∷ 0 ∷ 1 ∷ 0 ∷ 0 ∷ 0 ∷ 0 ∷ 0 ∷ 2 ∷ 0 ∷ 0 ∷ 0 ∷ 1 ∷ [])

-- "Choice: releases 1, 0; periods 0, 8; durations 2, 2, 1"
abbrev pub choice_s : List ℕ
choice_s =
    (0 ∷ 0 ∷ 0 ∷ 21 ∷ 1 ∷ 2 ∷ 3 ∷ [])
    ++ (0 ∷ 1 ∷ 0 ∷ 0 ∷ [])
    ++ (0 ∷ 0 ∷ 0 ∷ 8 ∷ [])
    ++ (0 ∷ 2 ∷ 0 ∷ 2 ∷ 0 ∷ 1 ∷ [])

-- the plan that gridrun prints for S: starts 1, 0, 5, ends 3, 4, 6, and a word for each of the 8 ticks
abbrev pub plan_s : List ℕ
plan_s =
    (0 ∷ 0 ∷ 0 ∷ 61 ∷ 1 ∷ 2 ∷ 3 ∷ 0 ∷ 8 ∷ [])
    ++ (0 ∷ 1 ∷ 0 ∷ 0 ∷ [])
    ++ (0 ∷ 0 ∷ 0 ∷ 8 ∷ [])
    ++ (0 ∷ 1 ∷ 0 ∷ 3 ∷ [])
    ++ (0 ∷ 0 ∷ 0 ∷ 4 ∷ [])
    ++ (0 ∷ 5 ∷ 0 ∷ 6 ∷ [])
    ++ (0 ∷ 0 ∷ 0 ∷ 2 ∷ 0 ∷ 0 ∷ 0 ∷ 1 ∷ 0 ∷ 0 ∷ 0 ∷ 1 ∷ 0 ∷ 0 ∷ 0 ∷ 2 ∷ [])
    ++ (0 ∷ 0 ∷ 0 ∷ 0 ∷ 0 ∷ 0 ∷ 0 ∷ 4 ∷ 0 ∷ 0 ∷ 0 ∷ 0 ∷ 0 ∷ 0 ∷ 0 ∷ 0 ∷ [])

-- S's plan with another word at a tick, and with another start and end of an activity
abbrev tick : ℕ → ℕ → List ℕ → List ℕ
tick t w r = patch (29 + 4 * t) (0 ∷ 0 ∷ 0 ∷ w ∷ []) r

abbrev pub times : ℕ → ℕ → ℕ → List ℕ → List ℕ
times a start end r = patch (17 + 4 * a) (0 ∷ start ∷ 0 ∷ end ∷ []) r

-- "Activity 2 at tick 4 instead", "At tick 6"
abbrev pub activity2_at_4 : List ℕ → List ℕ
activity2_at_4 r = times 2 4 5 (tick 4 4 (tick 5 0 r))

abbrev pub activity2_at_6 : List ℕ → List ℕ
activity2_at_6 r = times 2 6 7 (tick 6 4 (tick 5 0 r))

-- "Activity 1 at 0, 1, activity 0 at 2, 3"
abbrev exchanged : List ℕ
exchanged = times 0 2 4 (times 1 0 2 (tick 1 2 (tick 3 1 plan_s)))

-- "Activity 1 at 0, 2"
abbrev crowded : List ℕ
crowded = times 1 0 3 (tick 2 3 (tick 3 0 plan_s))

-- "both priorities 4"
abbrev equal_priorities : List ℕ
equal_priorities = patch 18 (0 ∷ 4 ∷ []) (patch 28 (0 ∷ 4 ∷ []) model_s)

-- "c 2", "H 6", "H 5", "Thread 1's period range 5..8"
abbrev cores : ℕ → List ℕ
cores c = patch 5 (c ∷ []) model_s

abbrev pub horizon : ℕ → List ℕ
horizon H = patch 8 (0 ∷ H ∷ []) model_s

abbrev pub wider_period : List ℕ
wider_period = patch 20 (0 ∷ 5 ∷ 0 ∷ 8 ∷ []) model_s

-- the chosen period of thread 1
abbrev pub chosen_period : ℕ → List ℕ
chosen_period p = patch 13 (0 ∷ p ∷ []) choice_s

abbrev pub cases : List Case
cases =
    -- the listing, and "That plan has starts 1, 0, 5, ends 3, 4, 6, efe 1, 0, 3; both checks: accepted 5 8 6"
    record { asked = run model_s choice_s; expected = verdict (accepts 5 8 6) }
    ∷ record { asked = words model_s choice_s; expected = numbers (2 ∷ 1 ∷ 1 ∷ 2 ∷ 0 ∷ 4 ∷ 0 ∷ 0 ∷ []) }
    ∷ record { asked = starts model_s choice_s; expected = numbers (1 ∷ 0 ∷ 5 ∷ []) }
    ∷ record { asked = ends model_s choice_s; expected = numbers (3 ∷ 4 ∷ 6 ∷ []) }
    ∷ record { asked = writes model_s choice_s; expected = numbers plan_s }
    ∷ record { asked = efes model_s plan_s; expected = numbers (1 ∷ 0 ∷ 3 ∷ []) }
    ∷ record { asked = check model_s plan_s; expected = verdicts (accepts 5 8 6) (accepts 5 8 6) }
    -- "Activity 2 at tick 4 instead: 25 2 1"
    ∷ record { asked = check model_s (activity2_at_4 plan_s); expected = verdicts (refuses 25 2 1) (refuses 25 2 1) }
    -- "At tick 6: plain accepted 5 8 7, strict 30 5 2"
    ∷ record { asked = check model_s (activity2_at_6 plan_s); expected = verdicts (accepts 5 8 7) (refuses 30 5 2) }
    -- "Activity 1 at 0, 1, activity 0 at 2, 3: 29 1 0"
    ∷ record { asked = check model_s exchanged; expected = verdicts (refuses 29 1 0) (refuses 29 1 0) }
    -- "The same with both priorities 4: plain accepted 5 8 6, strict 30 4 2"
    ∷ record { asked = check equal_priorities exchanged; expected = verdicts (accepts 5 8 6) (refuses 30 4 2) }
    -- "With activity 2 moved to tick 4 as well: plain accepted 5 8 5, strict 31 1 0"
    ∷ record {
      asked = check equal_priorities (activity2_at_4 exchanged);
      expected = verdicts (accepts 5 8 5) (refuses 31 1 0);
    }
    -- "Choice run with c 2: words 2, 3, 1, 4, then zeros; run accepted 5 16 4"
    ∷ record { asked = words (cores 2) choice_s; expected = numbers (2 ∷ 3 ∷ 1 ∷ 4 ∷ 0 ∷ 0 ∷ 0 ∷ 0 ∷ []) }
    ∷ record { asked = run (cores 2) choice_s; expected = verdict (accepts 5 16 4) }
    -- "Activity 1 at 0, 2: 28 2 0"
    ∷ record { asked = check model_s crowded; expected = verdicts (refuses 28 2 0) (refuses 28 2 0) }
    -- "Release 3 for thread 0: 12 0 0", of a choice and of a plan
    ∷ record { asked = run model_s (patch 7 (0 ∷ 3 ∷ []) choice_s); expected = verdict (refuses 12 0 0) }
    ∷ record {
      asked = check model_s (patch 9 (0 ∷ 3 ∷ []) plan_s);
      expected = verdicts (refuses 12 0 0) (refuses 12 0 0);
    }
    -- "Duration 3 for activity 0: 13 0 0"
    ∷ record { asked = run model_s (patch 15 (0 ∷ 3 ∷ []) choice_s); expected = verdict (refuses 13 0 0) }
    -- "H 6: run accepted 5 6 6. H 5: 42 2 0"
    ∷ record { asked = run (horizon 6) choice_s; expected = verdict (accepts 5 6 6) }
    ∷ record { asked = run (horizon 5) choice_s; expected = verdict (refuses 42 2 0) }
    -- "Thread 1's period range 5..8, chosen 6: accepted. Chosen 5: 43 2 0"
    ∷ record { asked = run wider_period (chosen_period 6); expected = verdict (accepts 5 8 6) }
    ∷ record { asked = run wider_period (chosen_period 5); expected = verdict (refuses 43 2 0) }
    ∷ []

pub starred : Right cases
unfolding every
starred = refl
