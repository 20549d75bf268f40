-- Pages of several rounds (U4 of 02), on literal bytes: the run's words and verdict on each page and on the version 1 record of
-- its unrolled model. The pages of two rounds and their records are crate schedule's Pages; those of three and four are here, with
-- the record that each unrolls to. The expected values are worked out by hand. They stand here because every edit of a
-- definition would compute them again.
-- Assumes nothing.
use Prim.Native.Nat.{ℕ}
use mathlib.Core.List.{List, [], ◌∷◌, ◌++◌}
use mathlib.Core.Path.{refl}
use Rattle.schedule.specs.Answers.{Answer, Figures}
use Rattle.schedule.specs.Cases.{every, patch, accepts, refuses, Case, Right, unrolls, run, words, verdict, numbers}
use Rattle.schedule.specs.Pages.{itself, itself_unrolled, itself_choice, earlier, earlier_unrolled, earlier_choice}
use Rattle.schedule.specs.Pages.{later, later_unrolled, later_choice, moved_masks, moved_masks_unrolled, moved_masks_choice}

-- i 3. Activity 0 loops to itself, with delay 1: round 2 waits for round 1 and not for round 0.
abbrev thrice : List ℕ
thrice =
    (0 ∷ 0 ∷ 0 ∷ 37 ∷ 2 ∷ 1 ∷ 1 ∷ 1 ∷ 0 ∷ 12 ∷ 3 ∷ [])
    ++ (0 ∷ 4 ∷ 0 ∷ 4 ∷ 0 ∷ 0 ∷ 0 ∷ 1 ∷ 0 ∷ 1 ∷ [])
    ++ (0 ∷ 0 ∷ 1 ∷ 0 ∷ 3 ∷ 0 ∷ 1 ∷ 0 ∷ 0 ∷ 0 ∷ 0 ∷ 0 ∷ 0 ∷ 0 ∷ 0 ∷ 0 ∷ [])

abbrev thrice_unrolled : List ℕ
thrice_unrolled =
    (0 ∷ 0 ∷ 0 ∷ 85 ∷ 1 ∷ 1 ∷ 3 ∷ 3 ∷ 0 ∷ 12 ∷ [])
    ++ (0 ∷ 4 ∷ 0 ∷ 4 ∷ 0 ∷ 0 ∷ 0 ∷ 1 ∷ 0 ∷ 1 ∷ [])
    ++ (0 ∷ 4 ∷ 0 ∷ 4 ∷ 0 ∷ 4 ∷ 0 ∷ 5 ∷ 0 ∷ 1 ∷ [])
    ++ (0 ∷ 4 ∷ 0 ∷ 4 ∷ 0 ∷ 8 ∷ 0 ∷ 9 ∷ 0 ∷ 1 ∷ [])
    ++ (0 ∷ 0 ∷ 1 ∷ 0 ∷ 3 ∷ 0 ∷ 1 ∷ 0 ∷ 0 ∷ 0 ∷ 0 ∷ 0 ∷ 0 ∷ 0 ∷ 0 ∷ [])
    ++ (1 ∷ 0 ∷ 1 ∷ 0 ∷ 3 ∷ 0 ∷ 1 ∷ 0 ∷ 0 ∷ 0 ∷ 1 ∷ 0 ∷ 0 ∷ 0 ∷ 0 ∷ [])
    ++ (2 ∷ 0 ∷ 1 ∷ 0 ∷ 3 ∷ 0 ∷ 1 ∷ 0 ∷ 0 ∷ 0 ∷ 2 ∷ 0 ∷ 0 ∷ 0 ∷ 0 ∷ [])

abbrev thrice_choice : List ℕ
thrice_choice =
    (0 ∷ 0 ∷ 0 ∷ 25 ∷ 1 ∷ 3 ∷ 3 ∷ [])
    ++ (0 ∷ 0 ∷ 0 ∷ 4 ∷ 0 ∷ 5 ∷ 0 ∷ 4 ∷ 0 ∷ 8 ∷ 0 ∷ 4 ∷ [])
    ++ (0 ∷ 3 ∷ 0 ∷ 3 ∷ 0 ∷ 2 ∷ [])

-- i 3, c 2. Threads have periods 3 and 4. Activity 0 loops to the later 1, with delay 2, and 1 to the earlier 0, with delay 3.
abbrev crossed : List ℕ
crossed =
    (0 ∷ 0 ∷ 0 ∷ 63 ∷ 2 ∷ 2 ∷ 2 ∷ 2 ∷ 0 ∷ 12 ∷ 3 ∷ [])
    ++ (0 ∷ 3 ∷ 0 ∷ 3 ∷ 0 ∷ 0 ∷ 0 ∷ 1 ∷ 0 ∷ 1 ∷ [])
    ++ (0 ∷ 4 ∷ 0 ∷ 4 ∷ 0 ∷ 0 ∷ 0 ∷ 2 ∷ 0 ∷ 2 ∷ [])
    ++ (0 ∷ 0 ∷ 1 ∷ 0 ∷ 2 ∷ 0 ∷ 3 ∷ 0 ∷ 0 ∷ 0 ∷ 0 ∷ 0 ∷ 0 ∷ 0 ∷ 0 ∷ 1 ∷ [])
    ++ (1 ∷ 0 ∷ 1 ∷ 0 ∷ 1 ∷ 0 ∷ 2 ∷ 0 ∷ 0 ∷ 0 ∷ 0 ∷ 0 ∷ 0 ∷ 0 ∷ 0 ∷ 0 ∷ [])

abbrev crossed-unrolled : List ℕ
crossed-unrolled =
    (0 ∷ 0 ∷ 0 ∷ 160 ∷ 1 ∷ 2 ∷ 6 ∷ 6 ∷ 0 ∷ 12 ∷ [])
    ++ (0 ∷ 3 ∷ 0 ∷ 3 ∷ 0 ∷ 0 ∷ 0 ∷ 1 ∷ 0 ∷ 1 ∷ [])
    ++ (0 ∷ 4 ∷ 0 ∷ 4 ∷ 0 ∷ 0 ∷ 0 ∷ 2 ∷ 0 ∷ 2 ∷ [])
    ++ (0 ∷ 3 ∷ 0 ∷ 3 ∷ 0 ∷ 3 ∷ 0 ∷ 4 ∷ 0 ∷ 1 ∷ [])
    ++ (0 ∷ 4 ∷ 0 ∷ 4 ∷ 0 ∷ 4 ∷ 0 ∷ 6 ∷ 0 ∷ 2 ∷ [])
    ++ (0 ∷ 3 ∷ 0 ∷ 3 ∷ 0 ∷ 6 ∷ 0 ∷ 7 ∷ 0 ∷ 1 ∷ [])
    ++ (0 ∷ 4 ∷ 0 ∷ 4 ∷ 0 ∷ 8 ∷ 0 ∷ 10 ∷ 0 ∷ 2 ∷ [])
    ++ (0 ∷ 0 ∷ 1 ∷ 0 ∷ 2 ∷ 0 ∷ 3 ∷ 0 ∷ 0 ∷ 0 ∷ 0 ∷ 0 ∷ 0 ∷ 0 ∷ 0 ∷ [])
    ++ (1 ∷ 0 ∷ 1 ∷ 0 ∷ 1 ∷ 0 ∷ 2 ∷ 0 ∷ 0 ∷ 0 ∷ 0 ∷ 0 ∷ 0 ∷ 0 ∷ 0 ∷ [])
    ++ (2 ∷ 0 ∷ 1 ∷ 0 ∷ 2 ∷ 0 ∷ 3 ∷ 0 ∷ 0 ∷ 0 ∷ 2 ∷ 0 ∷ 0 ∷ 0 ∷ 0 ∷ [])
    ++ (3 ∷ 0 ∷ 1 ∷ 0 ∷ 1 ∷ 0 ∷ 2 ∷ 0 ∷ 0 ∷ 0 ∷ 1 ∷ 0 ∷ 0 ∷ 0 ∷ 0 ∷ [])
    ++ (4 ∷ 0 ∷ 1 ∷ 0 ∷ 2 ∷ 0 ∷ 3 ∷ 0 ∷ 0 ∷ 0 ∷ 8 ∷ 0 ∷ 0 ∷ 0 ∷ 0 ∷ [])
    ++ (5 ∷ 0 ∷ 1 ∷ 0 ∷ 1 ∷ 0 ∷ 2 ∷ 0 ∷ 0 ∷ 0 ∷ 4 ∷ 0 ∷ 0 ∷ 0 ∷ 0 ∷ [])

abbrev crossed-choice : List ℕ
crossed-choice =
    (0 ∷ 0 ∷ 0 ∷ 43 ∷ 1 ∷ 6 ∷ 6 ∷ [])
    ++ (0 ∷ 0 ∷ 0 ∷ 3 ∷ 0 ∷ 2 ∷ 0 ∷ 4 ∷ 0 ∷ 3 ∷ 0 ∷ 3 ∷ 0 ∷ 4 ∷ 0 ∷ 4 ∷ 0 ∷ 6 ∷ 0 ∷ 3 ∷ 0 ∷ 8 ∷ 0 ∷ 4 ∷ [])
    ++ (0 ∷ 2 ∷ 0 ∷ 1 ∷ 0 ∷ 1 ∷ 0 ∷ 1 ∷ 0 ∷ 1 ∷ 0 ∷ 1 ∷ [])

-- i 4. Thread 1, the more urgent, has no period. Activity 1 comes after 0 by its temporal mask and after itself by its loop.
abbrev four-times : List ℕ
four-times =
    (0 ∷ 0 ∷ 0 ∷ 63 ∷ 2 ∷ 1 ∷ 2 ∷ 2 ∷ 0 ∷ 12 ∷ 4 ∷ [])
    ++ (0 ∷ 2 ∷ 0 ∷ 2 ∷ 0 ∷ 0 ∷ 0 ∷ 0 ∷ 0 ∷ 2 ∷ [])
    ++ (0 ∷ 0 ∷ 0 ∷ 0 ∷ 0 ∷ 0 ∷ 0 ∷ 3 ∷ 0 ∷ 3 ∷ [])
    ++ (0 ∷ 0 ∷ 1 ∷ 0 ∷ 1 ∷ 0 ∷ 0 ∷ 0 ∷ 0 ∷ 0 ∷ 0 ∷ 0 ∷ 0 ∷ 0 ∷ 0 ∷ 255 ∷ [])
    ++ (1 ∷ 0 ∷ 1 ∷ 0 ∷ 1 ∷ 0 ∷ 2 ∷ 0 ∷ 0 ∷ 0 ∷ 1 ∷ 0 ∷ 0 ∷ 0 ∷ 0 ∷ 1 ∷ [])

abbrev four-times-unrolled : List ℕ
four-times-unrolled =
    (0 ∷ 0 ∷ 0 ∷ 210 ∷ 1 ∷ 1 ∷ 8 ∷ 8 ∷ 0 ∷ 12 ∷ [])
    ++ (0 ∷ 2 ∷ 0 ∷ 2 ∷ 0 ∷ 0 ∷ 0 ∷ 0 ∷ 0 ∷ 2 ∷ [])
    ++ (0 ∷ 0 ∷ 0 ∷ 0 ∷ 0 ∷ 0 ∷ 0 ∷ 3 ∷ 0 ∷ 3 ∷ [])
    ++ (0 ∷ 2 ∷ 0 ∷ 2 ∷ 0 ∷ 2 ∷ 0 ∷ 2 ∷ 0 ∷ 2 ∷ [])
    ++ (0 ∷ 0 ∷ 0 ∷ 0 ∷ 0 ∷ 0 ∷ 0 ∷ 3 ∷ 0 ∷ 3 ∷ [])
    ++ (0 ∷ 2 ∷ 0 ∷ 2 ∷ 0 ∷ 4 ∷ 0 ∷ 4 ∷ 0 ∷ 2 ∷ [])
    ++ (0 ∷ 0 ∷ 0 ∷ 0 ∷ 0 ∷ 0 ∷ 0 ∷ 3 ∷ 0 ∷ 3 ∷ [])
    ++ (0 ∷ 2 ∷ 0 ∷ 2 ∷ 0 ∷ 6 ∷ 0 ∷ 6 ∷ 0 ∷ 2 ∷ [])
    ++ (0 ∷ 0 ∷ 0 ∷ 0 ∷ 0 ∷ 0 ∷ 0 ∷ 3 ∷ 0 ∷ 3 ∷ [])
    ++ (0 ∷ 0 ∷ 1 ∷ 0 ∷ 1 ∷ 0 ∷ 0 ∷ 0 ∷ 0 ∷ 0 ∷ 0 ∷ 0 ∷ 0 ∷ 0 ∷ 0 ∷ [])
    ++ (1 ∷ 0 ∷ 1 ∷ 0 ∷ 1 ∷ 0 ∷ 2 ∷ 0 ∷ 0 ∷ 0 ∷ 1 ∷ 0 ∷ 0 ∷ 0 ∷ 0 ∷ [])
    ++ (2 ∷ 0 ∷ 1 ∷ 0 ∷ 1 ∷ 0 ∷ 0 ∷ 0 ∷ 0 ∷ 0 ∷ 0 ∷ 0 ∷ 0 ∷ 0 ∷ 0 ∷ [])
    ++ (3 ∷ 0 ∷ 1 ∷ 0 ∷ 1 ∷ 0 ∷ 2 ∷ 0 ∷ 0 ∷ 0 ∷ 6 ∷ 0 ∷ 0 ∷ 0 ∷ 0 ∷ [])
    ++ (4 ∷ 0 ∷ 1 ∷ 0 ∷ 1 ∷ 0 ∷ 0 ∷ 0 ∷ 0 ∷ 0 ∷ 0 ∷ 0 ∷ 0 ∷ 0 ∷ 0 ∷ [])
    ++ (5 ∷ 0 ∷ 1 ∷ 0 ∷ 1 ∷ 0 ∷ 2 ∷ 0 ∷ 0 ∷ 0 ∷ 24 ∷ 0 ∷ 0 ∷ 0 ∷ 0 ∷ [])
    ++ (6 ∷ 0 ∷ 1 ∷ 0 ∷ 1 ∷ 0 ∷ 0 ∷ 0 ∷ 0 ∷ 0 ∷ 0 ∷ 0 ∷ 0 ∷ 0 ∷ 0 ∷ [])
    ++ (7 ∷ 0 ∷ 1 ∷ 0 ∷ 1 ∷ 0 ∷ 2 ∷ 0 ∷ 0 ∷ 0 ∷ 96 ∷ 0 ∷ 0 ∷ 0 ∷ 0 ∷ [])

abbrev four-times-choice : List ℕ
four-times-choice =
    (0 ∷ 0 ∷ 0 ∷ 55 ∷ 1 ∷ 8 ∷ 8 ∷ [])
    ++ (0 ∷ 0 ∷ 0 ∷ 2 ∷ 0 ∷ 0 ∷ 0 ∷ 0 ∷ 0 ∷ 2 ∷ 0 ∷ 2 ∷ 0 ∷ 1 ∷ 0 ∷ 0 ∷ 0 ∷ 4 ∷ 0 ∷ 2 ∷ 0 ∷ 3 ∷ 0 ∷ 0 ∷ 0 ∷ 6 ∷ 0 ∷ 2 ∷ 0 ∷ 0 ∷ 0 ∷ 0 ∷ [])
    ++ (0 ∷ 1 ∷ 0 ∷ 1 ∷ 0 ∷ 1 ∷ 0 ∷ 1 ∷ 0 ∷ 1 ∷ 0 ∷ 1 ∷ 0 ∷ 1 ∷ 0 ∷ 1 ∷ [])

-- i 4. Activity 0 loops to itself, with delay 1: rounds 2 and 3 end past their deadlines.
abbrev late : List ℕ
late =
    (0 ∷ 0 ∷ 0 ∷ 37 ∷ 2 ∷ 1 ∷ 1 ∷ 1 ∷ 0 ∷ 12 ∷ 4 ∷ [])
    ++ (0 ∷ 2 ∷ 0 ∷ 2 ∷ 0 ∷ 0 ∷ 0 ∷ 0 ∷ 0 ∷ 1 ∷ [])
    ++ (0 ∷ 0 ∷ 1 ∷ 0 ∷ 2 ∷ 0 ∷ 1 ∷ 0 ∷ 0 ∷ 0 ∷ 0 ∷ 0 ∷ 0 ∷ 0 ∷ 0 ∷ 0 ∷ [])

abbrev late-unrolled : List ℕ
late-unrolled =
    (0 ∷ 0 ∷ 0 ∷ 110 ∷ 1 ∷ 1 ∷ 4 ∷ 4 ∷ 0 ∷ 12 ∷ [])
    ++ (0 ∷ 2 ∷ 0 ∷ 2 ∷ 0 ∷ 0 ∷ 0 ∷ 0 ∷ 0 ∷ 1 ∷ [])
    ++ (0 ∷ 2 ∷ 0 ∷ 2 ∷ 0 ∷ 2 ∷ 0 ∷ 2 ∷ 0 ∷ 1 ∷ [])
    ++ (0 ∷ 2 ∷ 0 ∷ 2 ∷ 0 ∷ 4 ∷ 0 ∷ 4 ∷ 0 ∷ 1 ∷ [])
    ++ (0 ∷ 2 ∷ 0 ∷ 2 ∷ 0 ∷ 6 ∷ 0 ∷ 6 ∷ 0 ∷ 1 ∷ [])
    ++ (0 ∷ 0 ∷ 1 ∷ 0 ∷ 2 ∷ 0 ∷ 1 ∷ 0 ∷ 0 ∷ 0 ∷ 0 ∷ 0 ∷ 0 ∷ 0 ∷ 0 ∷ [])
    ++ (1 ∷ 0 ∷ 1 ∷ 0 ∷ 2 ∷ 0 ∷ 1 ∷ 0 ∷ 0 ∷ 0 ∷ 1 ∷ 0 ∷ 0 ∷ 0 ∷ 0 ∷ [])
    ++ (2 ∷ 0 ∷ 1 ∷ 0 ∷ 2 ∷ 0 ∷ 1 ∷ 0 ∷ 0 ∷ 0 ∷ 2 ∷ 0 ∷ 0 ∷ 0 ∷ 0 ∷ [])
    ++ (3 ∷ 0 ∷ 1 ∷ 0 ∷ 2 ∷ 0 ∷ 1 ∷ 0 ∷ 0 ∷ 0 ∷ 4 ∷ 0 ∷ 0 ∷ 0 ∷ 0 ∷ [])

abbrev late-choice : List ℕ
late-choice =
    (0 ∷ 0 ∷ 0 ∷ 31 ∷ 1 ∷ 4 ∷ 4 ∷ [])
    ++ (0 ∷ 0 ∷ 0 ∷ 2 ∷ 0 ∷ 2 ∷ 0 ∷ 2 ∷ 0 ∷ 4 ∷ 0 ∷ 2 ∷ 0 ∷ 6 ∷ 0 ∷ 2 ∷ [])
    ++ (0 ∷ 1 ∷ 0 ∷ 2 ∷ 0 ∷ 2 ∷ 0 ∷ 1 ∷ [])

-- i 3. Activity 0 loops to the later 1, with delay 2: activity 1 of round 2 is owed after the last tick.
abbrev owed : List ℕ
owed =
    (0 ∷ 0 ∷ 0 ∷ 53 ∷ 2 ∷ 1 ∷ 1 ∷ 2 ∷ 0 ∷ 9 ∷ 3 ∷ [])
    ++ (0 ∷ 0 ∷ 0 ∷ 0 ∷ 0 ∷ 0 ∷ 0 ∷ 3 ∷ 0 ∷ 1 ∷ [])
    ++ (0 ∷ 0 ∷ 1 ∷ 0 ∷ 1 ∷ 0 ∷ 0 ∷ 0 ∷ 0 ∷ 0 ∷ 0 ∷ 0 ∷ 0 ∷ 0 ∷ 0 ∷ 1 ∷ [])
    ++ (0 ∷ 0 ∷ 1 ∷ 0 ∷ 1 ∷ 0 ∷ 2 ∷ 0 ∷ 0 ∷ 0 ∷ 0 ∷ 0 ∷ 0 ∷ 0 ∷ 1 ∷ 255 ∷ [])

abbrev owed-unrolled : List ℕ
owed-unrolled =
    (0 ∷ 0 ∷ 0 ∷ 130 ∷ 1 ∷ 1 ∷ 3 ∷ 6 ∷ 0 ∷ 9 ∷ [])
    ++ (0 ∷ 0 ∷ 0 ∷ 0 ∷ 0 ∷ 0 ∷ 0 ∷ 3 ∷ 0 ∷ 1 ∷ [])
    ++ (0 ∷ 0 ∷ 0 ∷ 0 ∷ 0 ∷ 0 ∷ 0 ∷ 3 ∷ 0 ∷ 1 ∷ [])
    ++ (0 ∷ 0 ∷ 0 ∷ 0 ∷ 0 ∷ 0 ∷ 0 ∷ 3 ∷ 0 ∷ 1 ∷ [])
    ++ (0 ∷ 0 ∷ 1 ∷ 0 ∷ 1 ∷ 0 ∷ 0 ∷ 0 ∷ 0 ∷ 0 ∷ 0 ∷ 0 ∷ 0 ∷ 0 ∷ 0 ∷ [])
    ++ (0 ∷ 0 ∷ 1 ∷ 0 ∷ 1 ∷ 0 ∷ 2 ∷ 0 ∷ 0 ∷ 0 ∷ 0 ∷ 0 ∷ 0 ∷ 0 ∷ 1 ∷ [])
    ++ (1 ∷ 0 ∷ 1 ∷ 0 ∷ 1 ∷ 0 ∷ 0 ∷ 0 ∷ 0 ∷ 0 ∷ 2 ∷ 0 ∷ 0 ∷ 0 ∷ 0 ∷ [])
    ++ (1 ∷ 0 ∷ 1 ∷ 0 ∷ 1 ∷ 0 ∷ 2 ∷ 0 ∷ 0 ∷ 0 ∷ 0 ∷ 0 ∷ 0 ∷ 0 ∷ 4 ∷ [])
    ++ (2 ∷ 0 ∷ 1 ∷ 0 ∷ 1 ∷ 0 ∷ 0 ∷ 0 ∷ 0 ∷ 0 ∷ 8 ∷ 0 ∷ 0 ∷ 0 ∷ 0 ∷ [])
    ++ (2 ∷ 0 ∷ 1 ∷ 0 ∷ 1 ∷ 0 ∷ 2 ∷ 0 ∷ 0 ∷ 0 ∷ 0 ∷ 0 ∷ 0 ∷ 0 ∷ 16 ∷ [])

abbrev owed-choice : List ℕ
owed-choice =
    (0 ∷ 0 ∷ 0 ∷ 31 ∷ 1 ∷ 3 ∷ 6 ∷ [])
    ++ (0 ∷ 0 ∷ 0 ∷ 0 ∷ 0 ∷ 0 ∷ 0 ∷ 0 ∷ 0 ∷ 3 ∷ 0 ∷ 0 ∷ [])
    ++ (0 ∷ 1 ∷ 0 ∷ 1 ∷ 0 ∷ 1 ∷ 0 ∷ 1 ∷ 0 ∷ 1 ∷ 0 ∷ 1 ∷ [])

-- ---- the table

-- the run's verdict, the same on a page and on its unrolled record
abbrev chosen : List ℕ → List ℕ → List ℕ → Answer Figures → List Case
chosen page plain choice said =
    record { asked = run page choice; expected = verdict said } ∷ record { asked = run plain choice; expected = verdict said } ∷ []

-- and the run's words
abbrev ran : List ℕ → List ℕ → List ℕ → List ℕ → Answer Figures → List Case
ran page plain choice ticks said =
    record { asked = words page choice; expected = numbers ticks }
    ∷ record { asked = words plain choice; expected = numbers ticks }
    ∷ chosen page plain choice said

-- and that it is the page's unrolled record
abbrev paged : List ℕ → List ℕ → List ℕ → List ℕ → Answer Figures → List Case
paged page plain choice ticks said = record { asked = unrolls page; expected = numbers plain } ∷ ran page plain choice ticks said

abbrev cases : List Case
cases =
    ran itself itself_unrolled itself_choice (1 ∷ 1 ∷ 0 ∷ 0 ∷ 2 ∷ 2 ∷ 0 ∷ 0 ∷ [])
    (accepts 4 8 6)
    ++ ran earlier earlier_unrolled earlier_choice (2 ∷ 1 ∷ 1 ∷ 4 ∷ 4 ∷ 0 ∷ 8 ∷ 8 ∷ 0 ∷ 0 ∷ [])
    (accepts 7 10 8)
    ++ ran later later_unrolled later_choice (1 ∷ 2 ∷ 2 ∷ 2 ∷ 8 ∷ 8 ∷ 0 ∷ 4 ∷ 0 ∷ 0 ∷ 0 ∷ 0 ∷ [])
    (accepts 7 12 8)
    ++ ran moved_masks moved_masks_unrolled moved_masks_choice (1 ∷ 1 ∷ 0 ∷ 2 ∷ 4 ∷ 8 ∷ 8 ∷ 0 ∷ 16 ∷ 32 ∷ 32 ∷ 0 ∷ [])
    (accepts 9 24 11)
    -- "a round's release may lie anywhere in its own range": 3..4 for round 1, and 0..1 again where there is no period
    ++ chosen itself itself_unrolled (patch 11 (0 ∷ 4 ∷ []) itself_choice) (accepts 4 8 6)
    ++ chosen itself itself_unrolled (patch 11 (0 ∷ 2 ∷ []) itself_choice) (refuses 12 1 0)
    ++ chosen itself itself_unrolled (patch 11 (0 ∷ 5 ∷ []) itself_choice) (refuses 12 1 0)
    ++ chosen earlier earlier_unrolled (patch 15 (0 ∷ 1 ∷ []) earlier_choice) (accepts 7 10 8)
    ++ chosen earlier earlier_unrolled (patch 15 (0 ∷ 2 ∷ []) earlier_choice) (refuses 12 2 0)
    ++ paged thrice thrice_unrolled thrice_choice (1 ∷ 1 ∷ 1 ∷ 0 ∷ 0 ∷ 2 ∷ 2 ∷ 2 ∷ 0 ∷ 4 ∷ 4 ∷ 0 ∷ [])
    (accepts 8 12 11)
    ++ paged crossed crossed-unrolled crossed-choice (1 ∷ 1 ∷ 2 ∷ 0 ∷ 0 ∷ 12 ∷ 0 ∷ 0 ∷ 16 ∷ 32 ∷ 0 ∷ 0 ∷ [])
    (accepts 7 24 10)
    ++ paged four-times four-times-unrolled four-times-choice (1 ∷ 2 ∷ 4 ∷ 0 ∷ 8 ∷ 16 ∷ 64 ∷ 32 ∷ 0 ∷ 0 ∷ 128 ∷ 0 ∷ [])
    (accepts 8 12 11)
    ++ paged late late-unrolled late-choice (1 ∷ 0 ∷ 2 ∷ 2 ∷ 0 ∷ 4 ∷ 4 ∷ 0 ∷ 8 ∷ 0 ∷ 0 ∷ 0 ∷ [])
    (refuses 43 2 0)
    ++ paged owed owed-unrolled owed-choice (1 ∷ 2 ∷ 0 ∷ 0 ∷ 4 ∷ 8 ∷ 0 ∷ 0 ∷ 16 ∷ [])
    (refuses 42 5 0)

-- the rules say so
pub more-page-cases : Right cases
unfolding every
more-page-cases = refl
