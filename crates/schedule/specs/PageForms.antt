-- The form of pages (U4 of 02), on literal bytes: versions and lengths, 51, 52 and 53, and the orders around them: "1, 2, 3, 4,
-- 51, 5, 52, 6, 53, 7"; 57 is in Gangs. One table with one truth about it. The expected values are worked out by hand.
-- Assumes nothing.
use Rattle.std.specs.Prelude.{ℕ, List, [], ◌∷◌, ◌++◌, refl, replicate}
use Rattle.schedule.specs.Answers.{Answer, Figures}
use Rattle.schedule.specs.Cases.{every, patch, accepts, refuses, Case, Right, unrolls, run, verdict, numbers}
use Rattle.schedule.specs.Starred.{model_s, choice_s}
use Rattle.schedule.specs.Pages.{earlier, earlier_choice}

-- The page `earlier` has i 2, n 2, m 2 and 63 bytes: i is byte 10, the thread rows begin at 11 and 21, the activity rows at 31
-- and 47, and their loop bytes are 46 and 62. Each of these has something else at a place, or at two.
abbrev but : ℕ → List ℕ → List ℕ
but at new = patch at new earlier

abbrev but_two : ℕ → List ℕ → ℕ → List ℕ → List ℕ
but_two at new at' new' = patch at' new' (but at new)

-- a version 2 record of so many bytes with these counts and i, and zeros in all its rows
abbrev zeros : ℕ → ℕ → ℕ → ℕ → ℕ → List ℕ
zeros size n m i rows = (0 ∷ 0 ∷ 0 ∷ size ∷ 2 ∷ 1 ∷ n ∷ m ∷ 0 ∷ 8 ∷ i ∷ []) ++ replicate rows 0

-- S in version 2: one round without loops
abbrev S_in_version_2 : List ℕ
S_in_version_2 =
    (0 ∷ 0 ∷ 0 ∷ 79 ∷ 2 ∷ 1 ∷ 2 ∷ 3 ∷ 0 ∷ 8 ∷ 1 ∷ [])
    ++ (0 ∷ 0 ∷ 0 ∷ 0 ∷ 0 ∷ 0 ∷ 0 ∷ 2 ∷ 0 ∷ 5 ∷ [])
    ++ (0 ∷ 8 ∷ 0 ∷ 8 ∷ 0 ∷ 0 ∷ 0 ∷ 0 ∷ 0 ∷ 3 ∷ [])
    ++ (0 ∷ 0 ∷ 1 ∷ 0 ∷ 2 ∷ 0 ∷ 0 ∷ 0 ∷ 0 ∷ 0 ∷ 0 ∷ 0 ∷ 0 ∷ 0 ∷ 0 ∷ 255 ∷ [])
    ++ (1 ∷ 0 ∷ 2 ∷ 0 ∷ 3 ∷ 0 ∷ 1 ∷ 0 ∷ 0 ∷ 0 ∷ 0 ∷ 0 ∷ 0 ∷ 0 ∷ 0 ∷ 255 ∷ [])
    ++ (1 ∷ 0 ∷ 1 ∷ 0 ∷ 1 ∷ 0 ∷ 0 ∷ 0 ∷ 0 ∷ 0 ∷ 2 ∷ 0 ∷ 0 ∷ 0 ∷ 1 ∷ 255 ∷ [])

-- what the run says of a model, with the choice of `earlier`
abbrev says : List ℕ → Answer Figures → List Case → List Case
says model said rest = record { asked = run model earlier_choice; expected = verdict said } ∷ rest

abbrev pub cases : List Case
cases =
    -- the page itself, and with i 4, which has other counts than the choice
    says earlier (accepts 7 10 8)
    (says (but 10 (4 ∷ [])) (refuses 10 0 0)
    -- versions 0 and 4; S with version byte 2 has not that version's length, nor has a record of 10 bytes
    (says (but 4 (0 ∷ [])) (refuses 2 0 0)
    (says (but 4 (4 ∷ [])) (refuses 2 0 0)
    (says (patch 4 (2 ∷ []) model_s) (refuses 4 0 0)
    (says (0 ∷ 0 ∷ 0 ∷ 10 ∷ 2 ∷ 1 ∷ 1 ∷ 1 ∷ 0 ∷ 8 ∷ []) (refuses 4 0 0)
    -- 51: i 0 and 5, and 4 with one row each; i times n is 9, and 8 with `four-times` of MorePages; i times m is 33, and 32
    (says (but 10 (0 ∷ [])) (refuses 51 0 0)
    (says (zeros 37 1 1 5 26) (refuses 51 0 0)
    (says (zeros 37 1 1 4 26) (refuses 6 0 0)
    (says (zeros 57 3 1 3 46) (refuses 51 0 0)
    (says (zeros 57 3 1 2 46) (refuses 6 0 0)
    (says (zeros 197 1 11 3 186) (refuses 51 0 0)
    (says (zeros 149 1 8 4 138) (refuses 6 0 0)
    -- 4 before 51, and 51 before 5
    (says (zeros 58 3 1 3 47) (refuses 4 0 0)
    (says (but_two 10 (0 ∷ []) 15 (0 ∷ 9 ∷ [])) (refuses 51 0 0)
    -- 5 before 52
    (says (but_two 11 (0 ∷ 4 ∷ 0 ∷ 5 ∷ []) 25 (0 ∷ 9 ∷ [])) (refuses 5 1 0)
    -- 52: unequal period ends; a most release of 65531 and of 65532, which is 65536 in round 1; with i 4 of 65523 and of
    -- 65524, which is 65536 in round 3
    (says (but 23 (0 ∷ 5 ∷ [])) (refuses 52 1 0)
    (says (but 27 (255 ∷ 251 ∷ [])) (accepts 7 10 8)
    (says (but 27 (255 ∷ 252 ∷ [])) (refuses 52 1 0)
    (says (but_two 10 (4 ∷ []) 27 (255 ∷ 243 ∷ [])) (refuses 10 0 0)
    (says (but_two 10 (4 ∷ []) 27 (255 ∷ 244 ∷ [])) (refuses 52 1 0)
    -- with i 1 neither is tried
    (says (but_two 10 (1 ∷ []) 23 (0 ∷ 5 ∷ [])) (refuses 10 0 0)
    (says (but_two 10 (1 ∷ []) 27 (255 ∷ 255 ∷ [])) (refuses 10 0 0)
    -- 52 before 6, and 6 before 53
    (says (but_two 23 (0 ∷ 5 ∷ []) 31 (2 ∷ [])) (refuses 52 1 0)
    (says (but_two 47 (2 ∷ []) 46 (2 ∷ [])) (refuses 6 1 0)
    -- 53: q is m, and 254; its own row is right, and with i 1 a later one; q is m with i 1
    (says (but 46 (2 ∷ [])) (refuses 53 0 0)
    (says (but 62 (254 ∷ [])) (refuses 53 1 0)
    (says (but 46 (0 ∷ [])) (accepts 7 10 10)
    (says (but_two 10 (1 ∷ []) 46 (2 ∷ [])) (refuses 53 0 0)
    (says (but_two 10 (1 ∷ []) 46 (1 ∷ [])) (refuses 10 0 0)
    -- 53 before 7, by either mask
    (says (but_two 62 (2 ∷ []) 41 (1 ∷ [])) (refuses 53 1 0)
    (says (but 41 (1 ∷ [])) (refuses 7 0 0)
    (says (but 45 (1 ∷ [])) (refuses 7 0 0)
    -- a choice keeps version 1, and S is the same page in version 2 with i 1
    (record { asked = run earlier (patch 4 (2 ∷ []) earlier_choice); expected = verdict (refuses 9 0 0) }
    ∷ record { asked = unrolls S_in_version_2; expected = numbers model_s }
    ∷ record { asked = run S_in_version_2 choice_s; expected = verdict (accepts 5 8 6) }
    ∷ [])))))))))))))))))))))))))))))))))

-- the rules say so
pub form_cases : Right cases
unfolding every
form_cases = refl
