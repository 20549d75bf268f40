-- "`gridrun` on S prints" the paper's listing, byte for byte, gridcheck its two lines and gridlate a line for each activity:
-- a table of printed lines with one truth about it.
-- Assumes nothing.
use Rattle.std.specs.Prelude.{ℕ, List, [], ◌∷◌, ◌++◌, ◌≡◌, refl, negsuc}
use Rattle.schedule.specs.Lines.{tick_line, late_line, gridcheck, gridrun, gridlate}
use Rattle.schedule.specs.Cases.{every}
use Rattle.schedule.specs.Starred.{model_s, choice_s, plan_s, activity2_at_6, horizon, wider_period, chosen_period}

-- what gridrun prints for S, a row for each line
abbrev listing : List ℕ
listing =
    (48 ∷ 32 ∷ 48 ∷ 48 ∷ 48 ∷ 48 ∷ 48 ∷ 48 ∷ 48 ∷ 50 ∷ 10 ∷ [])
    ++ (49 ∷ 32 ∷ 48 ∷ 48 ∷ 48 ∷ 48 ∷ 48 ∷ 48 ∷ 48 ∷ 49 ∷ 10 ∷ [])
    ++ (50 ∷ 32 ∷ 48 ∷ 48 ∷ 48 ∷ 48 ∷ 48 ∷ 48 ∷ 48 ∷ 49 ∷ 10 ∷ [])
    ++ (51 ∷ 32 ∷ 48 ∷ 48 ∷ 48 ∷ 48 ∷ 48 ∷ 48 ∷ 48 ∷ 50 ∷ 10 ∷ [])
    ++ (52 ∷ 32 ∷ 48 ∷ 48 ∷ 48 ∷ 48 ∷ 48 ∷ 48 ∷ 48 ∷ 48 ∷ 10 ∷ [])
    ++ (53 ∷ 32 ∷ 48 ∷ 48 ∷ 48 ∷ 48 ∷ 48 ∷ 48 ∷ 48 ∷ 52 ∷ 10 ∷ [])
    ++ (54 ∷ 32 ∷ 48 ∷ 48 ∷ 48 ∷ 48 ∷ 48 ∷ 48 ∷ 48 ∷ 48 ∷ 10 ∷ [])
    ++ (55 ∷ 32 ∷ 48 ∷ 48 ∷ 48 ∷ 48 ∷ 48 ∷ 48 ∷ 48 ∷ 48 ∷ 10 ∷ [])
    ++ (114 ∷ 117 ∷ 110 ∷ 32 ∷ 97 ∷ 99 ∷ 99 ∷ 101 ∷ 112 ∷ 116 ∷ 101 ∷ 100 ∷ 32 ∷ 53 ∷ 32 ∷ 56 ∷ 32 ∷ 54 ∷ 10 ∷ [])

-- what gridcheck prints for S with activity 2 at tick 6: plain accepted 5 8 7, strict refused 30 5 2
abbrev two_lines : List ℕ
two_lines =
    (112 ∷ 108 ∷ 97 ∷ 105 ∷ 110 ∷ 32 ∷ [])
    ++ (97 ∷ 99 ∷ 99 ∷ 101 ∷ 112 ∷ 116 ∷ 101 ∷ 100 ∷ 32 ∷ 53 ∷ 32 ∷ 56 ∷ 32 ∷ 55 ∷ 10 ∷ [])
    ++ (115 ∷ 116 ∷ 114 ∷ 105 ∷ 99 ∷ 116 ∷ 32 ∷ [])
    ++ (114 ∷ 101 ∷ 102 ∷ 117 ∷ 115 ∷ 101 ∷ 100 ∷ 32 ∷ 51 ∷ 48 ∷ 32 ∷ 53 ∷ 32 ∷ 50 ∷ 10 ∷ [])

-- what gridrun and gridlate print for a model alone: run refused 8 0 0
abbrev one_line : List ℕ
one_line = 114 ∷ 117 ∷ 110 ∷ 32 ∷ 114 ∷ 101 ∷ 102 ∷ 117 ∷ 115 ∷ 101 ∷ 100 ∷ 32 ∷ 56 ∷ 32 ∷ 48 ∷ 32 ∷ 48 ∷ 10 ∷ []

-- the line of tick 0 with the word 01234567, and of tick 4095 with fedcba98: every hexadecimal digit (U5 of 02)
abbrev digits_line : List ℕ
digits_line = 48 ∷ 32 ∷ 48 ∷ 49 ∷ 50 ∷ 51 ∷ 52 ∷ 53 ∷ 54 ∷ 55 ∷ 10 ∷ []

abbrev long_line : List ℕ
long_line = 52 ∷ 48 ∷ 57 ∷ 53 ∷ 32 ∷ 102 ∷ 101 ∷ 100 ∷ 99 ∷ 98 ∷ 97 ∷ 57 ∷ 56 ∷ 10 ∷ []

-- what gridlate prints for S: 0 -, 1 4, 2 2, run accepted 5 8 6
abbrev within_time : List ℕ
within_time =
    (48 ∷ 32 ∷ 45 ∷ 10 ∷ [])
    ++ (49 ∷ 32 ∷ 52 ∷ 10 ∷ [])
    ++ (50 ∷ 32 ∷ 50 ∷ 10 ∷ [])
    ++ (114 ∷ 117 ∷ 110 ∷ 32 ∷ 97 ∷ 99 ∷ 99 ∷ 101 ∷ 112 ∷ 116 ∷ 101 ∷ 100 ∷ 32 ∷ 53 ∷ 32 ∷ 56 ∷ 32 ∷ 54 ∷ 10 ∷ [])

-- with a chosen period of 5: 0 -, 1 1, 2 -1, run refused 43 2 0
abbrev one_late : List ℕ
one_late =
    (48 ∷ 32 ∷ 45 ∷ 10 ∷ [])
    ++ (49 ∷ 32 ∷ 49 ∷ 10 ∷ [])
    ++ (50 ∷ 32 ∷ 45 ∷ 49 ∷ 10 ∷ [])
    ++ (114 ∷ 117 ∷ 110 ∷ 32 ∷ 114 ∷ 101 ∷ 102 ∷ 117 ∷ 115 ∷ 101 ∷ 100 ∷ 32 ∷ 52 ∷ 51 ∷ 32 ∷ 50 ∷ 32 ∷ 48 ∷ 10 ∷ [])

-- with H 5, the last line alone: run refused 42 2 0
abbrev unfinished : List ℕ
unfinished = 114 ∷ 117 ∷ 110 ∷ 32 ∷ 114 ∷ 101 ∷ 102 ∷ 117 ∷ 115 ∷ 101 ∷ 100 ∷ 32 ∷ 52 ∷ 50 ∷ 32 ∷ 50 ∷ 32 ∷ 48 ∷ 10 ∷ []

-- the line of activity 31 with −2147483647, which is no dash
abbrev least_line : List ℕ
least_line = 51 ∷ 49 ∷ 32 ∷ 45 ∷ 50 ∷ 49 ∷ 52 ∷ 55 ∷ 52 ∷ 56 ∷ 51 ∷ 54 ∷ 52 ∷ 55 ∷ 10 ∷ []

pub printed_lines :
    ◌≡◌ {A = List (List ℕ)}
    (gridrun (model_s ++ choice_s)
    ∷ gridcheck (model_s ++ activity2_at_6 plan_s)
    ∷ gridrun model_s
    ∷ tick_line 0 0x01234567
    ∷ tick_line 4095 0xfedcba98
    ∷ gridlate (model_s ++ choice_s)
    ∷ gridlate (wider_period ++ chosen_period 5)
    ∷ gridlate (horizon 5 ++ choice_s)
    ∷ gridlate model_s
    ∷ late_line 31 (negsuc 2147483646)
    ∷ [])
    (listing ∷ two_lines ∷ one_line ∷ digits_line ∷ long_line ∷ within_time ∷ one_late ∷ unfinished ∷ one_line ∷ least_line ∷ [])
unfolding every
printed_lines = refl
