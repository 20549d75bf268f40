-- Wrapped records (U6 of 02) on literal bytes, in pairs and in files: which one stands, where it lies, and what is handed back;
-- each cause of 54; 55 and 56; and the order in which they are tried. One table with one truth about it. The expected values
-- are worked out by hand.
-- Assumes nothing.
use Rattle.std.specs.Prelude.{ℕ, List, [], ◌∷◌, ◌++◌, refl}
use Rattle.schedule.specs.Bounded.{chain}
use Rattle.schedule.specs.Answers.{accepted}
use Rattle.schedule.specs.Cases.{every, patch, refuses, Case, Right, pair, file, parts}

-- two models of 35 bytes that differ in the priority; the second is called another text
abbrev model : List ℕ
model =
    (0 ∷ 0 ∷ 0 ∷ 35 ∷ 1 ∷ 1 ∷ 1 ∷ 1 ∷ 0 ∷ 1 ∷ [])
    ++ (0 ∷ 0 ∷ 0 ∷ 0 ∷ 0 ∷ 0 ∷ 0 ∷ 0 ∷ 0 ∷ 5 ∷ [])
    ++ (0 ∷ 0 ∷ 1 ∷ 0 ∷ 1 ∷ 0 ∷ 0 ∷ 0 ∷ 0 ∷ 0 ∷ 0 ∷ 0 ∷ 0 ∷ 0 ∷ 0 ∷ [])

abbrev other : List ℕ
other = patch 19 (6 ∷ []) model

-- 47 bytes: of series 7, with the two bytes of the issue, and the flag
abbrev wrap : ℕ → ℕ → ℕ → List ℕ → List ℕ
wrap high low flag inside = (0 ∷ 0 ∷ 0 ∷ 47 ∷ 1 ∷ 0 ∷ 0 ∷ 0 ∷ 7 ∷ high ∷ low ∷ flag ∷ []) ++ inside

abbrev live_1 : List ℕ
live_1 = wrap 0 1 0 model

abbrev live_2 : List ℕ
live_2 = wrap 0 2 0 model

abbrev gone_1 : List ℕ
gone_1 = wrap 0 1 1 model

abbrev gone_2 : List ℕ
gone_2 = wrap 0 2 1 model

abbrev other_1 : List ℕ
other_1 = wrap 0 1 0 other

abbrev other_gone_1 : List ℕ
other_gone_1 = wrap 0 1 1 other

-- issue 1, live, with something else at a place
abbrev but : ℕ → List ℕ → List ℕ
but at new = patch at new live_1

-- issue 3, live: a version 2 model of 37 bytes in a record of 49; its version is byte 16, i byte 22, the ends of the period are
-- from byte 23 on, and the loop byte is byte 48
abbrev newer : List ℕ
newer =
    (0 ∷ 0 ∷ 0 ∷ 49 ∷ 1 ∷ 0 ∷ 0 ∷ 0 ∷ 7 ∷ 0 ∷ 3 ∷ 0 ∷ [])
    ++ (0 ∷ 0 ∷ 0 ∷ 37 ∷ 2 ∷ 1 ∷ 1 ∷ 1 ∷ 0 ∷ 1 ∷ 2 ∷ [])
    ++ (0 ∷ 0 ∷ 0 ∷ 0 ∷ 0 ∷ 0 ∷ 0 ∷ 0 ∷ 0 ∷ 5 ∷ [])
    ++ (0 ∷ 0 ∷ 1 ∷ 0 ∷ 1 ∷ 0 ∷ 0 ∷ 0 ∷ 0 ∷ 0 ∷ 0 ∷ 0 ∷ 0 ∷ 0 ∷ 0 ∷ 255 ∷ [])

-- issue 3, live: a version 3 model of 38 bytes in a record of 50, with c 2; its width is byte 49
abbrev wide : List ℕ
wide =
    (0 ∷ 0 ∷ 0 ∷ 50 ∷ 1 ∷ 0 ∷ 0 ∷ 0 ∷ 7 ∷ 0 ∷ 3 ∷ 0 ∷ [])
    ++ (0 ∷ 0 ∷ 0 ∷ 38 ∷ 3 ∷ 2 ∷ 1 ∷ 1 ∷ 0 ∷ 1 ∷ 2 ∷ [])
    ++ (0 ∷ 0 ∷ 0 ∷ 0 ∷ 0 ∷ 0 ∷ 0 ∷ 0 ∷ 0 ∷ 5 ∷ [])
    ++ (0 ∷ 0 ∷ 1 ∷ 0 ∷ 1 ∷ 0 ∷ 0 ∷ 0 ∷ 0 ∷ 0 ∷ 0 ∷ 0 ∷ 0 ∷ 0 ∷ 0 ∷ 255 ∷ 2 ∷ [])

-- issue 1, live: a model of 16 activities in a record of 272 bytes, so that both lengths take two bytes
abbrev long : List ℕ
long =
    (0 ∷ 0 ∷ 1 ∷ 16 ∷ 1 ∷ 0 ∷ 0 ∷ 0 ∷ 7 ∷ 0 ∷ 1 ∷ 0 ∷ [])
    ++ (0 ∷ 0 ∷ 1 ∷ 4 ∷ 1 ∷ 1 ∷ 1 ∷ 16 ∷ 0 ∷ 1 ∷ [])
    ++ (0 ∷ 0 ∷ 0 ∷ 0 ∷ 0 ∷ 0 ∷ 0 ∷ 0 ∷ 0 ∷ 5 ∷ [])
    ++ chain 16 (λ _. 0 ∷ 0 ∷ 1 ∷ 0 ∷ 1 ∷ 0 ∷ 0 ∷ 0 ∷ 0 ∷ 0 ∷ 0 ∷ 0 ∷ 0 ∷ 0 ∷ 0 ∷ [])

-- ---- what is expected

-- of a file: the record's number, its first byte, how many it has and what they are; or the refusal's number and A, and nothing
-- handed back
abbrev chosen_of : ℕ → List ℕ → ℕ → ℕ → List ℕ → List Case → List Case
chosen_of size f index offset back rest =
    record { asked = file f; expected = parts (accepted (record { index = index; offset = offset; length = size })) back } ∷ rest

abbrev chosen : List ℕ → ℕ → ℕ → List ℕ → List Case → List Case
chosen = chosen_of 47

abbrev turned_away : List ℕ → ℕ → ℕ → List Case → List Case
turned_away f number a rest = record { asked = file f; expected = parts (refuses number a 0) [] } ∷ rest

-- of a pair
abbrev stands : List ℕ → List ℕ → ℕ → List ℕ → List Case → List Case
stands x y index back rest =
    record { asked = pair x y; expected = parts (accepted (record { index = index; offset = 0; length = 47 })) back } ∷ rest

abbrev neither : List ℕ → List ℕ → ℕ → ℕ → List Case → List Case
neither x y number a rest = record { asked = pair x y; expected = parts (refuses number a 0) [] } ∷ rest

-- ---- pairs

abbrev pub pairs : List Case
pairs =
    -- at equal issue the withdrawn one, in both orders; a higher issue over it; equal copies
    stands live_1 gone_1 1 gone_1
    (stands gone_1 live_1 0 gone_1
    (stands gone_1 live_2 1 live_2
    (stands live_2 gone_1 0 live_2
    (stands live_1 live_1 0 live_1
    (stands gone_1 gone_1 0 gone_1
    -- a withdrawn one of a higher issue, over a live and over a withdrawn one
    (stands live_1 gone_2 1 gone_2
    (stands gone_2 live_1 0 gone_2
    (stands gone_1 gone_2 1 gone_2
    -- issues 0 and 65535, 255 and 256
    (stands (wrap 0 0 0 model) (wrap 255 255 0 model) 1 (wrap 255 255 0 model)
    (stands (wrap 0 255 0 model) (wrap 1 0 0 model) 1 (wrap 1 0 0 model)
    (stands (wrap 1 0 0 model) (wrap 0 255 1 model) 0 (wrap 1 0 0 model)
    -- another text at another issue or flag is no copy
    (stands other_1 live_2 1 live_2
    (stands other_1 gone_1 1 gone_1
    -- two series: at equal rank, at a lower issue, between withdrawn ones
    (neither live_1 (but 8 (8 ∷ [])) 55 1
    (neither live_2 (but 8 (8 ∷ [])) 55 1
    (neither gone_1 (patch 8 (8 ∷ []) gone_1) 55 1
    -- another text at equal rank: of another length, or other in one byte, an early one and the last one among them
    (neither live_1 other_1 56 1
    (neither gone_1 other_gone_1 56 1
    (neither (wrap 0 3 0 model) newer 56 1
    (neither live_1 (but 17 (2 ∷ [])) 56 1
    (neither newer (patch 48 (0 ∷ []) newer) 56 1
    -- no bytes; one byte more and one fewer than the length says; both wrong
    (neither [] live_1 54 0
    (neither live_1 [] 54 1
    (neither (live_1 ++ (0 ∷ [])) live_1 54 0
    (neither live_1 (live_1 ++ (0 ∷ [])) 54 1
    (neither live_1 (but 3 (48 ∷ [])) 54 1
    (neither live_1 (but 3 (46 ∷ [])) 54 1
    (neither (but 11 (2 ∷ [])) (but 4 (2 ∷ [])) 54 0
    -- the version and the model of the second
    (neither live_1 (patch 4 (2 ∷ []) live_2) 54 1
    (neither live_1 (patch 42 (1 ∷ []) live_2) 54 1
    -- 54 before 55; and a file of two is no record
    (neither live_1 (patch 8 (8 ∷ []) (but 11 (2 ∷ []))) 54 1
    (neither (live_1 ++ live_2) live_1 54 0
    []))))))))))))))))))))))))))))))))

-- ---- files

abbrev pub files : List Case
files =
    -- one record; at equal issue the withdrawn one, in both orders; a higher issue over it, in both orders
    chosen live_1 0 0 live_1
    (chosen (live_1 ++ gone_1) 1 47 gone_1
    (chosen (gone_1 ++ live_1) 0 0 gone_1
    (chosen (gone_1 ++ live_2) 1 47 live_2
    (chosen (live_2 ++ gone_1) 0 0 live_2
    -- the first of equal copies, at the start and later
    (chosen (live_1 ++ live_1 ++ live_1) 0 0 live_1
    (chosen (live_1 ++ gone_1 ++ gone_1) 1 47 gone_1
    (chosen (live_1 ++ gone_1 ++ live_2 ++ live_2) 2 94 live_2
    (chosen (live_1 ++ live_1 ++ live_2 ++ gone_1) 2 94 live_2
    -- issues 255 and 256
    (chosen (wrap 0 255 1 model ++ wrap 1 0 0 model) 1 47 (wrap 1 0 0 model)
    -- records of several lengths, and a sixth record
    (chosen (live_1 ++ newer ++ wrap 0 4 0 model) 2 96 (wrap 0 4 0 model)
    (chosen_of 49 (live_1 ++ gone_1 ++ newer) 2 94 newer
    (chosen_of 272 (long ++ wrap 0 0 1 model) 0 0 long
    (chosen (long ++ live_2) 1 272 live_2
    (chosen (live_1 ++ live_1 ++ live_1 ++ live_1 ++ live_1 ++ live_2) 5 235 live_2
    -- two series, in each of the four bytes
    (turned_away (live_1 ++ but 5 (128 ∷ [])) 55 1
    (turned_away (live_1 ++ but 6 (1 ∷ [])) 55 1
    (turned_away (live_1 ++ but 7 (1 ∷ [])) 55 1
    (turned_away (live_1 ++ but 8 (8 ∷ [])) 55 1
    (turned_away (live_1 ++ live_1 ++ patch 8 (8 ∷ []) live_2) 55 2
    -- 56 against the one standing, and against no other
    (turned_away (live_1 ++ other_1) 56 1
    (turned_away (gone_1 ++ other_gone_1) 56 1
    (turned_away (live_1 ++ live_1 ++ other_1) 56 2
    (turned_away (live_1 ++ other_1 ++ live_2) 56 1
    (chosen (live_1 ++ live_2 ++ other_1) 1 47 live_2
    (chosen (live_1 ++ gone_1 ++ other_1) 1 47 gone_1
    (chosen (live_2 ++ live_1 ++ other_1) 0 0 live_2
    -- 54: no byte; 3 bytes; a length of 4, of 11, of 12 with its 12 bytes, one past the end, and with all of the next record
    (turned_away [] 54 0
    (turned_away (0 ∷ 0 ∷ 0 ∷ []) 54 0
    (turned_away (0 ∷ 0 ∷ 0 ∷ 4 ∷ []) 54 0
    (turned_away (but 3 (11 ∷ [])) 54 0
    (turned_away (0 ∷ 0 ∷ 0 ∷ 12 ∷ 1 ∷ 0 ∷ 0 ∷ 0 ∷ 7 ∷ 0 ∷ 1 ∷ 0 ∷ []) 54 0
    (turned_away (but 3 (48 ∷ [])) 54 0
    (turned_away (but 3 (94 ∷ []) ++ live_1) 54 0
    -- one byte fewer than the model has, and one more with it: the model's length is not the bytes behind the wrapper
    (turned_away (but 3 (46 ∷ [])) 54 0
    (turned_away (but 3 (48 ∷ []) ++ (0 ∷ [])) 54 0
    -- versions 0 and 2, flags 2 and 255
    (turned_away (but 4 (0 ∷ [])) 54 0
    (turned_away (but 4 (2 ∷ [])) 54 0
    (turned_away (but 11 (2 ∷ [])) 54 0
    (turned_away (but 11 (255 ∷ [])) 54 0
    -- the model's own refusals: 1, 3, 4, 5, 6, 7; and of version 2 none, 2, 51, 52, 53
    (turned_away (but 15 (36 ∷ [])) 54 0
    (turned_away (but 17 (9 ∷ [])) 54 0
    (turned_away (patch 15 (36 ∷ []) (but 3 (48 ∷ [])) ++ (0 ∷ [])) 54 0
    (turned_away (but 27 (1 ∷ [])) 54 0
    (turned_away (but 32 (1 ∷ [])) 54 0
    (turned_away (but 42 (1 ∷ [])) 54 0
    (chosen_of 49 newer 0 0 newer
    (turned_away (patch 16 (255 ∷ []) newer) 54 0
    (turned_away (patch 22 (5 ∷ []) newer) 54 0
    (turned_away (patch 23 (0 ∷ 1 ∷ 0 ∷ 2 ∷ []) newer) 54 0
    (turned_away (patch 48 (1 ∷ []) newer) 54 0
    (chosen_of 50 wide 0 0 wide
    (turned_away (patch 49 (0 ∷ []) wide) 54 0
    (turned_away (patch 49 (3 ∷ []) wide) 54 0
    -- after a good start: 1 byte and 4 bytes left, a flag, a length past the end
    (turned_away (live_1 ++ (0 ∷ [])) 54 1
    (turned_away (live_1 ++ live_2 ++ (0 ∷ 0 ∷ 0 ∷ 12 ∷ [])) 54 2
    (turned_away (live_1 ++ patch 11 (2 ∷ []) live_2) 54 1
    (turned_away (live_1 ++ live_2 ++ but 3 (48 ∷ [])) 54 2
    -- 54 before 55 at one record; 55 and 56 at a record before 54 at the next
    (turned_away (live_1 ++ patch 8 (8 ∷ []) (but 11 (2 ∷ []))) 54 1
    (turned_away (live_1 ++ but 8 (8 ∷ []) ++ (0 ∷ [])) 55 1
    (turned_away (live_1 ++ other_1 ++ (0 ∷ [])) 56 1
    -- 56 at a record before 55 at the next
    (turned_away (live_1 ++ other_1 ++ patch 8 (8 ∷ []) live_2) 56 1
    [])))))))))))))))))))))))))))))))))))))))))))))))))))))))))))))

-- the rules say so
pub wrapped_pairs : Right pairs
unfolding every
wrapped_pairs = refl

pub wrapped_files : Right files
unfolding every
wrapped_files = refl
