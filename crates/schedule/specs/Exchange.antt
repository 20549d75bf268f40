-- "Withdrawn pages" (U6 of 02): models wrapped for exchange, which of two wrapped records stands, and which one of a file.
-- Assumes nothing.
use Rattle.std.specs.Prelude.{ℕ, zero, suc, ◌+◌, ◌≤◌, ◌<◌, Bool, true, false, ◌&&◌, ◌||◌, cond, List, [], ◌∷◌, ◌⊎◌, ◌≡◌, eqb, leb, ltb, length, get_or, take, drop}
use Rattle.std.proofs.Math.Option.{Option, some, none}
use Rattle.std.specs.Borrow.{Bor}
use Rattle.schedule.specs.Bounded.{total, ◌⇒◌}
use Rattle.schedule.specs.Fields.{field}
use Rattle.schedule.specs.Rule.{Rule, Refusal, first_break, AllHold}
use Rattle.schedule.specs.Records.{within, length_rule, version_rule}
use Rattle.schedule.specs.Lent.{LiesAt}
use Rattle.schedule.specs.Model.{model_form}
use Rattle.schedule.specs.Answers.{Answer, accepted, refused}

-- ---- a wrapped record

-- "4-byte length, version byte 1, series (4 bytes), issue (2), withdrawn (0 or 1), then the model record"
abbrev pub series : List ℕ → ℕ
series w = field w 5 4

abbrev pub issue : List ℕ → ℕ
issue w = field w 9 2

abbrev pub withdrawn : List ℕ → ℕ
withdrawn w = field w 11 1

abbrev pub wrapper_length : ℕ
wrapper_length = 12

abbrev pub wrapped : List ℕ → List ℕ
wrapped w = drop wrapper_length w

-- withdrawn is 0 or 1
unfoldable pub flag_rule : List ℕ → Rule
flag_rule w = record {
  number = 54;
  rows = 1;
  columns = 1;
  Holds = λ _ _. withdrawn w ≤ 1;
  test = λ _ _. leb (withdrawn w) 1;
}

-- what a wrapped record keeps: its length, which is 12 at least and the bytes given, its version, its flag, and the form rules
-- of the model in it
unfoldable pub wrapper_form : List ℕ → List Rule
wrapper_form w = length_rule 54 wrapper_length w ∷ version_rule 54 1 w ∷ flag_rule w ∷ model_form (wrapped w)

-- ---- what is tried of a record

-- no rule was broken
abbrev pub unbroken : Option Refusal → Bool
unbroken none = true
unbroken (some x) = false

-- 54: "a wrapper whose length .., version or flag is wrong or whose model is refused", whichever of these it is
unfoldable pub wrapper_rule : List ℕ → Rule
wrapper_rule w = record {
  number = 54;
  rows = 1;
  columns = 1;
  Holds = λ _ _. AllHold (wrapper_form w);
  test = λ _ _. unbroken (first_break (wrapper_form w));
}

-- 55: "two series"
unfoldable pub series_rule : List ℕ → List ℕ → Rule
series_rule x w = record {
  number = 55;
  rows = 1;
  columns = 1;
  Holds = λ _ _. series w ≡ series x;
  test = λ _ _. eqb (series w) (series x);
}

-- two byte strings are equal
unfoldable pub same : List ℕ → List ℕ → Bool
same [] [] = true
same [] (b ∷ y) = false
same (a ∷ x) [] = false
same (a ∷ x) (b ∷ y) = eqb a b && same x y

-- 56: "equal series, issue and flag with other bytes"
unfoldable pub copy_rule : List ℕ → List ℕ → Rule
copy_rule x w = record {
  number = 56;
  rows = 1;
  columns = 1;
  Holds = λ _ _. series w ≡ series x → issue w ≡ issue x → withdrawn w ≡ withdrawn x → w ≡ x;
  test = λ _ _.
      (eqb (series w) (series x) && (eqb (issue w) (issue x) && eqb (withdrawn w) (withdrawn x))) ⇒ same w x;
}

-- what record w is tried by beside x, the one standing so far: 54, "then 55 .. then 56"
abbrev pub record_rules : List ℕ → List ℕ → List Rule
record_rules x w = wrapper_rule w ∷ series_rule x w ∷ copy_rule x w ∷ []

-- ---- which one stands

-- "the higher issue stands; at equal issue the withdrawn one stands over the live one": x outranks y
abbrev pub Outranks : List ℕ → List ℕ → Type 0
Outranks x y = (issue y < issue x) ⊎ ((issue y ≡ issue x) × (withdrawn y < withdrawn x))

unfoldable pub outranks : List ℕ → List ℕ → Bool
outranks x y = ltb (issue y) (issue x) || (eqb (issue y) (issue x) && ltb (withdrawn y) (withdrawn x))

-- a refusal at record k: "A the record tried, from 0"
abbrev pub at_record : ℕ → Refusal → Refusal
at_record k x = record { number = x.number; A = k; B = 0 }

-- The records from number k on, "each against the one standing so far", which is x, number r; "stop at the first refusal".
-- One that does not outrank x leaves it standing, so that it is "the first where both are equal".
unfoldable pub along : ℕ → ℕ → List ℕ → List (List ℕ) → Answer ℕ
along k r x [] = accepted r
along k r x (w ∷ ws) = elim (first_break (record_rules x w)) [
  | some broken ↦ refused (at_record k broken)
  | none ↦ elim (outranks w x) [ true ↦ along (k + 1) k w ws | false ↦ along (k + 1) r x ws ]
]

-- the number of the record that stands, of records one after the other; 54 for none
unfoldable pub standing : List (List ℕ) → Answer ℕ
standing [] = refused (record { number = 54; A = 0; B = 0 })
standing (w ∷ ws) = elim (first_break (wrapper_rule w ∷ [])) [
  | some broken ↦ refused (at_record 0 broken)
  | none ↦ along 1 0 w ws
]

-- record k of a list
abbrev pub record_at : List (List ℕ) → ℕ → List ℕ
record_at ws k = get_or ws k []

-- "Hand back the one that stands .. a refusal hands back an empty part"
unfoldable pub handed_back : List (List ℕ) → Answer ℕ → List ℕ
handed_back ws (accepted r) = record_at ws r
handed_back ws (refused x) = []

-- a part of the caller's bytes: the record's number, where its first byte stands, and how many bytes it has
pub record Part : Type 0 where
  pub index : ℕ
  pub offset : ℕ
  pub length : ℕ

-- the part of record r, where it is known where each record begins
abbrev pub part_of : (ℕ → ℕ) → List (List ℕ) → ℕ → Part
part_of offset ws r = record { index = r; offset = offset r; length = length (record_at ws r) }

-- the same answer with the part in the place of the number
unfoldable pub placed : (ℕ → ℕ) → List (List ℕ) → Answer ℕ → Answer Part
placed offset ws (accepted r) = accepted (part_of offset ws r)
placed offset ws (refused x) = refused x

-- ---- a pair: "in a pair" the length is "the bytes given"

abbrev pub both_of : List ℕ → List ℕ → List (List ℕ)
both_of x y = x ∷ y ∷ []

-- which one stands, 0 for the first and 1 for the second
unfoldable pub pair_answer : List ℕ → List ℕ → Answer ℕ
pair_answer x y = standing (both_of x y)

unfoldable pub pair_bytes : List ℕ → List ℕ → List ℕ
pair_bytes x y = handed_back (both_of x y) (pair_answer x y)

-- "Hand back the one that stands as the caller's own bytes": of two lent slices x and y, slice r is the very one that an answer
-- names, by where it lies and not only by what it holds; "a refusal hands back an empty part", at the beginning of x
abbrev pub HandsBack : Answer ℕ → Bor (List ℕ) → Bor (List ℕ) → Bor (List ℕ) → Type 0
HandsBack (accepted k) x y r = r ≡ cond (eqb k 0) x y
HandsBack (refused z) x y r = (r.now ≡ []) × LiesAt x 0 r

-- the part of its own argument: each begins at 0
unfoldable pub pair_part : List ℕ → List ℕ → Answer Part
pair_part x y = placed (λ _. 0) (both_of x y) (pair_answer x y)

-- ---- a file: "wrapped records end to end"

-- Where the first record of what is left ends: behind as many bytes as its length says, where that is 12 at least and not past
-- the end; otherwise it is all that is left, which 54 then refuses. With fewer than 4 bytes left the length is never both.
unfoldable pub record_end : List ℕ → ℕ
record_end f = cond (within wrapper_length (length f) (field f 0 4)) (field f 0 4) (length f)

-- the first k records of what is left, or all where there are fewer
unfoldable pub cut_into : ℕ → List ℕ → List (List ℕ)
cut_into zero f = []
cut_into (suc k) [] = []
cut_into (suc k) (b ∷ f) = take (record_end (b ∷ f)) (b ∷ f) ∷ cut_into k (drop (record_end (b ∷ f)) (b ∷ f))

-- the records of a file: no more than it has bytes
unfoldable pub records_of : List ℕ → List (List ℕ)
records_of f = cut_into (length f) f

-- a record begins behind those before it
abbrev pub offset_in : List (List ℕ) → ℕ → ℕ
offset_in ws k = total k (λ j. length (record_at ws j))

unfoldable pub file_answer : List ℕ → Answer Part
file_answer f = placed (offset_in (records_of f)) (records_of f) (standing (records_of f))

unfoldable pub file_bytes : List ℕ → List ℕ
file_bytes f = handed_back (records_of f) (standing (records_of f))

-- where the part that is handed back begins in the file: where its record does, and an empty one at 0
abbrev pub handed_from : Answer Part → ℕ
handed_from (accepted x) = x.offset
handed_from (refused z) = 0
