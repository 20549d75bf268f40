-- What was answered about wrapped records before U7 of 02: 54 tried the model in a wrapper by the form rules as they were. The
-- wrapper itself, 55, 56, who outranks whom, the records of a file and what is handed back are today's.
-- Assumes nothing.
use Rattle.std.specs.Prelude.{ℕ, ◌+◌, true, false, List, [], ◌∷◌}
use Rattle.std.proofs.Math.Option.{some, none}
use Rattle.schedule.specs.Rule.{Rule, first_break, AllHold}
use Rattle.schedule.specs.Records.{length_rule, version_rule}
use Rattle.schedule.specs.Answers.{Answer, accepted, refused}
use Rattle.schedule.specs.Exchange.{wrapper_length, wrapped, flag_rule, unbroken, series_rule, copy_rule, outranks, at_record}
use Rattle.schedule.specs.Exchange.{handed_back, Part, placed, both_of, records_of, offset_in}
use Rattle.demands.specs.FormerForm.{model_form}

-- what a wrapped record kept: its length, its version, its flag, and the former form rules of the model in it
unfoldable pub wrapper_form : List ℕ → List Rule
wrapper_form w = length_rule 54 wrapper_length w ∷ version_rule 54 1 w ∷ flag_rule w ∷ model_form (wrapped w)

-- 54: "a wrapper whose length .., version or flag is wrong or whose model is refused"
unfoldable pub wrapper_rule : List ℕ → Rule
wrapper_rule w = record {
  number = 54;
  rows = 1;
  columns = 1;
  Holds = λ _ _. AllHold (wrapper_form w);
  test = λ _ _. unbroken (first_break (wrapper_form w));
}

-- what record w was tried by beside x, the one standing so far
abbrev pub record_rules : List ℕ → List ℕ → List Rule
record_rules x w = wrapper_rule w ∷ series_rule x w ∷ copy_rule x w ∷ []

-- the records from number k on, "each against the one standing so far", which is x, number r
unfoldable pub along : ℕ → ℕ → List ℕ → List (List ℕ) → Answer ℕ
along k r x [] = accepted r
along k r x (w ∷ ws) = elim (first_break (record_rules x w)) [
  | some broken ↦ refused (at_record k broken)
  | none ↦ elim (outranks w x) [ true ↦ along (k + 1) k w ws | false ↦ along (k + 1) r x ws ]
]

-- the number of the record that stood, of records one after the other; 54 for none
unfoldable pub standing : List (List ℕ) → Answer ℕ
standing [] = refused (record { number = 54; A = 0; B = 0 })
standing (w ∷ ws) = elim (first_break (wrapper_rule w ∷ [])) [
  | some broken ↦ refused (at_record 0 broken)
  | none ↦ along 1 0 w ws
]

-- ---- a pair: which one stood, the part of its own argument, and the bytes handed back

unfoldable pub pair_answer : List ℕ → List ℕ → Answer ℕ
pair_answer x y = standing (both_of x y)

unfoldable pub pair_part : List ℕ → List ℕ → Answer Part
pair_part x y = placed (λ _. 0) (both_of x y) (pair_answer x y)

unfoldable pub pair_bytes : List ℕ → List ℕ → List ℕ
pair_bytes x y = handed_back (both_of x y) (pair_answer x y)

-- ---- a file: the part of it, and the bytes handed back

unfoldable pub file_answer : List ℕ → Answer Part
file_answer f = placed (offset_in (records_of f)) (records_of f) (standing (records_of f))

unfoldable pub file_bytes : List ℕ → List ℕ
file_bytes f = handed_back (records_of f) (standing (records_of f))
