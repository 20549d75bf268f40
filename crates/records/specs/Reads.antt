-- What the readers' answers say in the paper's numbers, what a row of a rule answers, and the first break of the rules that
-- name no row.
-- Assumes nothing.
use Rattle.std.specs.Prelude.{ℕ, Bool, ◌&&◌, cond, List, eqb, leb, length, Result, Ok, Err}
use Rattle.std.proofs.Math.Option.{Option, some, none}
use Rattle.schedule.specs.Fields.{field}
use Rattle.schedule.specs.Records.{within}
use Rattle.schedule.specs.Rule
use Rattle.schedule.specs.Rule.{Rule}
use Rattle.schedule.specs.Answers.{Answer, accepted, refused}
use Rattle.schedule.specs.Numbers.{form_number, refusal_numbers}
use Rattle.schedule.specs.declared.FormRefusal.{FormRefusal}
use Rattle.schedule.specs.declared.Refusal.{Refusal}
use Rattle.records.specs.declared.form.Names.{Names}
use Rattle.records.specs.declared.rows.Row.{Row}
use Rattle.records.specs.declared.model.Sizes.{Sizes}
use Rattle.records.specs.Rows.{counts_hold}

-- a refusal that names row A alone
abbrev pub refusal_in : ℕ → ℕ → Rule.Refusal
refusal_in number a = record { number = number; A = a; B = 0 }

-- the refusal of an answer
abbrev pub refusal_of : {F : Type 0} → Answer F → Option Rule.Refusal
refusal_of (accepted row) = none
refusal_of (refused x) = some x

-- what one rule, or several in their order, answer: "Each number is tried over all its rows before the next"
abbrev pub pass_numbers : Result (Unit {0}) Refusal → Option Rule.Refusal
pass_numbers (Ok _) = none
pass_numbers (Err x) = some (refusal_numbers x)

-- ---- a row

-- the row where the test passed, else the refusal of a number at row a
abbrev pub answer_at : {F : Type 0} → Bool → F → ℕ → ℕ → Answer F
answer_at t row number a = cond t (accepted row) (refused (refusal_in number a))

-- what row a of a rule with no columns answers
unfoldable pub row_answer : {F : Type 0} → Rule → ℕ → F → Answer F
row_answer r a row = answer_at (r.test a 0) row r.number a

abbrev pub row_read_numbers : Result Row Refusal → Answer Row
row_read_numbers (Ok row) = accepted row
row_read_numbers (Err x) = refused (refusal_numbers x)

-- ---- the rules that name no row

-- a rule that names no row, before the rest
abbrev pub pick : Bool → ℕ → Option Rule.Refusal → Option Rule.Refusal
pick t number rest = cond t rest (some (refusal_in number 0))

-- the test of a record's length
abbrev pub sized : ℕ → List ℕ → Bool
sized k s = leb k (length s) && eqb (field s 0 4) (length s)

-- the four rules that come first in a record, with its newest version, the test of its counts and the length that its formula
-- gives
unfoldable pub head_break : List ℕ → Names → ℕ → ℕ → Bool → ℕ → Option Rule.Refusal
head_break s names least newest counts wanted =
    pick (sized least s) (form_number names.size)
    (pick (within 1 newest (field s 4 1)) (form_number names.version)
    (pick counts (form_number names.counts)
    (pick (eqb (field s 0 4) wanted) (form_number names.formula) none)))

-- rules 1 to 4, by name
abbrev pub model_names : Names
model_names = record {
  size = FormRefusal.ModelSize;
  version = FormRefusal.ModelVersion;
  counts = FormRefusal.ModelLimits;
  formula = FormRefusal.ModelFormula;
}

-- rules 8 to 11, by name
abbrev pub second_names : Names
second_names = record {
  size = FormRefusal.SecondSize;
  version = FormRefusal.SecondVersion;
  counts = FormRefusal.SecondCounts;
  formula = FormRefusal.SecondFormula;
}

-- rules 8 to 11 of the bytes r of a choice or a plan beside the bytes s of a model
abbrev pub second_head : List ℕ → List ℕ → ℕ → Bool → ℕ → Option Rule.Refusal
second_head s r least same-horizon wanted = head_break r second_names least 1 (same-horizon && counts_hold s r) wanted

-- ---- the model

abbrev pub model_read_numbers : Result Sizes Refusal → Answer Sizes
model_read_numbers (Ok sizes) = accepted sizes
model_read_numbers (Err x) = refused (refusal_numbers x)
