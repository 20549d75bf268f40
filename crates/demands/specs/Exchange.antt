-- "Withdrawn pages" (U6 of 02), as statements about every list of records and every file: which one stands, what is said of
-- those passed over, and where a refusal comes from. The theorems speak of ranks and places, and of no walk along the file.
-- Assumes nothing.
use Rattle.std.specs.Prelude.{ℕ, ◌≤◌, ◌<◌, List, [], ◌⊎◌, ◌↔◌, ◌≡◌, length, take, drop}
use Rattle.schedule.specs.Bounded.{chain}
use Rattle.schedule.specs.Fields.{field}
use Rattle.schedule.specs.Rule.{Refusal, AllHold}
use Rattle.schedule.specs.Answers.{accepted, refused, MeetsForm}
use Rattle.schedule.specs.Exchange.{series, issue, withdrawn, wrapper_form, Outranks, standing, record_at, Part}
use Rattle.schedule.specs.Exchange.{both_of, pair_answer, pair_bytes, pair_part, records_of, offset_in, file_answer, file_bytes}
use Rattle.schedule.specs.Numbers.{wrap_number}
use Rattle.schedule.specs.Retired.{NoCaseRetired, AnswerNotRetired}

-- ---- records in a list

-- Record r stands among the first k: "outranked by none" of them, and the first of the greatest, since it outranks those before
-- it.
pub record StandsAmong (ws : List (List ℕ)) (k r : ℕ) : Type 0 where
  pub among : r < k
  pub by_none : (j : ℕ) → j < k → ¬ Outranks (record_at ws j) (record_at ws r)
  pub first : (j : ℕ) → j < r → Outranks (record_at ws r) (record_at ws j)

-- among any number of records one stands, and one only; before record 0 there is none
abbrev pub OneAmong : Type 0
OneAmong = (ws : List (List ℕ)) (k : ℕ) → 0 < k
    → (r : ℕ) × (StandsAmong ws k r × ((s : ℕ) → StandsAmong ws k s → s ≡ r))

-- a record is right: its wrapper's length, version and flag, and the form rules of its model
abbrev pub IsRight : List ℕ → Type 0
IsRight w = AllHold (wrapper_form w)

-- Record k is taken: it is right, of one series with the one that stands among those before it, and equal to that one where
-- issue and flag are equal.
pub record Taken (ws : List (List ℕ)) (k : ℕ) : Type 0 where
  pub right : IsRight (record_at ws k)
  pub of_one_series : (r : ℕ) → StandsAmong ws k r → series (record_at ws k) ≡ series (record_at ws r)
  pub copies : (r : ℕ) → StandsAmong ws k r
      → issue (record_at ws k) ≡ issue (record_at ws r) → withdrawn (record_at ws k) ≡ withdrawn (record_at ws r)
      → record_at ws k ≡ record_at ws r

-- Record r is chosen: every record is taken, and r stands among all.
pub record IsChosen (ws : List (List ℕ)) (r : ℕ) : Type 0 where
  pub taken : (k : ℕ) → k < length ws → Taken ws k
  pub stands : StandsAmong ws (length ws) r

-- what follows for every other record: "outranked by none, and a withdrawn page is passed over only for a higher issue or an
-- equal copy"
pub record PassedOver (x w : List ℕ) : Type 0 where
  pub of_one_series : series w ≡ series x
  pub not_above : ¬ Outranks w x
  pub copies : issue w ≡ issue x → withdrawn w ≡ withdrawn x → w ≡ x
  pub withdrawn_only_for : withdrawn w ≡ 1 → (issue w < issue x) ⊎ (w ≡ x)

-- Why record k is turned away: there is none, 54; it is not right, 54; or it is right, and 55 or 56 against the one that stands
-- among those before it.
pub data TurnedAway (ws : List (List ℕ)) (k number : ℕ) : Type 0 where
  nothing : number ≡ 54 → k ≡ 0 → length ws ≡ 0 → TurnedAway ws k number
  wrapper : number ≡ 54 → k < length ws → ¬ IsRight (record_at ws k) → TurnedAway ws k number
  two_series : number ≡ 55 → k < length ws → IsRight (record_at ws k) → (r : ℕ) → StandsAmong ws k r
      → ¬ (series (record_at ws k) ≡ series (record_at ws r)) → TurnedAway ws k number
  other_bytes : number ≡ 56 → k < length ws → IsRight (record_at ws k) → (r : ℕ) → StandsAmong ws k r
      → series (record_at ws k) ≡ series (record_at ws r) → issue (record_at ws k) ≡ issue (record_at ws r)
      → withdrawn (record_at ws k) ≡ withdrawn (record_at ws r) → ¬ (record_at ws k ≡ record_at ws r)
      → TurnedAway ws k number

-- The list is refused: "stop at the first refusal", so those before A are taken.
pub record IsRefused (ws : List (List ℕ)) (x : Refusal) : Type 0 where
  pub taken : (k : ℕ) → k < x.A → Taken ws k
  pub turned_away : TurnedAway ws x.A x.number
  pub no_column : x.B ≡ 0

-- of every list of records, of which a pair is one and a file another
abbrev pub OneStands : Type 0
OneStands = (ws : List (List ℕ))
    → ((r : ℕ) → (standing ws ≡ accepted r) ↔ IsChosen ws r)
    × ((x : Refusal) → (standing ws ≡ refused x) ↔ IsRefused ws x)

-- and of every record of a list of which one is chosen
abbrev pub OthersPassedOver : Type 0
OthersPassedOver = (ws : List (List ℕ)) (r : ℕ) → standing ws ≡ accepted r
    → (k : ℕ) → k < length ws → PassedOver (record_at ws r) (record_at ws k)

-- ---- a pair

-- what the two calls on a pair say is one thing: the first where it stands, the second where it does, or nothing
pub record PairAnswers (x y : List ℕ) : Type 0 where
  pub first : pair_answer x y ≡ accepted 0 → pair_bytes x y ≡ x
  pub second : pair_answer x y ≡ accepted 1 → pair_bytes x y ≡ y
  pub no_other : (r : ℕ) → pair_answer x y ≡ accepted r → r < 2
  pub nothing : (z : Refusal) → pair_answer x y ≡ refused z → pair_bytes x y ≡ []
  pub stands : (r : ℕ) → (pair_answer x y ≡ accepted r) ↔ IsChosen (both_of x y) r
  pub turned_away : (z : Refusal) → (pair_answer x y ≡ refused z) ↔ IsRefused (both_of x y) z

abbrev pub PairsAreAnswered : Type 0
PairsAreAnswered = (x y : List ℕ) → PairAnswers x y

-- ---- records in a file

-- what stands at a place of a file is a record: its length is readable, 12 or more and not past the end, its version and its
-- flag are right, and its model, all that is behind the 12 bytes, meets its form rules; that its length is readable follows from
-- the two below it
pub record BeginsRecord (f : List ℕ) : Type 0 where
  pub readable : 4 ≤ length f
  pub long_enough : 12 ≤ field f 0 4
  pub in_file : field f 0 4 ≤ length f
  pub version : field f 4 1 ≡ 1
  pub flag : field f 11 1 ≤ 1
  pub model : MeetsForm (drop 12 (take (field f 0 4) f))

-- "A file holds wrapped records end to end": of every file, its records join to it, each begins where those before it end, and
-- is right exactly where a record begins
pub record HoldsRecords (f : List ℕ) (ws : List (List ℕ)) : Type 0 where
  pub joined : chain (length ws) (record_at ws) ≡ f
  pub lies : (k : ℕ) → k < length ws → record_at ws k ≡ take (length (record_at ws k)) (drop (offset_in ws k) f)
  pub right : (k : ℕ) → k < length ws → IsRight (record_at ws k) ↔ BeginsRecord (drop (offset_in ws k) f)

abbrev pub FilesHoldRecords : Type 0
FilesHoldRecords = (f : List ℕ) → HoldsRecords f (records_of f)

-- no other records do: those that are right and join to a file are its records
abbrev pub NoOtherRecords : Type 0
NoOtherRecords = (ws : List (List ℕ)) → ((k : ℕ) → k < length ws → IsRight (record_at ws k))
    → records_of (chain (length ws) (record_at ws)) ≡ ws

-- what the two calls on a file answer: the number of the one that stands, where it begins and how long it is, and its bytes,
-- which are those of the file there; or the refusal, and nothing
pub record FileAnswers (f : List ℕ) : Type 0 where
  pub chosen : (x : Part) → file_answer f ≡ accepted x → IsChosen (records_of f) x.index
  pub offset : (x : Part) → file_answer f ≡ accepted x → x.offset ≡ offset_in (records_of f) x.index
  pub size : (x : Part) → file_answer f ≡ accepted x → x.length ≡ length (record_at (records_of f) x.index)
  pub bytes : (x : Part) → file_answer f ≡ accepted x → file_bytes f ≡ record_at (records_of f) x.index
  pub in_file : (x : Part) → file_answer f ≡ accepted x → file_bytes f ≡ take x.length (drop x.offset f)
  pub turned_away : (x : Refusal) → file_answer f ≡ refused x → IsRefused (records_of f) x
  pub nothing : (x : Refusal) → file_answer f ≡ refused x → file_bytes f ≡ []

abbrev pub FilesAreChosen : Type 0
FilesAreChosen = (f : List ℕ) → FileAnswers f

-- ---- the number that is out of the book

-- 24 "is never used again" (U11 of 02): no kind of refusal of wrapped records has it, and no pair and no file is answered with it
pub record WrappedNever : Type 0 where
  pub kinds : NoCaseRetired wrap_number
  pub pair : (x y : List ℕ) → AnswerNotRetired (pair_answer x y)
  pub part_of_pair : (x y : List ℕ) → AnswerNotRetired (pair_part x y)
  pub file : (f : List ℕ) → AnswerNotRetired (file_answer f)
