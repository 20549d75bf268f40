-- What every record has: a length, a version, and a formula for its length. The three rules of that, and limits of a number.
-- Assumes nothing.
use Rattle.std.specs.Prelude.{ℕ, ◌≤◌, Bool, ◌&&◌, List, ◌≡◌, eqb, leb, length}
use Rattle.schedule.specs.Fields.{field}
use Rattle.schedule.specs.Rule.{Rule}

-- low ≤ x ≤ high
abbrev pub Within : ℕ → ℕ → ℕ → Type 0
Within low high x = (low ≤ x) × (x ≤ high)

abbrev pub within : ℕ → ℕ → ℕ → Bool
within low high x = leb low x && leb x high

-- "Each begins with a 4-byte length, counting the whole record with itself": a record of fewer than k bytes, or whose length
-- differs from the bytes given
unfoldable pub length_rule : ℕ → ℕ → List ℕ → Rule
length_rule number k s = record {
  number = number;
  rows = 1;
  columns = 1;
  Holds = λ _ _. (k ≤ length s) × (field s 0 4 ≡ length s);
  test = λ _ _. leb k (length s) && eqb (field s 0 4) (length s);
}

-- "then a version byte, 1", and of a model up to the newest version (02)
unfoldable pub version_rule : ℕ → ℕ → List ℕ → Rule
version_rule number newest s = record {
  number = number;
  rows = 1;
  columns = 1;
  Holds = λ _ _. Within 1 newest (field s 4 1);
  test = λ _ _. within 1 newest (field s 4 1);
}

-- the record's length is what its formula gives
unfoldable pub formula_rule : ℕ → ℕ → List ℕ → Rule
formula_rule number wanted s = record {
  number = number;
  rows = 1;
  columns = 1;
  Holds = λ _ _. field s 0 4 ≡ wanted;
  test = λ _ _. eqb (field s 0 4) wanted;
}
