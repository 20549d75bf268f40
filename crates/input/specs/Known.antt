-- What reading into a lent buffer says of a reader's end, where the reader's bytes are known. Assumes nothing.
use Rattle.std.specs.Prelude.{ℕ, ◌<◌, List, ◌≡◌, ⊤, Option, Result, Ok, Err}
use Rattle.std.specs.Io.KnownBytes.{IsAtEnd}
use Rattle.input.specs.declared.FillError.{FillError}

-- a buffer that bytes did not fill, with no read that failed, has all that was left
abbrev pub AllWhereShort : Result ℕ FillError → ℕ → Option (List ℕ) → Type 0
AllWhereShort (Ok n) size left = n < size → IsAtEnd left
AllWhereShort (Err e) size left = ⊤

-- one read that brings nothing behind those that came, and does not fail, is at the end
abbrev pub AllWhereSame : ℕ → Result ℕ FillError → Option (List ℕ) → Type 0
AllWhereSame done (Ok n) left = n ≡ done → IsAtEnd left
AllWhereSame done (Err e) left = ⊤
