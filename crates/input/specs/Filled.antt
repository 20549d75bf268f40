-- What reading into a lent buffer says: how many bytes came, and that those behind them are the caller's old ones.
-- Assumes nothing.
use Rattle.std.specs.Prelude.{ℕ, ◌≤◌, List, ◌≡◌, length, drop, Result, Ok, Err}
use Rattle.input.specs.declared.FillError.{FillError}

-- how many bytes came, before the end or before a read failed
abbrev pub came : Result ℕ FillError → ℕ
came (Ok n) = n
came (Err e) = e.read

-- they stand within the buffer, and every byte behind them is as it was
abbrev pub Filled : Result ℕ FillError → List ℕ → List ℕ → Type 0
Filled r old new = (came r ≤ length old) × (drop (came r) new ≡ drop (came r) old)

-- the same of bytes that came behind others
pub record FilledFrom (done : ℕ) (r : Result ℕ FillError) (old new : List ℕ) : Type 0 where
  pub more : done ≤ came r
  pub filled : Filled r old new
