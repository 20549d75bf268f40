-- What is handed back of lent bytes: not what a part holds alone, but where it lies.
-- Assumes nothing.
use Rattle.std.specs.Prelude.{ℕ, ◌+◌, List, ◌≡◌}
use Rattle.std.specs.Borrow.{Bor}

-- "handed back as a part of the caller's bytes": slice r begins at byte `from` of slice s, in the same memory. How many bytes it
-- has is the length of what it holds.
abbrev pub LiesAt : Bor (List ℕ) → ℕ → Bor (List ℕ) → Type 0
LiesAt s from r = r.ref_ptr ≡ (s.ref_ptr.0, from + s.ref_ptr.1)
