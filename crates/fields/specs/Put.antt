-- Bytes written into a list of bytes, whole or not at all.
-- Assumes nothing.
use Rattle.std.specs.Prelude.{ℕ, ◌+◌, cond, List, ◌++◌, leb, length, take, drop}

-- the list with b at a position in the place of what stood there, where b fits; the list as it is where b does not fit
unfoldable pub put : ℕ → List ℕ → List ℕ → List ℕ
put at b l = cond (leb (at + length b) (length l)) (take at l ++ b ++ drop (at + length b) l) l
