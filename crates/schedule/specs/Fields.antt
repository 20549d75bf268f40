-- "Multi-byte fields are big-endian and unsigned": a field of k bytes read from, and written as, a list of bytes.
-- Assumes nothing.
use Rattle.std.specs.Prelude.{ℕ, zero, suc, ◌+◌, ◌*◌, ◌/◌, ◌%◌, ◌<◌, List, [], ◌∷◌, ◌++◌, length, get_or}

-- the k bytes at a position, the first the most significant; a byte past the end counts as 0
unfoldable pub field : List ℕ → ℕ → ℕ → ℕ
field s at zero = 0
field s at (suc k) = field s at k * 256 + get_or s (at + k) 0

-- a number below 256 to the power k as k bytes, the first the most significant
unfoldable pub bytes : ℕ → ℕ → List ℕ
bytes zero v = []
bytes (suc k) v = bytes k (v / 256) ++ (v % 256 ∷ [])

-- a row of two fields of 2 bytes, and where row j of such rows begins that stand from a position on
abbrev pub pair : ℕ → ℕ → List ℕ
pair x y = bytes 2 x ++ bytes 2 y

abbrev pub pair_row : ℕ → ℕ → ℕ
pair_row at j = at + 4 * j

-- a list of numbers is a string of bytes: each is below 256
abbrev pub Bytes : List ℕ → Type 0
Bytes s = (i : ℕ) → i < length s → get_or s i 0 < 256
