-- What a call that prints into a lent buffer answers and leaves: the text whole at the front, or nothing.
-- Assumes nothing.
use Rattle.std.specs.Prelude.{ℕ, cond, List, ◌++◌, leb, length, drop}

-- the length answered, and the whole buffer
pub record Printed : Type 0 where
  pub count : ℕ
  pub buffer : List ℕ

abbrev pub leaves : ℕ → List ℕ → Printed
leaves r out = record { count = r; buffer = out }

-- the text at the front and its length, where it fits; else 0 and the buffer as it was
unfoldable pub printed : List ℕ → List ℕ → Printed
printed text old =
    cond (leb (length text) (length old)) (leaves (length text) (text ++ drop (length text) old)) (leaves 0 old)
