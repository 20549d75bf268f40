-- Where the first of two records ends. Assumes nothing.
use Rattle.std.specs.Prelude.{ℕ, cond, List, length}
use Rattle.schedule.specs.Fields.{field}
use Rattle.schedule.specs.Streams.{splits}

-- the first length L where the bytes split, and all of them otherwise
unfoldable pub cut : List ℕ → ℕ
cut s = cond (splits s) (field s 0 4) (length s)
