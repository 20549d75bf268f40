-- The activities whose window is open at a tick.
-- Assumes nothing.
use Rattle.std.specs.Prelude.{ℕ, ◌&&◌, not, List, leb, ltb, get_or}
use Rattle.schedule.specs.Bounded.{bit, word_of}

-- the windows that are open at tick t, from tables of the ticks from which and before which they are
unfoldable pub open_of : ℕ → List ℕ → List ℕ → ℕ → ℕ
open_of n froms ends t = word_of n (λ a. leb (get_or froms a 0) t && ltb t (get_or ends a 0))

-- the bits of a word that are not in another
unfoldable pub without : ℕ → ℕ → ℕ
without word other = word_of 32 (λ a. bit word a && not (bit other a))
