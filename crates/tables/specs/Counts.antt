-- Counts of each bit over many words.
-- Assumes nothing.
use Rattle.std.specs.Prelude.{ℕ, ◌+◌, ◌<◌, cond, List, ◌≡◌, length, get_or}
use Rattle.schedule.specs.Bounded.{bit}

-- one more for each activity of a word, in tables before and after
pub record Tallied (word : ℕ) (counts counts' : List ℕ) : Type 0 where
  pub sized : length counts' ≡ 32
  pub one_more : (a : ℕ) → a < 32 → get_or counts' a 0 ≡ get_or counts a 0 + cond (bit word a) 1 0
