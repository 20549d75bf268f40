-- Writing at a position: what a private writer answers and leaves, and the parts of a line that it writes.
-- Assumes nothing.
use Rattle.std.specs.Prelude.{ℕ, ◌+◌, List, [], ◌∷◌, ◌++◌, ◌≡◌, length}
use Rattle.std.proofs.lemmas.List.Edits.{sets}
use Rattle.schedule.specs.Answers.{Answer, accepted, refused, Written}
use Rattle.schedule.specs.Plan.{plan}
use Rattle.schedule.specs.Lines.{decimal, tick_line}

-- the text stored from the position on, and the position behind it
pub record Appended (at : ℕ) (text old : List ℕ) (next : ℕ) (new : List ℕ) : Type 0 where
  pub moved : next ≡ at + length text
  pub stored : new ≡ sets old at text

-- a number in decimal, and the byte that ends it
unfoldable pub number : ℕ → ℕ → List ℕ
number n end = decimal n ++ (end ∷ [])

-- how many ticks are printed: the plan's, where the run is accepted
unfoldable pub ticks_of : Answer Written → List ℕ → ℕ
ticks_of (accepted w) s = (plan s).horizon
ticks_of (refused x) s = 0

-- the word of a tick in a plan's bytes, and the tick's line
unfoldable pub word_of : List ℕ → ℕ → ℕ
word_of s t = (plan s).word t

unfoldable pub tick_text : List ℕ → ℕ → List ℕ
tick_text s t = tick_line t (word_of s t)

-- how long it is, whatever the word
abbrev pub tick_length : ℕ → ℕ
tick_length t = length (decimal t) + 10
