-- The machine as it was before U7 of 02, when every activity took one core. What a state is, who is ready, who ranks before whom,
-- and what a word does to a state are those of crate schedule, Machine, which the request leaves as they were.
-- Assumes nothing.
use Rattle.std.specs.Prelude.{ℕ, zero, suc, Bool, ◌&&◌, ltb}
use Rattle.schedule.specs.Bounded.{count, lowest, bit, word_of}
use Rattle.schedule.specs.Model.{Model}
use Rattle.schedule.specs.Machine.{State, owes, end_of, ready, before, initial, step}

-- a's place in the ranking, from 0: how many of the ready rank before it
unfoldable pub rank : Model → (ℕ → Bool) → ℕ → ℕ
rank m rdy a = count m.activities (λ b. rdy b && before m b a)

-- "The first c, or all if fewer": a is ready, and its place in the ranking is below c
unfoldable pub selected : Model → (ℕ → Bool) → ℕ → Bool
selected m rdy a = rdy a && ltb (rank m rdy a) m.cores

-- "are the word's bits"
unfoldable pub word_at : Model → (ℕ → ℕ) → ℕ → State → ℕ
word_at m release t s = word_of m.activities (selected m (ready m release t s))

-- the state at tick t, its word, and what the machine makes of an activity
unfoldable pub state_at : Model → (ℕ → ℕ) → (ℕ → ℕ) → ℕ → State
state_at m release duration zero = initial m duration
state_at m release duration (suc t) =
    let s : State = state_at m release duration t in
    step m t (word_at m release t s) s

unfoldable pub machine_word : Model → (ℕ → ℕ) → (ℕ → ℕ) → ℕ → ℕ
machine_word m release duration t = word_at m release t (state_at m release duration t)

unfoldable pub machine_start : Model → (ℕ → ℕ) → (ℕ → ℕ) → ℕ → ℕ
machine_start m release duration a = lowest m.horizon (λ t. bit (machine_word m release duration t) a)

unfoldable pub machine_end : Model → (ℕ → ℕ) → (ℕ → ℕ) → ℕ → ℕ
machine_end m release duration a = end_of (state_at m release duration m.horizon) a

unfoldable pub machine_owes : Model → (ℕ → ℕ) → (ℕ → ℕ) → ℕ → ℕ
machine_owes m release duration a = owes (state_at m release duration m.horizon) a
