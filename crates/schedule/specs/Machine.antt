-- "The run, as a plain machine": its state, ready, rank, the walk that takes what fits, and the plan that its run makes.
-- The machine knows a model, a release for each thread and a duration for each activity; periods play no part in it.
-- Assumes nothing.
use Rattle.std.specs.Prelude.{ℕ, zero, suc, ◌+◌, ◌-◌, Bool, true, false, ◌&&◌, ◌||◌, cond, List, [], ◌∷◌, eqb, leb, ltb, get_or}
use Rattle.schedule.specs.Bounded.{all, table, lowest, bit, word_of, member, ◌⇒◌}
use Rattle.schedule.specs.Model.{Model, priority_of, temporally, by_data}

-- "for each activity the ticks still owed, and its end once nothing is owed"
pub record State : Type 0 where
  pub owed : List ℕ
  pub ends : List ℕ

-- the ticks that activity a still owes
abbrev pub owes : State → ℕ → ℕ
owes s a = get_or s.owed a 0

-- the end of activity a; it means something only where a owes nothing
abbrev pub end_of : State → ℕ → ℕ
end_of s a = get_or s.ends a 0

-- activity b has ended, and its end and a delay have passed by tick t
unfoldable pub ended_by : State → ℕ → ℕ → ℕ → Bool
ended_by s b delay t = eqb (owes s b) 0 && leb (end_of s b + delay) t

-- "ready": a owes something, its thread's release ≤ t, every temporal predecessor has ended with end + that
-- predecessor's delay ≤ t, and every data predecessor has ended with end ≤ t
unfoldable pub ready : Model → (ℕ → ℕ) → ℕ → State → ℕ → Bool
ready m release t s a =
    (ltb 0 (owes s a) && leb (release (m.thread a)) t)
    && (all m.activities (λ b. temporally m b a ⇒ ended_by s b (m.delay b) t)
    && all m.activities (λ b. by_data m b a ⇒ ended_by s b 0 t))

-- b ranks before a: "by priority, highest first, then by lower activity number"
unfoldable pub before : Model → ℕ → ℕ → Bool
before m b a =
    ltb (priority_of m a) (priority_of m b) || (eqb (priority_of m b) (priority_of m a) && ltb b a)

-- activities in rank order, with one more in its place among them
unfoldable pub insert : Model → ℕ → List ℕ → List ℕ
insert m a [] = a ∷ []
insert m a (b ∷ l) = elim (before m a b) [ true ↦ a ∷ b ∷ l | false ↦ b ∷ insert m a l ]

-- "Rank the ready": those below n in rank order
unfoldable pub in_rank : Model → (ℕ → Bool) → ℕ → List ℕ
in_rank m rdy zero = []
in_rank m rdy (suc n) = elim (rdy n) [ true ↦ insert m n (in_rank m rdy n) | false ↦ in_rank m rdy n ]

-- "walks the ready in rank order and takes each whose width still fits" (U7 of 02): what is taken of a list where so many
-- cores are taken already. The walk goes on past one that does not fit.
unfoldable pub walk : Model → List ℕ → ℕ → List ℕ
walk m [] cores-taken = []
walk m (a ∷ l) cores-taken = elim (leb (cores-taken + m.width a) m.cores) [
  | true ↦ a ∷ walk m l (cores-taken + m.width a)
  | false ↦ walk m l cores-taken
]

-- what the run takes of the ready
unfoldable pub walked : Model → (ℕ → Bool) → List ℕ
walked m rdy = walk m (in_rank m rdy m.activities) 0

-- "are the word's bits"
unfoldable pub word_at : Model → (ℕ → ℕ) → ℕ → State → ℕ
word_at m release t s =
    let them : List ℕ = walked m (ready m release t s) in
    word_of m.activities (λ a. member a them)

-- "At the beginning t = 0 and each activity owes its chosen duration"
unfoldable pub initial : Model → (ℕ → ℕ) → State
initial m duration = record {
  owed = table m.activities duration;
  ends = table m.activities (λ _. 0);
}

-- "Each owes one less, and one that now owes nothing ends at t + 1"
unfoldable pub step : Model → ℕ → ℕ → State → State
step m t word s = record {
  owed = table m.activities (λ a. owes s a - cond (bit word a) 1 0);
  ends = table m.activities (λ a. cond (bit word a && eqb (owes s a) 1) (t + 1) (end_of s a));
}

-- the state at tick t: "Then t grows by one; stop at H"
unfoldable pub state_at : Model → (ℕ → ℕ) → (ℕ → ℕ) → ℕ → State
state_at m release duration zero = initial m duration
state_at m release duration (suc t) =
    let s : State = state_at m release duration t in
    step m t (word_at m release t s) s

-- the word of tick t, for every t, whether or not the run succeeds
unfoldable pub machine_word : Model → (ℕ → ℕ) → (ℕ → ℕ) → ℕ → ℕ
machine_word m release duration t = word_at m release t (state_at m release duration t)

-- "Start is the first active tick"; H where there is none, which a run that succeeds never has
unfoldable pub machine_start : Model → (ℕ → ℕ) → (ℕ → ℕ) → ℕ → ℕ
machine_start m release duration a = lowest m.horizon (λ t. bit (machine_word m release duration t) a)

-- the end that the machine's last state holds, and what is still owed there
unfoldable pub machine_end : Model → (ℕ → ℕ) → (ℕ → ℕ) → ℕ → ℕ
machine_end m release duration a = end_of (state_at m release duration m.horizon) a

unfoldable pub machine_owes : Model → (ℕ → ℕ) → (ℕ → ℕ) → ℕ → ℕ
machine_owes m release duration a = owes (state_at m release duration m.horizon) a
