-- What a held view keeps of a plan's bytes, what any bytes give at a tick, and what is promised of the part that is held.
-- Assumes nothing.
use Rattle.std.specs.Prelude.{ℕ, cond, List, [], ◌≡◌, ltb}
use Rattle.std.proofs.Math.Option.{Option, some, none}
use Rattle.std.specs.Borrow.{Bor}
use Rattle.schedule.specs.Rule.{Refusal}
use Rattle.schedule.specs.Lent.{LiesAt}
use Rattle.schedule.specs.Plan.{plan_grid, plan_grid_at, word_in, ticks_in}
use Rattle.schedule.specs.Streams.{WordOrPast, word, past, view_refusal, view_word}

-- the bytes held by what the making answered: the plan's words, and none where it is refused
unfoldable pub held_bytes : Option Refusal → List ℕ → List ℕ
held_bytes none r = plan_grid r
held_bytes (some x) r = []

-- where they begin in the plan: where its grid does, and after a refusal an empty part at 0
unfoldable pub held_from : Option Refusal → List ℕ → ℕ
held_from none r = plan_grid_at r
held_from (some x) r = 0

-- the bytes held by a view made over a model and a plan
unfoldable pub view_bytes : List ℕ → List ℕ → List ℕ
view_bytes s r = held_bytes (view_refusal s r) r

-- "it gives the word at a tick, or past for a tick ≥ H", of any bytes that are held
unfoldable pub grid_word : List ℕ → ℕ → WordOrPast
grid_word g t = cond (ltb t (ticks_in g)) (word (word_in g t)) past

-- The part that is held by a view made over a model's bytes and a plan, which lies in a lent slice.
pub record HeldOver (s : List ℕ) (plan : Bor (List ℕ)) (grid : Bor (List ℕ)) : Type 0 where
  -- what it gives at every tick, whenever and however often it is asked
  pub gives : (t : ℕ) → grid_word grid.now t ≡ view_word s plan.now t
  -- "a struct over the plan's grid slice": what it holds, and that it lies in the plan
  pub holds : grid.now ≡ view_bytes s plan.now
  pub lies : LiesAt plan (held_from (view_refusal s plan.now) plan.now) grid
