-- Who ranks before whom, as a word for each activity.
-- Assumes nothing.
use Rattle.std.specs.Prelude.{ℕ, Bool, ◌&&◌, ◌||◌, List, eqb, ltb}
use Rattle.schedule.specs.Model.{Model, priority_of}
use Rattle.tables.specs.declared.ranking.Order.{Order}
use Rattle.tables.specs.Columns.{by_activity, among_activities}

-- b comes before a by a higher priority, or at one priority by a lower number, where a function gives each priority
abbrev pub higher : (ℕ → ℕ) → ℕ → ℕ → Bool
higher priority b a = ltb (priority a) (priority b)

abbrev pub level : (ℕ → ℕ) → ℕ → ℕ → Bool
level priority b a = eqb (priority b) (priority a) && ltb b a

abbrev pub ranks : Order → (ℕ → ℕ) → ℕ → ℕ → Bool
ranks Order.Higher priority b a = higher priority b a
ranks Order.Level priority b a = level priority b a
ranks Order.Before priority b a = higher priority b a || level priority b a

-- the activities of a model that come before a, for each activity a
unfoldable pub ranking_of : Order → Model → List ℕ
ranking_of order m = by_activity m (λ a. among_activities m (λ b. ranks order (priority_of m) b a))
