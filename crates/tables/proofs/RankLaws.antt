-- The ranking from a table of priorities is the model's.
-- Assumes nothing.
use Prim.Native.Nat.{ℕ}
use mathlib.Core.Bool.{◌&&◌, ◌||◌}
use mathlib.Core.Path.{◌≡◌, refl, ap₂}
use lib.Dec.{eqb, ltb}
use Rattle.schedule.specs.Model.{Model}
use Rattle.schedule.specs.Machine.{before}
use Rattle.tables.specs.declared.ranking.Order.{Order}
use Rattle.tables.specs.Columns.{by_activity, among_activities}
use Rattle.tables.specs.Ranking.{ranks, ranking_of}

-- a ranking depends on the two priorities alone
pub ranks-same : (order : Order) (f g : ℕ → ℕ) (b a : ℕ) → f b ≡ g b → f a ≡ g a → ranks order f b a ≡ ranks order g b a
ranks-same Order.Higher f g b a e h = ap₂ (λ (x y : ℕ). ltb y x) e h
ranks-same Order.Level f g b a e h = ap₂ (λ (x y : ℕ). eqb x y && ltb b a) e h
ranks-same Order.Before f g b a e h = ap₂ (λ (x y : ℕ). ltb y x || (eqb x y && ltb b a)) e h

-- the machine's ranking
pub ranking_before : (m : Model) → ranking_of Order.Before m ≡ by_activity m (λ a. among_activities m (λ b. before m b a))
unfolding ranking_of before
ranking_before m = refl
