-- The part of a pair, from which of the two stands. Assumes nothing.
use Prim.Native.Nat.{ℕ}
use mathlib.Core.List.{List}
use mathlib.Core.Path.{◌≡◌, ap}
use Rattle.schedule.specs.Rule.{Refusal}
use Rattle.schedule.specs.Answers.{accepted, refused}
use Rattle.schedule.specs.Exchange.{part_of, placed, both_of, pair_answer, pair_part}

pub pair-placed : (x y : List ℕ) (r : ℕ) → pair_answer x y ≡ accepted r
    → pair_part x y ≡ accepted (part_of (λ _. 0) (both_of x y) r)
unfolding placed pair_part
pair-placed x y r e = ap (placed (λ _. 0) (both_of x y)) e

pub pair-refused : (x y : List ℕ) (z : Refusal) → pair_answer x y ≡ refused z → pair_part x y ≡ refused z
unfolding placed pair_part
pair-refused x y z e = ap (placed (λ _. 0) (both_of x y)) e
