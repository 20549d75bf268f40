-- The fields of the records fit their bytes.
-- Assumes nothing.
use Prim.Native.Nat.{ℕ, ◌<◌, ◌^◌}
use native.Mathlib.Omega.{arith}
use mathlib.Core.Bool.{Bool, true, false, ◌||◌, cond}
use mathlib.Core.List.{List}
use lib.Dec.{eqb, ltb}
use Rattle.schedule.specs.Fields.{field, Bytes}
use Rattle.schedule.specs.Rounds.{below}
use Rattle.schedule.specs.Model.{page, unrolled, model}
use Rattle.schedule.specs.Choice.{choice}
use Rattle.schedule.specs.Plan.{plan}
use Rattle.laws.proofs.FieldLaws.{field_lt}

-- a field of the page that is below a bound is so in every row of the unrolled model
pub below_lt : (bound most : ℕ) (f : ℕ → ℕ) → 0 < most → ((x : ℕ) → f x < most) → (a : ℕ) → below bound f a < most
below_lt bound most f pos each a = one (ltb a bound)
  where
    one : (t : Bool) → cond t (f a) 0 < most
    one true = each a
    one false = pos

-- of a model
module _ (s : List ℕ) (h : Bytes s) where
  pub cores_lt : (model s).cores < 256
  unfolding model unrolled page
  cores_lt = field_lt s h 5 1

  pub horizon_lt : (model s).horizon < 65536
  unfolding model unrolled page
  horizon_lt = field_lt s h 8 2

  pub delay_lt : (a : ℕ) → (model s).delay a < 65536
  unfolding model unrolled page
  delay_lt = below_lt _ 65536 _ (omega arith) (λ x. field_lt s h _ 2)

  pub width_lt : (a : ℕ) → (model s).width a < 256
  unfolding model unrolled page
  width_lt = below_lt _ 256 _ (omega arith) (λ x. one (eqb (field s 4 1) 1 || eqb (field s 4 1) 2) _)
    where
      one : (t : Bool) (at : ℕ) → cond t 1 (field s at 1) < 256
      one true at = omega arith
      one false at = field_lt s h at 1

-- of a choice
module _ (q : List ℕ) (h : Bytes q) where
  pub chosen-release_lt : (j : ℕ) → (choice q).release j < 65536
  unfolding choice
  chosen-release_lt j = field_lt q h _ 2

  pub chosen-period_lt : (j : ℕ) → (choice q).period j < 65536
  unfolding choice
  chosen-period_lt j = field_lt q h _ 2

  pub chosen-duration_lt : (a : ℕ) → (choice q).duration a < 65536
  unfolding choice
  chosen-duration_lt a = field_lt q h _ 2

-- of a plan
module _ (r : List ℕ) (h : Bytes r) where
  pub release_lt : (j : ℕ) → (plan r).release j < 65536
  unfolding plan
  release_lt j = field_lt r h _ 2

  pub end_lt : (a : ℕ) → (plan r).end a < 65536
  unfolding plan
  end_lt a = field_lt r h _ 2

  pub word_lt : (t : ℕ) → (plan r).word t < 2 ^ 32
  unfolding plan
  word_lt t = field_lt r h _ 4
