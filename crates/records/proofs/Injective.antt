-- Equal numbers and values mean equal answers: no two answers of a reader, of a row or of a pass say the same.
-- Assumes nothing.
use Prim.Native.Nat.{ℕ}
use mathlib.Core.Logic.{◌⊎◌, inl, inr}
use mathlib.Core.Option.{Option, some, none}
use mathlib.Core.Path.{◌≡◌, refl, sym, ap, ◌∙◌}
use native.Mathlib.Omega.{arith}
use Rattle.std.specs.Prelude.{Result, Ok, Err}
use Rattle.schedule.specs.declared.Refusal.{Refusal}
use Rattle.schedule.specs.Rule
use Rattle.schedule.specs.Answers.{Answer, accepted, refused}
use Rattle.schedule.specs.Numbers.{refusal_numbers}
use Rattle.laws.proofs.NumbersLaws.{refusal_injective}
use Rattle.records.specs.declared.rows.Row.{Row}
use Rattle.records.specs.declared.model.Sizes.{Sizes}
use Rattle.records.specs.Reads.{pass_numbers, row_read_numbers, model_read_numbers}

-- an answer is a row, said as it is, or a refusal, said by its numbers
abbrev Says : {X F : Type 0} → (F → X) → (Refusal → X) → (X → Answer F) → X → Type 0
Says {X} {F} row sent numbers x =
    ((r : F) × ((x ≡ row r) × (numbers x ≡ accepted r)))
    ⊎ ((y : Refusal) × ((x ≡ sent y) × (numbers x ≡ refused (refusal_numbers y))))

told-apart : {X F : Type 0} (row : F → X) (sent : Refusal → X) (numbers : X → Answer F)
    → ((x : X) → Says row sent numbers x) → (x y : X) → numbers x ≡ numbers y → x ≡ y
told-apart {X} {F} row sent numbers says x y e = by (says x) (says y)
  where
    by : Says row sent numbers x → Says row sent numbers y → x ≡ y
    by (inl a) (inl b) = let same : a.0 ≡ b.0 = cc in a.1.0 ∙ ap row same ∙ sym b.1.0
    by (inl a) (inr b) = let z : ◌≡◌ {A = ℕ} 0 1 = cc in absurd (omega arith)
    by (inr a) (inl b) = let z : ◌≡◌ {A = ℕ} 0 1 = cc in absurd (omega arith)
    by (inr a) (inr b) =
        let same : refusal_numbers a.0 ≡ refusal_numbers b.0 = cc in
        a.1.0 ∙ ap sent (refusal_injective a.0 b.0 same) ∙ sym b.1.0

pub row_read_injective : (x y : Result Row Refusal) → row_read_numbers x ≡ row_read_numbers y → x ≡ y
row_read_injective = told-apart Ok Err row_read_numbers says
  where
    says : (x : Result Row Refusal) → Says Ok Err row_read_numbers x
    says (Ok row) = inl (row, (refl, refl))
    says (Err x) = inr (x, (refl, refl))

pub model_read_injective : (x y : Result Sizes Refusal) → model_read_numbers x ≡ model_read_numbers y → x ≡ y
model_read_injective = told-apart Ok Err model_read_numbers says
  where
    says : (x : Result Sizes Refusal) → Says Ok Err model_read_numbers x
    says (Ok sizes) = inl (sizes, (refl, refl))
    says (Err x) = inr (x, (refl, refl))

-- an answer with no row: nothing to say where there is no refusal
abbrev no_row : Option Rule.Refusal → Answer (Unit {0})
no_row none = accepted tt
no_row (some x) = refused x

-- of a pass over rules, and of what reading a choice or a plan answers
pub pass_injective : (x y : Result (Unit {0}) Refusal) → pass_numbers x ≡ pass_numbers y → x ≡ y
pass_injective x y e = told-apart Ok Err (λ x. no_row (pass_numbers x)) says x y (ap no_row e)
  where
    says : (x : Result (Unit {0}) Refusal) → Says Ok Err (λ x. no_row (pass_numbers x)) x
    says (Ok tt) = inl (tt, (refl, refl))
    says (Err x) = inr (x, (refl, refl))
