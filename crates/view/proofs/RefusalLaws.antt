-- The answers of the two readers, one behind the other, are the refusal of the making.
-- Assumes nothing.
use Prim.Native.Nat.{ℕ}
use mathlib.Core.List.{List}
use mathlib.Core.Option.{some}
use mathlib.Core.Path.{◌≡◌, sym, ap, ◌∙◌}
use Rattle.std.specs.Prelude.{Result, Ok, Err}
use Rattle.schedule.specs.Rule.{first_break}
use Rattle.schedule.specs.Model.{model, model_form}
use Rattle.schedule.specs.Plan.{plan_form}
use Rattle.schedule.specs.Answers.{answer}
use Rattle.schedule.specs.Streams.{view_refusal}
use Rattle.schedule.specs.Numbers.{refusal_numbers}
use Rattle.schedule.specs.declared.Refusal.{Refusal}
use Rattle.laws.proofs.FirstBreak.{append_none, append_some}
use Rattle.records.specs.declared.model.Sizes.{Sizes}
use Rattle.records.specs.Reads.{refusal_of, model_read_numbers, pass_numbers}
use Rattle.records.specs.Rows.{sizes_of}
use Rattle.records.proofs.Reading.{answer-refusal}

module _ (s r : List ℕ) (read : Result Sizes Refusal)
    (e : model_read_numbers read ≡ answer (first_break (model_form s)) (sizes_of (model s))) where
  model-refusal : first_break (model_form s) ≡ refusal_of (model_read_numbers read)
  model-refusal = sym (ap refusal_of e ∙ answer-refusal (first_break (model_form s)) (sizes_of (model s)))

  -- the model is refused
  pub model_stops : (x : Refusal) → read ≡ Err x → some (refusal_numbers x) ≡ view_refusal s r
  unfolding view_refusal
  model_stops x told =
      sym (append_some (model_form s) (plan_form (model s) r) (refusal_numbers x)
      (model-refusal ∙ ap (λ (y : Result Sizes Refusal). refusal_of (model_read_numbers y)) told))

  -- the model is read, and the plan's reader answers
  pub plan-answers : (sizes : Sizes) → read ≡ Ok sizes
      → (form : Result (Unit {0}) Refusal) → pass_numbers form ≡ first_break (plan_form (model s) r)
      → pass_numbers form ≡ view_refusal s r
  unfolding view_refusal
  plan-answers sizes told form f =
      f
      ∙ sym (append_none (model_form s) (plan_form (model s) r)
      (model-refusal ∙ ap (λ (y : Result Sizes Refusal). refusal_of (model_read_numbers y)) told))
