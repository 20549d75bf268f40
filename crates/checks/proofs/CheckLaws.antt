-- A whole check: the two records' rules and then those of the plan, and the answer by the first that is broken.
-- Assumes nothing.
use mathlib.Core.Bool.{Bool, true, false}
use mathlib.Core.List.{List, ◌++◌}
use mathlib.Core.Option.{Option, none}
use mathlib.Core.Path.{◌≡◌, refl, sym, ap, ◌∙◌}
use Prim.Native.Nat.{ℕ}
use Rattle.schedule.specs.Rule
use Rattle.schedule.specs.Rule.{Rule, first_break, AllHold}
use Rattle.schedule.specs.Model.{model, model_form}
use Rattle.schedule.specs.Plan.{plan, plan_form}
use Rattle.schedule.specs.Answers.{refused, answer, figures, plain_checks, strict_checks}
use Rattle.schedule.specs.Numbers.{refusal_numbers}
use Rattle.schedule.specs.declared.Refusal.{Refusal}
use Rattle.laws.proofs.FirstBreak.{none_iff, append_none, append_some}
use Rattle.laws.proofs.Sound.{model_form_sound}
use Rattle.records.specs.declared.model.Sizes.{Sizes}
use Rattle.records.specs.Reads.{pass_numbers, model_read_numbers}
use Rattle.std.specs.Prelude.{Result, Ok, Err}
use Rattle.records.specs.Rows.{sizes_of}
use Rattle.records.proofs.Reading.{answer-refuses, answer-accepts}
use Rattle.checks.specs.Rules.{grid_rules, checks_of}

-- the rules of a check, part by part
parts : (strict : Bool) (s r : List ℕ)
    → model_form s ++ (plan_form (model s) r ++ grid_rules strict (model s) (plan r)) ≡ checks_of strict s r
unfolding plain_checks strict_checks
parts true s r = refl
parts false s r = refl

module _ (strict : Bool) (s r : List ℕ) where
  -- the model is refused
  pub model_stops : (read : Result Sizes Refusal) (x : Refusal) → read ≡ Err x
      → model_read_numbers read ≡ answer (first_break (model_form s)) (sizes_of (model s))
      → refused (refusal_numbers x) ≡ answer (first_break (checks_of strict s r)) (figures (model s) (plan r))
  unfolding answer
  model_stops read x told e =
      let first = answer-refuses (first_break (model_form s)) (sizes_of (model s)) (refusal_numbers x) (sym (ap model_read_numbers told) ∙ e) in
      ap (λ (o : Option Rule.Refusal). answer o (figures (model s) (plan r)))
      (sym (append_some (model_form s) (plan_form (model s) r ++ grid_rules strict (model s) (plan r)) (refusal_numbers x) first)
      ∙ ap first_break (parts strict s r))

  module _ (read : Result Sizes Refusal) (sizes : Sizes) (told : read ≡ Ok sizes)
      (e : model_read_numbers read ≡ answer (first_break (model_form s)) (sizes_of (model s))) where
    formed : first_break (model_form s) ≡ none
    formed = answer-accepts (first_break (model_form s)) (sizes_of (model s)) sizes (sym (ap model_read_numbers told) ∙ e)

    pub model-formed : AllHold (model_form s)
    model-formed = (none_iff (model_form s) (model_form_sound s)).0 formed

    past-model : first_break (plan_form (model s) r ++ grid_rules strict (model s) (plan r)) ≡ first_break (checks_of strict s r)
    past-model = sym (append_none (model_form s) _ formed) ∙ ap first_break (parts strict s r)

    -- the plan is refused
    pub plan_stops : (form : Result (Unit {0}) Refusal) (x : Refusal) → form ≡ Err x
        → pass_numbers form ≡ first_break (plan_form (model s) r)
        → refused (refusal_numbers x) ≡ answer (first_break (checks_of strict s r)) (figures (model s) (plan r))
    unfolding answer
    plan_stops form x held f =
        ap (λ (o : Option Rule.Refusal). answer o (figures (model s) (plan r)))
        (sym (append_some (plan_form (model s) r) _ (refusal_numbers x) (sym f ∙ ap pass_numbers held)) ∙ past-model)

    -- the rules of the plan decide
    pub rules-answer : (form : Result (Unit {0}) Refusal) → form ≡ Ok tt → pass_numbers form ≡ first_break (plan_form (model s) r)
        → (pass : Result (Unit {0}) Refusal) → pass_numbers pass ≡ first_break (grid_rules strict (model s) (plan r))
        → answer (pass_numbers pass) (figures (model s) (plan r))
        ≡ answer (first_break (checks_of strict s r)) (figures (model s) (plan r))
    rules-answer form held f pass g =
        ap (λ (o : Option Rule.Refusal). answer o (figures (model s) (plan r)))
        (g ∙ sym (append_none (plan_form (model s) r) _ (sym f ∙ ap pass_numbers held)) ∙ past-model)
