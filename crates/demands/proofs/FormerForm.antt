-- An older record says what it said. And a record that is not of version 3 breaks the form rules that it broke before, at the same
-- place: it is of another version, or of width 1, which rule 3 leaves room for, so that 57 turns none away.
-- Assumes nothing.
use Prim.Native.Nat.{ℕ}
use native.Mathlib.Decide.{ℕ_discrete}
use native.Mathlib.Omega.{arith}
use mathlib.Core.Bool.{Bool, ◌&&◌}
use mathlib.Core.List.{List, [], ◌∷◌, ◌++◌}
use mathlib.Core.Logic.Iff
use mathlib.Core.Logic.{inl, inr}
use mathlib.Core.Option.{none}
use mathlib.Core.Path.{◌≡◌, refl, sym, ap, ap₂, ◌∙◌}
use lib.Dec.{leb}
use Rattle.schedule.specs.Fields.{field}
use Rattle.schedule.specs.Rule.{Rule, first_break, Everywhere, AllHold}
use Rattle.schedule.specs.Records.{length_rule, version_rule, formula_rule}
use Rattle.schedule.specs.Model.{Page, page, model_form, model_length, newest_model}
use Rattle.schedule.specs.Model.{limits_rule, rounds_rule, thread_rule, period_rule, activity_rule, loop_rule, width_rule, mask_rule}
use Rattle.schedule.specs.Opened.{form_rules}
use Rattle.laws.proofs.Counting.{T_ext}
use Rattle.laws.proofs.FirstBreak.{Sound, AllSound, none_iff, break-same, implied_rule, ◌&◌}
use Rattle.laws.proofs.Sound.{head_rules_sound, row_rules_sound}
use Rattle.laws.proofs.Tests.{tests, T_leb}
use Rattle.demands.specs.FormerForm
use Rattle.demands.specs.Widths.{Older, SameReading, SameForm}
use Rattle.demands.proofs.BreakAlike.{cons_same, behind_same}

pub same_reading : SameReading
unfolding page FormerForm.page
same_reading s (inl e) = rw e refl
same_reading s (inr e) = rw e refl

module _ (s : List ℕ) where
  -- 1 and 2, with the newest version
  abbrev sizing : ℕ → List Rule
  sizing newest = length_rule 1 10 s ∷ version_rule 2 newest s ∷ []

  -- they break alike with the newest version of today and of before, but for version 3
  sizing_same : ¬ (field s 4 1 ≡ 3) → first_break (sizing newest_model) ≡ first_break (sizing 2)
  unfolding version_rule
  sizing_same h =
      cons_same _ _ _ _ refl (cons_same _ _ _ _ (break-same (version_rule 2 3 s) (version_rule 2 2 s) refl refl refl (λ _ _ _ _.
      ap (λ (t : Bool). leb 1 (field s 4 1) && t) (T_ext (leb (field s 4 1) 3) (leb (field s 4 1) 2)
      (λ t. (T_leb (field s 4 1) 2).1 (omega (arith, h, (T_leb (field s 4 1) 3).0 t)))
      (λ t. (T_leb (field s 4 1) 3).1 (omega (arith, (T_leb (field s 4 1) 2).0 t)))))) refl)

  -- where those of before are kept, the record is an older one
  older : first_break (sizing 2) ≡ none → Older s
  unfolding form_rules
  older e =
      let version = ((none_iff (sizing 2) ((head_rules_sound s).0 & version_sound & tt)).0 e).1.0 0 0 (omega arith) (omega arith) in
      elim (ℕ_discrete (field s 4 1) 1) [ yes first ↦ inl first | no other ↦ inr (omega (arith, version, other)) ]
    where
      version_sound : Sound (version_rule 2 2 s)
      version_sound a b = simp tests Iff.rfl

  -- then 4 asks for the length of before
  length-same : Older s → model_length (field s 4 1) ≡ FormerForm.model_length (field s 4 1)
  length-same (inl e) = rw e refl
  length-same (inr e) = rw e refl

  -- every row has width 1
  width_one : Older s → (a : ℕ) → (page s).plain.width a ≡ 1
  unfolding FormerForm.page
  width_one old a = ap (λ (p : Page). p.plain.width a) (same_reading s old)

  -- the rules from 3 up to 53, of a page and a formula for the length
  abbrev rowing : (ℕ → ℕ → ℕ) → Page → List Rule
  rowing wanted p =
      limits_rule p.plain
      ∷ formula_rule 4 (wanted p.plain.threads p.plain.activities) s
      ∷ rounds_rule p
      ∷ thread_rule p.plain
      ∷ period_rule p
      ∷ activity_rule p.plain
      ∷ loop_rule p
      ∷ []

  -- today's
  abbrev today : List Rule
  today = rowing (model_length (field s 4 1)) (page s)

  today_sound : AllSound today
  today_sound =
      let head = (head_rules_sound s).1.1 in
      let rows = row_rules_sound (page s) in
      head.0 & head.1.0 & head.1.1.0 & rows.0 & rows.1.0 & rows.1.1.0 & rows.1.1.1.0 & tt

  -- and 57 follows from 3
  narrow : Older s → AllHold today → Everywhere (width_rule (page s).plain)
  unfolding form_rules
  narrow old h a b l k =
      let limits = h.0 0 0 (omega arith) (omega arith) in
      omega (arith, width_one old a, limits.0.0.0)

  rest-same : Older s
      → first_break (today ++ (width_rule (page s).plain ∷ mask_rule (page s).plain ∷ []))
      ≡ first_break (rowing (FormerForm.model_length (field s 4 1)) (FormerForm.page s) ++ (mask_rule (FormerForm.page s).plain ∷ []))
  rest-same old =
      implied_rule today (width_rule (page s).plain) (mask_rule (page s).plain ∷ []) today_sound
      (row_rules_sound (page s)).1.1.1.1.0 (narrow old)
      ∙ ap₂ (λ (wanted : ℕ → ℕ → ℕ) (p : Page). first_break (rowing wanted p ++ (mask_rule p.plain ∷ [])))
      (length-same old) (same_reading s old)

pub same-form : SameForm
unfolding model_form FormerForm.model_form
same-form s h =
    behind_same (λ o. o) (λ o. o) (sizing s newest_model) (sizing s 2) _ _ (sizing_same s h) (λ x. refl) (λ e.
    rest-same s (older s (sym (sizing_same s h) ∙ e)))
