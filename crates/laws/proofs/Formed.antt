-- What a model that meets its form rules, and a choice that passes its tests, give the theorem of demand 3.
-- Assumes nothing.
use Prim.Native.Nat.{ℕ, ◌+◌, ◌<◌}
use native.Mathlib.Decide.{dec_lt}
use native.Mathlib.Omega.{arith}
use mathlib.Core.List.{List}
use mathlib.Core.Option.{none}
use mathlib.Core.Path.{◌≡◌}
use Rattle.schedule.specs.declared.FormRefusal.{FormRefusal}
use Rattle.schedule.specs.Fields.{Bytes}
use Rattle.schedule.specs.Rule.{first_break, AllHold}
use Rattle.schedule.specs.Records.{Within}
use Rattle.schedule.specs.Model.{Model, page, unrolled, model, model_form, Formed}
use Rattle.schedule.specs.Model.{limits_rule, activity_rule, width_rule, mask_rule}
use Rattle.schedule.specs.Choice.{Choice, choice, choice_thread_row, choice_form}
use Rattle.schedule.specs.Answers.{run_checks}
use Rattle.schedule.specs.Numbers.{form_number}
use Rattle.schedule.specs.Opened.{form_rules}
use Rattle.laws.proofs.FieldLaws.{field_lt}
use Rattle.laws.proofs.FirstBreak.{says, none_iff, hold_append}
use Rattle.laws.proofs.Sound.{run_checks_sound}
use Rattle.laws.proofs.Unrolled.{page-says, limits_kept, owners_kept, widths-kept, masks_kept}

-- rules 3, 6, 57 and 7 of a plain model
pub formed : (m : Model) → (limits_rule m).Holds 0 0 → ((a : ℕ) → a < m.activities → (activity_rule m).Holds a 0)
    → ((a : ℕ) → a < m.activities → (width_rule m).Holds a 0) → ((a : ℕ) → a < m.activities → (mask_rule m).Holds a 0) → Formed m
unfolding limits_rule activity_rule width_rule mask_rule
formed m limits rows widths masks = record {
  threads = limits.0.1;
  activities = limits.1.0;
  horizon = limits.1.1;
  owner = λ a l. (rows a l).0.0;
  lasting = λ a l. (rows a l).0.1;
  wide = widths;
  ordered = record {
    temporal = λ a b la lb x. elim (dec_lt b a) [
      | yes y ↦ y
      | no y ↦ absurd ((masks a la b (omega (arith, limits.1.0.1)) (omega arith)).0 x)
    ];
    on_data = λ a b la lb x. elim (dec_lt b a) [
      | yes y ↦ y
      | no y ↦ absurd ((masks a la b (omega (arith, limits.1.0.1)) (omega arith)).1 x)
    ];
  };
}

-- the unrolled model of a page that meets its form rules keeps them
pub model-says : (s : List ℕ) → AllHold (model_form s) → Formed (model s)
unfolding model
model-says s h =
    let says = page-says s h in
    formed (unrolled (page s)) (limits_kept (page s) says) (owners_kept (page s) says) (widths-kept (page s) says)
    (masks_kept (page s) says)

-- where the input of a run passes, its model meets its form rules
pub input-formed : (s q : List ℕ) → AllHold (run_checks s q) → Formed (model s)
unfolding run_checks
input-formed s q h = model-says s ((hold_append (model_form s) (choice_form (model s) q)).0 h).0

pub input-holds : (s q : List ℕ) → first_break (run_checks s q) ≡ none → Formed (model s)
input-holds s q e = input-formed s q ((none_iff (run_checks s q) (run_checks_sound s q)).0 e)

-- rules 12 and 13, and that the choices are fields of two bytes
pub record Chosen (m : Model) (q : Choice) : Type 0 where
  pub in_range : (j : ℕ) → j < m.threads
      → Within (m.least_release j) (m.most_release j) (q.release j)
      × Within (m.least_period j) (m.most_period j) (q.period j)
  pub duration : (a : ℕ) → a < m.activities → Within (m.least_duration a) (m.most_duration a) (q.duration a)
  pub release_lt : (j : ℕ) → q.release j < 65536
  pub period_lt : (j : ℕ) → q.period j < 65536

pub choice-says : (m : Model) (q : List ℕ) → Bytes q → AllHold (choice_form m q) → Chosen m (choice q)
unfolding choice_form form_rules choice
choice-says m q b h = record {
  in_range = λ j l. says (form_number FormRefusal.ThreadChoice) (choice_form m q) h j 0 l (omega arith);
  duration = λ a l. says (form_number FormRefusal.DurationChoice) (choice_form m q) h a 0 l (omega arith);
  release_lt = λ j. field_lt q b (choice_thread_row j) 2;
  period_lt = λ j. field_lt q b (choice_thread_row j + 2) 2;
}
