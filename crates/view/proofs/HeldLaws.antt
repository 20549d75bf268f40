-- The part of a plan that is held gives what the view's definition says at each tick, and is the one that the making promises.
-- Assumes nothing.
use Prim.Native.Nat.{ℕ}
use native.Mathlib.Omega.{arith}
use mathlib.Core.Bool.{Bool, cond}
use mathlib.Core.List.{List, [], ◌++◌}
use mathlib.Core.Option.{Option, some, none}
use mathlib.Core.Path.{◌≡◌, refl, ap, ap₂, ◌∙◌}
use lib.Dec.{ltb}
use lib.ListN.{length-drop}
use denote.Ref.{Bor}
use borrow.Author.Tests.{le-ltb}
use Rattle.schedule.specs.Rule.{Refusal}
use Rattle.schedule.specs.Model.{model, model_form}
use Rattle.schedule.specs.Plan.{plan, plan_form, grid_at, plan_grid, word_in, ticks_in}
use Rattle.schedule.specs.Streams.{word, past, or_past, view_refusal, view_word}
use Rattle.laws.proofs.FirstBreak.{none_iff, sound_append, hold_append}
use Rattle.laws.proofs.Sound.{model_form_sound, plan_form_sound}
use Rattle.laws.proofs.PlanForm.{WellFormed, form-says}
use Rattle.laws.proofs.PlanBytes.{word_behind}
use Rattle.schedule.specs.Lent.{LiesAt}
use Rattle.view.specs.Grid.{held_bytes, held_from, view_bytes, grid_word, HeldOver}

-- ---- what it gives

module _ (s r : List ℕ) where
  well_formed : view_refusal s r ≡ none → WellFormed (model s) r
  unfolding view_refusal
  well_formed e =
      let sound = (sound_append (model_form s) _).1 (model_form_sound s, plan_form_sound (model s) r) in
      let hold = (none_iff (model_form s ++ plan_form (model s) r) sound).0 e in
      form-says (model s) r ((hold_append (model_form s) (plan_form (model s) r)).0 hold).1

  -- H words of 4 bytes
  ticks_held : WellFormed (model s) r → ticks_in (plan_grid r) ≡ (plan r).horizon
  ticks_held w =
      omega (
        arith,
        length-drop (grid_at (plan r).threads (plan r).activities) r,
        w.length,
        w.threads,
        w.activities,
        w.horizon,
      )

  gives : (t : ℕ) (o : Option Refusal) → view_refusal s r ≡ o
      → grid_word (held_bytes o r) t ≡ or_past o (cond (ltb t (plan r).horizon) (word ((plan r).word t)) past)
  unfolding grid_word held_bytes
  gives t none e =
      ap₂ (λ (n v : ℕ). cond (ltb t n) (word v) past) (ticks_held (well_formed e)) (word_behind r t)
  gives t (some x) e = ap (λ (b : Bool). cond b (word (word_in [] t)) past) (le-ltb t 0 (omega arith))

  -- the bytes that are held give the words of the view
  pub grid-gives : (t : ℕ) → grid_word (view_bytes s r) t ≡ view_word s r t
  unfolding view_bytes view_word
  grid-gives t = gives t (view_refusal s r) refl

-- ---- the making

-- the part of the plan that is held by what the making answered is the one that is promised
pub held_over : (s : List ℕ) (plan g : Bor (List ℕ)) (o : Option Refusal) → o ≡ view_refusal s plan.now
    → g.now ≡ held_bytes o plan.now → LiesAt plan (held_from o plan.now) g → HeldOver s plan g
unfolding view_bytes
held_over s plan g o answered held lies =
    let holds : g.now ≡ view_bytes s plan.now = rw answered at held in
    record {
      gives = λ t. ap (λ (bytes : List ℕ). grid_word bytes t) holds ∙ grid-gives s plan.now t;
      holds = holds;
      lies = rw answered at lies;
    }
