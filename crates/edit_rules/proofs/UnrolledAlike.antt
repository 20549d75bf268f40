-- A page of several rounds is edited as the record of its unrolled model is: the same is tried, the same is told, and the same is
-- left, call by call.
-- Assumes nothing.
use Prim.Native.Nat.{ℕ}
use mathlib.Core.List.{List, [], ◌∷◌, ◌++◌}
use mathlib.Core.Option.{Option}
use mathlib.Core.Path.{◌≡◌, refl, ap, ap₂, ◌∙◌}
use Rattle.schedule.specs.Rule.{Refusal}
use Rattle.schedule.specs.Model.{Model}
use Rattle.schedule.specs.Plan.{plan, plan_form, plan_bytes}
use Rattle.schedule.specs.Answers.{Answer, answer, plain_verdict}
use Rattle.demands.specs.Rounds.{SameGiven}
use Rattle.demands.proofs.SameAnswers.{tried_alike, answered_alike}
use Rattle.edit_rules.specs.declared.Edit.{Edit}
use Rattle.std.specs.Prelude.{Some, None}
use Rattle.edit_rules.specs.Keeping.{Asked}
use Rattle.edit_rules.specs.Edits.{edit_rules, edited_plan, edit_checks, edit_answer, if_unrefused, edit_bytes}
use Rattle.edit_rules.specs.Statements.{EditedAlike}
use Rattle.edit_rules.specs.Keeping.{nothing_asked, asking, edit_state, ask_answer, ask_state}
use Rattle.edit_rules.specs.Keeping.{rule61, asked_rules, keep_checks, keep_answer, keep_bytes, keep_state}
use Rattle.edit_rules.specs.Keeping.{Call, ask, keep, direct, Session, leaves, left_by, Entry, asks, keeps, edits, entry, entries}
use Rattle.edit_rules.specs.KeepStatements.{SessionsAlike}

pub edited_alike : EditedAlike
unfolding edit_checks edit_answer edit_bytes
edited_alike s u r e same =
    let answers : edit_answer s r e ≡ edit_answer u r e =
    ap (λ (o : Option Refusal). answer o tt)
    (tried_alike (λ (m : Model). plan_form m r ++ edit_rules m (plan r) e) s u same) in
    (answers, ap (λ (o : Answer (Unit {0})). if_unrefused o (plan_bytes (edited_plan (plan r) e)) r) answers)

-- ---- asks, keeps and direct edits

module _ (s u : List ℕ) (same : SameGiven s u) where
  asked_alike : (r : List ℕ) (e : Edit) → ask_answer s r e ≡ ask_answer u r e
  unfolding ask_answer edit_checks
  asked_alike r e =
      ap₂ answer (tried_alike (λ (m : Model). plan_form m r ++ edit_rules m (plan r) e) s u same)
      ((answered_alike s u same).plain (edit_bytes s r e) ∙ ap (plain_verdict u) (edited_alike s u r e same).1)

  kept_alike : (r : List ℕ) (asked : Asked) → keep_answer s r asked ≡ keep_answer u r asked
  unfolding keep_answer keep_checks
  kept_alike r asked =
      ap (λ (o : Option Refusal). answer o tt)
      (tried_alike (λ (m : Model). plan_form m r ++ (rule61 asked ∷ asked_rules m (plan r) asked)) s u same)

  kept-bytes_alike : (r : List ℕ) (asked : Asked) → keep_bytes s r asked ≡ keep_bytes u r asked
  unfolding keep_bytes
  kept-bytes_alike r None = refl
  kept-bytes_alike r (Some e) = (edited_alike s u r e same).1

  -- one call
  entry_alike : (x : Session) (c : Call) → entry s x c ≡ entry u x c
  unfolding entry
  entry_alike x (ask e) = ap (asks e) (asked_alike x.plan e)
  entry_alike x keep = ap keeps (kept_alike x.plan x.state.asked)
  entry_alike x (direct e) = ap (edits e) (edited_alike s u x.plan e same).0

  leaves_alike : (x : Session) (c : Call) → leaves s x c ≡ leaves u x c
  unfolding leaves ask_state keep_state edit_state
  leaves_alike x (ask e) = λ i. record { state = if_unrefused (asked_alike x.plan e i) (asking e) nothing_asked; plan = x.plan }
  leaves_alike x keep = λ i. record {
    state = if_unrefused (kept_alike x.plan x.state.asked i) nothing_asked x.state;
    plan = kept-bytes_alike x.plan x.state.asked i;
  }
  leaves_alike x (direct e) = λ i. record {
    state = if_unrefused ((edited_alike s u x.plan e same).0 i) nothing_asked x.state;
    plan = (edited_alike s u x.plan e same).1 i;
  }

  -- every list of them
  alike : (x : Session) (calls : List Call) → (entries s x calls ≡ entries u x calls) × (left_by s x calls ≡ left_by u x calls)
  unfolding entries left_by
  alike x [] = (refl, refl)
  alike x (c ∷ calls) =
      let h = alike (leaves s x c) calls in (
        ap₂ {C = List Entry} ◌∷◌ (entry_alike x c) (h.0 ∙ ap (λ (y : Session). entries u y calls) (leaves_alike x c)),
        h.1 ∙ ap (λ (y : Session). left_by u y calls) (leaves_alike x c),
      )

pub sessions_alike : SessionsAlike
sessions_alike = alike
