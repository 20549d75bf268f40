-- What the calls hand on: the state after a direct edit, the scratch of an ask, and what an ask and a keep answer and leave.
-- Assumes nothing.
use Prim.Native.Nat.{ℕ, ◌≤◌}
use mathlib.Core.List.{List}
use mathlib.Core.Path.{◌≡◌, refl, sym, ap, subst, ◌∙◌}
use lib.ListN.{length, take, replicate, length-replicate}
use lib.Seq.{length-take-le}
use Rattle.schedule.specs.Rule
use Rattle.schedule.specs.Fields.{Bytes}
use Rattle.schedule.specs.Plan.{plan, plan_bytes}
use Rattle.schedule.specs.Answers.{Answer, accepted, refused, plain_verdict}
use Rattle.schedule.specs.Streams.{view_refusal}
use Rattle.schedule.specs.Numbers.{Verdict, refusal_numbers, verdict_numbers}
use Rattle.schedule.specs.declared.Refusal.{Refusal}
use Rattle.records.specs.Reads.{pass_numbers}
use Rattle.edit_rules.specs.declared.Edit.{Edit}
use Rattle.std.specs.Prelude.{Some, None, Result, Ok, Err}
use Rattle.edit_rules.specs.declared.Editing.{Editing}
use Rattle.edit_rules.specs.declared.Reason.{Reason}
use Rattle.edit_rules.specs.declared.Unkept.{Unkept}
use Rattle.edit_rules.specs.Edits.{edited_plan, edit_answer, if_unrefused, edit_bytes}
use Rattle.edit_rules.specs.EditNumbers.{Edited, Kept, reason_numbers, edited_numbers, unkept_numbers, kept_numbers, told_numbers}
use Rattle.edit_rules.specs.Keeping.{nothing_asked, asking, edit_state, ask_answer, ask_state, keep_answer, keep_bytes, keep_state}
use Rattle.edit_rules.proofs.AnswerLaws.{where_unrefused, where_refused}
use Rattle.edit_rules.proofs.KeepLaws.{refused_alike, verdict-told, keep_stops, keep_61, keep_unasked, keeps_are_tried}
use Rattle.edits.proofs.StrokeLaws.{Editable, done_editable, done-leaves}

-- ---- a direct edit

module _ (s r : List ℕ) (state : Editing) (e : Edit) (said : Edited) (told : edited_numbers said ≡ edit_answer s r e) where
  -- where it is refused the state stays, and where it is done nothing is asked
  pub state_stays : (why : Reason) → said ≡ Err why → state ≡ edit_state s r state e
  unfolding edit_state
  state_stays why is = sym (where_refused (edit_answer s r e) (reason_numbers why) _ _ (sym told ∙ ap edited_numbers is))

  pub state_moves : said ≡ Ok tt → nothing_asked ≡ edit_state s r state e
  unfolding edit_state
  state_moves is = sym (where_unrefused (edit_answer s r e) tt _ _ (sym told ∙ ap edited_numbers is))

-- ---- the scratch of an ask

-- the room for the longest plan has room for one that is no longer
pub room : (r : List ℕ) → length r ≤ 16553 → length r ≡ length {A = ℕ} (take (length r) (replicate 16553 0))
room r h =
    sym (length-take-le (length r) (replicate 16553 0) (subst (λ (n : ℕ). length r ≤ n) (sym (length-replicate {A = ℕ} 16553 0)) h))

-- the edit is made in the copy
module _ (s r : List ℕ) (e : Edit) (done : edit_answer s r e ≡ accepted tt) where
  pub copy_editable : (copy : List ℕ) → copy ≡ r → Bytes r → Editable copy e
  copy_editable copy same b = subst (λ (x : List ℕ). Editable x e) (sym same) (done_editable s r e done b)

  pub copy_edited : (copy after : List ℕ) → copy ≡ r → after ≡ plan_bytes (edited_plan (plan copy) e) → after ≡ edit_bytes s r e
  copy_edited copy after same made =
      made ∙ ap (λ (x : List ℕ). plan_bytes (edited_plan (plan x) e)) same ∙ done-leaves s r e done

-- ---- an ask

module _ (s r : List ℕ) (state : Editing) (e : Edit) (said : Edited) (told : edited_numbers said ≡ edit_answer s r e) where
  -- refused, and nothing is asked
  module _ (why : Reason) (is : said ≡ Err why) where
    turned_away : ask_answer s r e ≡ refused (reason_numbers why)
    turned_away = (refused_alike s r e (reason_numbers why)).1 (sym told ∙ ap edited_numbers is)

    pub ask-refused : told_numbers (Err why) ≡ ask_answer s r e
    ask-refused = sym turned_away

    pub ask_erases : nothing_asked ≡ ask_state s r state e
    unfolding ask_state
    ask_erases = sym (where_refused (ask_answer s r e) (reason_numbers why) _ _ turned_away)

  -- a verdict, and the edit is asked
  module _ (is : said ≡ Ok tt) (v : Verdict) (verdict : verdict_numbers v ≡ plain_verdict s (edit_bytes s r e)) where
    tells : ask_answer s r e ≡ accepted (verdict_numbers v)
    tells = (verdict-told s r e (verdict_numbers v)).1 (sym told ∙ ap edited_numbers is, sym verdict)

    pub ask-told : told_numbers (Ok v) ≡ ask_answer s r e
    ask-told = sym tells

    pub ask-asks : asking e ≡ ask_state s r state e
    unfolding ask_state
    ask-asks = sym (where_unrefused (ask_answer s r e) (verdict_numbers v) _ _ tells)

-- ---- a keep

-- with nothing asked: by the records, and behind them 61
pub unkept_records : (s r : List ℕ) (pass : Result (Unit {0}) Refusal) → pass_numbers pass ≡ view_refusal s r
    → (x : Refusal) → pass ≡ Err x
    → refused (unkept_numbers (Unkept.Edit (Reason.Record x))) ≡ keep_answer s r None
unkept_records s r pass told x is =
    sym (keep_stops s r None (refusal_numbers x) (sym told ∙ ap pass_numbers is))

pub unkept_61 : (s r : List ℕ) (pass : Result (Unit {0}) Refusal) → pass_numbers pass ≡ view_refusal s r → pass ≡ Ok tt
    → refused (unkept_numbers Unkept.NothingAsked) ≡ keep_answer s r None
unkept_61 s r pass told is = sym (keep_61 s r (sym told ∙ ap pass_numbers is))

module _ (s r : List ℕ) (state : Editing) (said : Kept) (told : kept_numbers said ≡ keep_answer s r None)
    (is : state.asked ≡ None) where
  pub unkept_answer : kept_numbers said ≡ keep_answer s r state.asked
  unkept_answer = told ∙ ap (keep_answer s r) (sym is)

  -- a keep with nothing asked is refused
  turned_down : (k : Kept) → kept_numbers k ≡ keep_answer s r None → (x : Rule.Refusal) × (kept_numbers k ≡ refused x)
  turned_down (Ok done) e = absurd (keep_unasked s r (sym e))
  turned_down (Err why) e = (unkept_numbers why, refl)

  pub unkept_leaves : (state ≡ keep_state s r state) × (r ≡ keep_bytes s r state.asked)
  unkept_leaves =
      let down = turned_down said told in
      let same = (keeps_are_tried s r state).nothing_changed down.0 (sym unkept_answer ∙ down.1) in
      (sym same.1, sym same.0)

-- with an edit asked: as the direct edit
module _ (s r : List ℕ) (state : Editing) (e : Edit) (is : state.asked ≡ Some e) where
  pub kept-answer : edit_answer s r e ≡ keep_answer s r state.asked
  kept-answer = sym ((keeps_are_tried s r state).as_direct e is).0

  pub kept-state : edit_state s r state e ≡ keep_state s r state
  unfolding edit_state keep_state
  kept-state = ap (λ (o : Answer (Unit {0})). if_unrefused o nothing_asked state) kept-answer

  pub kept-bytes : edit_bytes s r e ≡ keep_bytes s r state.asked
  kept-bytes = sym ((keeps_are_tried s r state).as_direct e is).1
