-- What an ask tells, what a direct edit leaves of the state, and what a keep answers, of any bytes and any state.
-- Assumes nothing.
use Prim.Native.Nat.{ℕ}
use native.Mathlib.Omega.{arith}
use mathlib.Core.Bool.{false≢true}
use mathlib.Core.List.{List, [], ◌∷◌}
use mathlib.Core.Logic.Iff
use mathlib.Core.Logic.{◌↔◌}
use mathlib.Core.Option.{Option, some, none}
use mathlib.Core.Path.{◌≡◌, refl, sym, ap, ◌∙◌}
use lib.Dec.{lit≤}
use borrow.Author.Tests.{eq-eqb}
use Rattle.schedule.specs.Fields.{Bytes}
use Rattle.schedule.specs.Rule.{Rule, Refusal, break}
use Rattle.schedule.specs.Model.{Model, model, model_form}
use Rattle.schedule.specs.Plan.{Plan, plan, plan_form}
use Rattle.schedule.specs.Checks.{plain_rules}
use Rattle.schedule.specs.Answers.{Answer, accepted, refused, answer, Figures, figures, plain_verdict}
use Rattle.schedule.specs.Opened.{check_rules}
use Rattle.schedule.specs.Streams.{view_refusal}
use Rattle.laws.proofs.FirstBreak.{Sound, AllSound, break-none, rule_goes_on, append_same, ◌&◌}
use Rattle.laws.proofs.RuleNumbers.{AllNumbers, OfForm, rules_append, rules_follow, first-broken-number}
use Rattle.laws.proofs.RuleNumbers.{model-numbers, plan-numbers, of_form}
use Rattle.laws.proofs.Sound.{plain_rules_sound}
use Rattle.laws.proofs.VerdictLaws.{accepted_is_not-refused, answer-accepted, answer-refused, plain-past-form, verdict-refused}
use Rattle.records.proofs.Reading.{rule_picked}
use Rattle.edit_rules.specs.declared.Edit.{Edit}
use Rattle.std.specs.Prelude.{Some, None}
use Rattle.edit_rules.specs.Keeping.{Asked}
use Rattle.edit_rules.specs.declared.Editing.{Editing}
use Rattle.edit_rules.specs.Edits.{rule58, rule59, rule60, edit_checks, edit_answer, edit_bytes}
use Rattle.edit_rules.specs.Statements.{refused_by}
use Rattle.edit_rules.specs.Keeping.{edit_state, ask_answer, ask_state, leaves}
use Rattle.edit_rules.specs.Keeping.{rule61, asked_rules, keep_checks, keep_answer, keep_bytes, keep_state}
use Rattle.edit_rules.specs.KeepStatements.{OfVerdict, AsksTell, EditsLeave, KeepsAreTried}
use Rattle.edit_rules.proofs.AnswerLaws.{edit_rules_sound, records_sound, edit_checks_sound, records_stop, records_past}
use Rattle.edit_rules.proofs.AnswerLaws.{where_unrefused, where_refused}
use Rattle.edit_rules.proofs.AnswerLaws.{said_by, edits_are_tried, passed}
use Rattle.edit_rules.proofs.OneEdit.{edit_made}

-- ---- an ask

module _ (s r : List ℕ) (e : Edit) where
  pub refused_alike : (x : Refusal) → (ask_answer s r e ≡ refused x) ↔ (edit_answer s r e ≡ refused x)
  unfolding ask_answer edit_answer
  refused_alike x =
      let sound = edit_checks_sound s r e in
      Iff.trans (answer-refused (edit_checks s r e) _ x sound) (Iff.symm (answer-refused (edit_checks s r e) tt x sound))

  pub verdict-told : (v : Answer Figures)
      → (ask_answer s r e ≡ accepted v) ↔ ((edit_answer s r e ≡ accepted tt) × (plain_verdict s (edit_bytes s r e) ≡ v))
  unfolding ask_answer edit_answer
  verdict-told v =
      let rules = edit_checks s r e in
      let sound = edit_checks_sound s r e in (
        λ told. let h = (answer-accepted rules _ v sound).0 told in
            ((answer-accepted rules tt tt sound).1 (h.0, refl), h.1),
        λ h. (answer-accepted rules _ v sound).1
            (((answer-accepted rules tt tt sound).0 h.0).0, h.1),
      )

-- the rules of the plain check are numbered 21 to 29
plain-numbers : (m : Model) (p : Plan) → AllNumbers OfVerdict (plain_rules m p)
unfolding plain_rules check_rules
plain-numbers m p =
    (lit≤ tt, lit≤ tt)
    & (lit≤ tt, lit≤ tt)
    & (lit≤ tt, lit≤ tt)
    & (lit≤ tt, lit≤ tt)
    & (lit≤ tt, lit≤ tt)
    & (lit≤ tt, lit≤ tt)
    & (lit≤ tt, lit≤ tt)
    & (lit≤ tt, lit≤ tt)
    & tt

-- and no rule that an edit is tried by is
not_of_form : (k : ℕ) → OfForm k → ¬ OfVerdict k
not_of_form k t v =
    false≢true (sym (of_form k k t v.0 (omega (arith, v.1))) ∙ eq-eqb k k refl)

edit_numbers : (s r : List ℕ) (e : Edit) → AllNumbers (λ k. ¬ OfVerdict k) (edit_checks s r e)
unfolding edit_checks rule58 rule59 rule60
edit_numbers s r e =
    let form : (rules : List Rule) → AllNumbers OfForm rules → AllNumbers (λ k. ¬ OfVerdict k) rules =
    λ rules numbers. rules_follow _ _ rules (λ rule t. not_of_form rule.number t) numbers in
    rules_append _ (model_form s) _ (form (model_form s) (model-numbers s))
    (rules_append _ (plan_form (model s) r) _ (form (plan_form (model s) r) (plan-numbers (model s) r))
    ((λ v. omega (arith, v.1)) & (λ v. omega (arith, v.1)) & (λ v. omega (arith, v.1)) & tt))

of_verdict : (s r : List ℕ) (e : Edit) (x : Refusal) → Bytes r → ask_answer s r e ≡ accepted (refused x) → OfVerdict x.number
of_verdict s r e x b told =
    let h = (verdict-told s r e (refused x)).0 told in
    let after = edit_bytes s r e in
    let m = model s in
    let p = plan after in
    let plain = plain-past-form s after (passed s r e h.0).meets_form (edit_made s r e b h.0).still_formed in
    first-broken-number OfVerdict (plain_rules m p) x (plain-numbers m p)
    ((verdict-refused (plain_rules m p) (plain_verdict s after) (figures m p) x (plain_rules_sound m p) plain).0 h.1)

of_refusal : (s r : List ℕ) (e : Edit) (x : Refusal) → ask_answer s r e ≡ refused x → ¬ OfVerdict x.number
unfolding ask_answer
of_refusal s r e x said =
    first-broken-number (λ k. ¬ OfVerdict k) (edit_checks s r e) x (edit_numbers s r e)
    ((answer-refused (edit_checks s r e) _ x (edit_checks_sound s r e)).0 said)

pub asks_tell : AsksTell
unfolding ask_state leaves
asks_tell s r state e = record {
  refused_alike = refused_alike s r e;
  verdict = verdict-told s r e;
  of_verdict = of_verdict s r e;
  of_refusal = of_refusal s r e;
  no_byte = refl;
  asked = λ v told. ap (λ (y : Editing). y.asked) (where_unrefused (ask_answer s r e) v _ _ told);
  erased = λ x said. ap (λ (y : Editing). y.asked) (where_refused (ask_answer s r e) x _ _ said);
}

-- ---- a direct edit

pub edits_leave : EditsLeave
unfolding edit_state
edits_leave s r state e = record {
  erased = λ done. ap (λ (y : Editing). y.asked) (where_unrefused (edit_answer s r e) tt _ _ done);
  nothing_changed = λ x said. where_refused (edit_answer s r e) x _ _ said;
}

-- ---- a keep

rule61_sound : (asked : Asked) → Sound (rule61 asked)
unfolding rule61
rule61_sound None a b = (λ t. absurd t, λ f. absurd (f refl))
rule61_sound (Some e) a b = (λ _ same. let z : ◌≡◌ {A = ℕ} 0 1 = cc in omega arith, λ _. tt)

asked_sound : (m : Model) (p : Plan) (asked : Asked) → AllSound (asked_rules m p asked)
asked_sound m p None = tt
asked_sound m p (Some e) = edit_rules_sound m p e

pub keep_checks_sound : (s r : List ℕ) (asked : Asked) → AllSound (keep_checks s r asked)
unfolding keep_checks
keep_checks_sound s r asked = records_sound s r _ (rule61_sound asked, asked_sound (model s) (plan r) asked)

-- what the form of the records refuses is refused, whatever is asked
pub keep_stops : (s r : List ℕ) (asked : Asked) (x : Refusal) → view_refusal s r ≡ some x → keep_answer s r asked ≡ refused x
unfolding keep_answer keep_checks answer
keep_stops s r asked x first = said_by _ (some x) (records_stop s r _ x first)

-- with nothing asked, and records that pass: 61, and so it is never done
pub keep_61 : (s r : List ℕ) → view_refusal s r ≡ none → keep_answer s r None ≡ refused_by 61
unfolding keep_answer keep_checks rule61 answer
keep_61 s r pass =
    said_by _ (some (record { number = 61; A = 0; B = 0 }))
    (records_past s r (rule61 None ∷ []) pass ∙ rule_picked (rule61 None) [] refl refl)

pub keep_unasked : (s r : List ℕ) → ¬ (keep_answer s r None ≡ accepted tt)
keep_unasked s r done = by (view_refusal s r) refl
  where
    by : (o : Option Refusal) → view_refusal s r ≡ o → ⊥
    by none pass = accepted_is_not-refused tt _ (sym done ∙ keep_61 s r pass)
    by (some x) first = accepted_is_not-refused tt x (sym done ∙ keep_stops s r None x first)

-- with an edit asked: as the direct edit
pub keep-direct : (s r : List ℕ) (e : Edit) → keep_answer s r (Some e) ≡ edit_answer s r e
unfolding keep_answer keep_checks edit_answer edit_checks rule61
keep-direct s r e =
    said_by _ _
    (append_same (model_form s) _ _ (append_same (plan_form (model s) r) _ _ (rule_goes_on (rule61 (Some e)) _ holds)))
  where
    holds : break (rule61 (Some e)) ≡ none
    holds =
        (break-none (rule61 (Some e)) (rule61_sound (Some e))).1 (λ _ _ _ _ same.
        let z : ◌≡◌ {A = ℕ} 0 1 = cc in omega arith)

-- a refused keep leaves the bytes as they were
keep-leaves : (s r : List ℕ) (asked : Asked) (x : Refusal) → keep_answer s r asked ≡ refused x → keep_bytes s r asked ≡ r
unfolding keep_bytes
keep-leaves s r None x said = refl
keep-leaves s r (Some e) x said = (edits_are_tried s r e).nothing_changed x (sym (keep-direct s r e) ∙ said)

pub keeps_are_tried : KeepsAreTried
unfolding keep_answer keep_bytes keep_state
keeps_are_tried s r state =
    let asked = state.asked in
    let sound = keep_checks_sound s r asked in
    record {
      unrefused_where = (
        λ a. ((answer-accepted (keep_checks s r asked) tt tt sound).0 a).0,
        λ h. (answer-accepted (keep_checks s r asked) tt tt sound).1 (h, refl),
      );
      names = λ x. answer-refused (keep_checks s r asked) tt x sound;
      records_first = λ x first. keep_stops s r asked x first;
      where_nothing_asked = λ is pass. ap (keep_answer s r) is ∙ keep_61 s r pass;
      as_direct = λ e is. (ap (keep_answer s r) is ∙ keep-direct s r e, ap (keep_bytes s r) is);
      erased = λ done. ap (λ (y : Editing). y.asked) (where_unrefused (keep_answer s r asked) tt _ _ done);
      nothing_changed = λ x said. (
        keep-leaves s r asked x said,
        where_refused (keep_answer s r asked) x _ _ said,
      );
    }
