-- What a call answers: each test decides its rule, the records come first, and then 58, 59 and 60.
-- Assumes nothing.
use Prim.Native.Nat.{ℕ, ◌≤◌, ◌<◌}
use native.Mathlib.Decide.{dec_lt}
use native.Mathlib.Omega.{arith}
use mathlib.Core.Bool.{Bool, true, false, not, cond}
use mathlib.Core.List.{List, [], ◌++◌, append_assoc}
use mathlib.Core.Logic.Iff
use mathlib.Core.Logic.{◌↔◌}
use mathlib.Core.Option.{Option, some, none}
use mathlib.Core.Path.{◌≡◌, refl, sym, ap, ◌∙◌}
use lib.Dec.{T, ltb, ltb→lt, lt→ltb}
use Rattle.schedule.specs.Rule.{Rule, Refusal, first_break}
use Rattle.schedule.specs.Model.{Model, model, model_form}
use Rattle.schedule.specs.Plan.{Plan, plan, active, plan_form}
use Rattle.schedule.specs.Answers.{Answer, accepted, refused, answer, MeetsForm, WellFormed}
use Rattle.schedule.specs.Streams.{view_refusal}
use Rattle.laws.proofs.Tests.{T_ltb}
use Rattle.laws.proofs.FirstBreak.{AllSound, none_iff, append_none, append_some, hold_append, sound_append}
use Rattle.laws.proofs.Sound.{model_form_sound, plan_form_sound}
use Rattle.laws.proofs.VerdictLaws.{answer-accepted, answer-refused}
use Rattle.records.specs.Reads.{pick}
use Rattle.records.proofs.Reading.{rule_picked, rule_end}
use Rattle.edit_rules.specs.declared.Edit.{Edit}
use Rattle.edit_rules.specs.Edits.{rule58, rule59, rule60, edit_rules, edit_checks, edit_answer, if_unrefused, edit_bytes}
use Rattle.edit_rules.specs.Statements.{EditsAreTried, refused_by, InGrid, EditsAreAnswered}

-- ---- the tests

-- the bit is not as the edit wants it
abbrev pub free : Bool → Bool → Bool
free on now = cond on (not now) now

free_sound : (on now : Bool) → T (free on now) ↔ (¬ (now ≡ on))
free_sound true true = (λ t _. t, λ f. f refl)
free_sound true false = (λ _ e. let z : ◌≡◌ {A = ℕ} 0 1 = cc in omega arith, λ _. tt)
free_sound false true = (λ _ e. let z : ◌≡◌ {A = ℕ} 0 1 = cc in omega arith, λ _. tt)
free_sound false false = (λ t _. t, λ f. f refl)

pub edit_rules_sound : (m : Model) (p : Plan) (e : Edit) → AllSound (edit_rules m p e)
unfolding rule58 rule59 rule60
edit_rules_sound m p e = (
  λ _ _. T_ltb e.activity m.activities,
  (λ _ _. T_ltb e.tick m.horizon, (λ _ _. free_sound e.on (active p e.tick e.activity), tt)),
)

-- so does each of the rules that follow the form of both records
pub records_sound : (s r : List ℕ) (rules : List Rule) → AllSound rules
    → AllSound (model_form s ++ (plan_form (model s) r ++ rules))
records_sound s r rules sound =
    (sound_append (model_form s) _).1
    (model_form_sound s, (sound_append (plan_form (model s) r) rules).1 (plan_form_sound (model s) r, sound))

pub edit_checks_sound : (s r : List ℕ) (e : Edit) → AllSound (edit_checks s r e)
unfolding edit_checks
edit_checks_sound s r e = records_sound s r _ (edit_rules_sound (model s) (plan r) e)

-- ---- the records first

-- what the form of both records refuses is refused, whatever rules follow
pub records_stop : (s r : List ℕ) (rules : List Rule) (x : Refusal) → view_refusal s r ≡ some x
    → first_break (model_form s ++ (plan_form (model s) r ++ rules)) ≡ some x
unfolding view_refusal
records_stop s r rules x first =
    ap first_break (sym (append_assoc (model_form s) (plan_form (model s) r) rules))
    ∙ append_some (model_form s ++ plan_form (model s) r) rules x first

-- and behind records that pass, the rules that follow decide
pub records_past : (s r : List ℕ) (rules : List Rule) → view_refusal s r ≡ none
    → first_break (model_form s ++ (plan_form (model s) r ++ rules)) ≡ first_break rules
unfolding view_refusal
records_past s r rules pass =
    ap first_break (sym (append_assoc (model_form s) (plan_form (model s) r) rules))
    ∙ append_none (model_form s ++ plan_form (model s) r) rules pass

-- the answer of a call without figures, by the first break
pub said_by : (rules : List Rule) (o : Option Refusal) → first_break rules ≡ o
    → answer (first_break rules) tt ≡ answer {F = Unit {0}} o tt
said_by rules o e = ap (λ (x : Option Refusal). answer x tt) e

-- what is taken by an answer
pub where_unrefused : {F A : Type 0} (said : Answer F) (pass : F) (done turned_away : A) → said ≡ accepted pass
    → if_unrefused said done turned_away ≡ done
where_unrefused said pass done turned_away e = ap (λ (o : Answer _). if_unrefused o done turned_away) e

pub where_refused : {F A : Type 0} (said : Answer F) (x : Refusal) (done turned_away : A) → said ≡ refused x
    → if_unrefused said done turned_away ≡ turned_away
where_refused said x done turned_away e = ap (λ (o : Answer _). if_unrefused o done turned_away) e

-- ---- of any bytes

pub edits_are_tried : EditsAreTried
unfolding edit_answer edit_bytes edit_checks answer
edits_are_tried s r e =
    let sound = edit_checks_sound s r e in
    record {
      unrefused_where = (
        λ a. ((answer-accepted (edit_checks s r e) tt tt sound).0 a).0,
        λ h. (answer-accepted (edit_checks s r e) tt tt sound).1 (h, refl),
      );
      names = λ x. answer-refused (edit_checks s r e) tt x sound;
      records_first = λ x first. said_by _ (some x) (records_stop s r (edit_rules (model s) (plan r) e) x first);
      nothing_changed = λ x said. where_refused (edit_answer s r e) x _ r said;
    }

-- what an unrefused call has passed
pub record Passed (s r : List ℕ) (e : Edit) : Type 0 where
  pub meets_form : MeetsForm s
  pub well_formed : WellFormed s r
  pub activity : e.activity < (model s).activities
  pub tick : e.tick < (model s).horizon

pub passed : (s r : List ℕ) (e : Edit) → edit_answer s r e ≡ accepted tt → Passed s r e
unfolding edit_checks rule58 rule59 rule60
passed s r e done =
    let all = (hold_append (model_form s) _).0 ((edits_are_tried s r e).unrefused_where.0 done) in
    let behind = (hold_append (plan_form (model s) r) _).0 all.1 in
    record {
      meets_form = all.0;
      well_formed = behind.0;
      activity = behind.1.0 0 0 (omega arith) (omega arith);
      tick = behind.1.1.0 0 0 (omega arith) (omega arith);
    }

-- ---- behind the records

-- 58, 59 and 60 by their tests, and what is answered then
abbrev pub picked : Bool → Bool → Bool → Option Refusal
picked x y z = pick x 58 (pick y 59 (pick z 60 none))

pub edit_break : (m : Model) (p : Plan) (e : Edit)
    → first_break (edit_rules m p e)
    ≡ picked (ltb e.activity m.activities) (ltb e.tick m.horizon) (free e.on (active p e.tick e.activity))
unfolding rule58 rule59 rule60
edit_break m p e =
    rule_picked (rule58 m e) _ refl refl
    ∙ ap (pick (ltb e.activity m.activities) 58)
    (rule_picked (rule59 m e) _ refl refl
    ∙ ap (pick (ltb e.tick m.horizon) 59)
    (rule_picked (rule60 p e) [] refl refl ∙ ap (pick (free e.on (active p e.tick e.activity)) 60) rule_end))

abbrev said : Bool → Bool → Bool → Answer (Unit {0})
said x y z = answer (picked x y z) tt

-- the number of an answer, 0 where it is unrefused, tells the four apart
abbrev number_of : Answer (Unit {0}) → ℕ
number_of (accepted _) = 0
number_of (refused x) = x.number

is_58 : (x y z : Bool) → (said x y z ≡ refused_by 58) ↔ (¬ T x)
unfolding answer
is_58 false y z = (λ _ t. t, λ _. refl)
is_58 true false z = (λ e. absurd (omega (arith, ap number_of e)), λ f. absurd (f tt))
is_58 true true false = (λ e. absurd (omega (arith, ap number_of e)), λ f. absurd (f tt))
is_58 true true true = (λ e. absurd (omega (arith, ap number_of e)), λ f. absurd (f tt))

is_59 : (x y z : Bool) → (said x y z ≡ refused_by 59) ↔ (T x × ¬ T y)
unfolding answer
is_59 false y z = (λ e. absurd (omega (arith, ap number_of e)), λ h. absurd h.0)
is_59 true false z = (λ _. (tt, λ t. t), λ _. refl)
is_59 true true false = (λ e. absurd (omega (arith, ap number_of e)), λ h. absurd (h.1 tt))
is_59 true true true = (λ e. absurd (omega (arith, ap number_of e)), λ h. absurd (h.1 tt))

is_60 : (x y z : Bool) → (said x y z ≡ refused_by 60) ↔ ((T x × T y) × ¬ T z)
unfolding answer
is_60 false y z = (λ e. absurd (omega (arith, ap number_of e)), λ h. absurd h.0.0)
is_60 true false z = (λ e. absurd (omega (arith, ap number_of e)), λ h. absurd h.0.1)
is_60 true true false = (λ _. ((tt, tt), λ t. t), λ _. refl)
is_60 true true true = (λ e. absurd (omega (arith, ap number_of e)), λ h. absurd (h.1 tt))

is_done : (x y z : Bool) → (said x y z ≡ accepted tt) ↔ ((T x × T y) × T z)
unfolding answer
is_done false y z = (λ e. absurd (omega (arith, ap number_of e)), λ h. absurd h.0.0)
is_done true false z = (λ e. absurd (omega (arith, ap number_of e)), λ h. absurd h.0.1)
is_done true true false = (λ e. absurd (omega (arith, ap number_of e)), λ h. absurd h.1)
is_done true true true = (λ _. ((tt, tt), tt), λ _. refl)

not-below : (a b : ℕ) → (¬ T (ltb a b)) ↔ (b ≤ a)
not-below a b = (
  λ f. elim (dec_lt a b) [ yes l ↦ absurd (f (lt→ltb a b l)) | no l ↦ omega arith ],
  λ h t. omega (arith, ltb→lt a b t),
)

-- what 58 to 60 answer by themselves, which is what a call answers behind the records
abbrev pub rules_answer : Model → Plan → Edit → Answer (Unit {0})
rules_answer m p e = answer (first_break (edit_rules m p e)) tt

pub behind_records : (s r : List ℕ) (e : Edit) → view_refusal s r ≡ none → edit_answer s r e ≡ rules_answer (model s) (plan r) e
unfolding edit_answer edit_checks
behind_records s r e pass = said_by _ _ (records_past s r (edit_rules (model s) (plan r) e) pass)

-- records of right form are refused by no view
pub forms_pass : (s r : List ℕ) → MeetsForm s → WellFormed s r → view_refusal s r ≡ none
unfolding view_refusal
forms_pass s r meets formed =
    append_none (model_form s) (plan_form (model s) r) ((none_iff (model_form s) (model_form_sound s)).1 meets)
    ∙ (none_iff (plan_form (model s) r) (plan_form_sound (model s) r)).1 formed

module _ (m : Model) (p : Plan) (e : Edit) where
  abbrev x : Bool
  x = ltb e.activity m.activities

  abbrev y : Bool
  y = ltb e.tick m.horizon

  abbrev z : Bool
  z = free e.on (active p e.tick e.activity)

  pub rules-said : rules_answer m p e ≡ said x y z
  rules-said = ap (λ (o : Option Refusal). answer o tt) (edit_break m p e)

  pub rules_58 : m.activities ≤ e.activity → rules_answer m p e ≡ refused_by 58
  rules_58 h = rules-said ∙ (is_58 x y z).1 ((not-below e.activity m.activities).1 h)

  module _ (a : e.activity < m.activities) where
    pub rules_59 : m.horizon ≤ e.tick → rules_answer m p e ≡ refused_by 59
    rules_59 h =
        rules-said ∙ (is_59 x y z).1 (lt→ltb e.activity m.activities a, (not-below e.tick m.horizon).1 h)

    module _ (t : e.tick < m.horizon) where
      in_grid : T x × T y
      in_grid = (lt→ltb e.activity m.activities a, lt→ltb e.tick m.horizon t)

      pub rules_60 : ¬ T z → rules_answer m p e ≡ refused_by 60
      rules_60 h = rules-said ∙ (is_60 x y z).1 (in_grid, h)

      pub rules-done : T z → rules_answer m p e ≡ accepted tt
      rules-done h = rules-said ∙ (is_done x y z).1 (in_grid, h)

taken : (on now : Bool) → (¬ T (free on now)) ↔ (now ≡ on)
taken true true = (λ _. refl, λ _ t. t)
taken true false = (λ f. absurd (f tt), λ same _. (free_sound true false).0 tt same)
taken false true = (λ f. absurd (f tt), λ same _. (free_sound false true).0 tt same)
taken false false = (λ _. refl, λ _ t. t)

pub edits_are_answered : EditsAreAnswered
edits_are_answered s r e meets formed = record {
  outside_m = Iff.trans (is (refused_by 58)) (Iff.trans (is_58 x' y' z') (not-below e.activity (model s).activities));
  outside_H = Iff.trans (is (refused_by 59)) (Iff.trans (is_59 x' y' z')
      (Iff.and (T_ltb e.activity (model s).activities) (not-below e.tick (model s).horizon)));
  already_so = Iff.trans (is (refused_by 60)) (Iff.trans (is_60 x' y' z')
      (Iff.and in_range (taken e.on (active (plan r) e.tick e.activity))));
  done = Iff.trans (is (accepted tt)) (Iff.trans (is_done x' y' z')
      (Iff.and in_range (free_sound e.on (active (plan r) e.tick e.activity))));
}
  where
    x' : Bool
    x' = x (model s) (plan r) e

    y' : Bool
    y' = y (model s) (plan r) e

    z' : Bool
    z' = z (model s) (plan r) e

    in_range : (T x' × T y') ↔ InGrid s e
    in_range = Iff.and (T_ltb e.activity (model s).activities) (T_ltb e.tick (model s).horizon)

    is : (k : Answer (Unit {0})) → (edit_answer s r e ≡ k) ↔ (said x' y' z' ≡ k)
    is k =
        let answered = behind_records s r e (forms_pass s r meets formed) ∙ rules-said (model s) (plan r) e in
        (λ a. sym answered ∙ a, λ a. answered ∙ a)
