-- No two answers of an edit, a keep or an ask say the same, and none of them is the number that is out of the book.
-- Assumes nothing.
use Prim.Native.Nat.{ℕ}
use native.Mathlib.Omega.{arith}
use mathlib.Core.List.{List, ◌++◌}
use mathlib.Core.Path.{◌≡◌, refl, sym, ap, subst}
use Rattle.schedule.specs.Rule
use Rattle.schedule.specs.Model.{Model, model, model_form}
use Rattle.schedule.specs.Plan.{Plan, plan, plan_form}
use Rattle.schedule.specs.Retired.{retired, AnswerNotRetired}
use Rattle.schedule.specs.Numbers.{refusal_numbers, verdict_numbers}
use Rattle.schedule.specs.declared.Refusal.{Refusal}
use Rattle.laws.proofs.FirstBreak.{◌&◌}
use Rattle.laws.proofs.NumbersLaws.{unused, never_24, refusal_injective, verdict_injective}
use Rattle.laws.proofs.RuleNumbers.{AllRules, rules_append}
use Rattle.demands.proofs.Rule24.{Other, behind_form, plan-other, answer-other, never_used}
use Rattle.edit_rules.specs.declared.Edit.{Edit}
use Rattle.edit_rules.specs.declared.EditRefusal.{EditRefusal}
use Rattle.edit_rules.specs.declared.Reason.{Reason}
use Rattle.edit_rules.specs.declared.Unkept.{Unkept}
use Rattle.std.specs.Prelude.{Some, None, Ok, Err}
use Rattle.edit_rules.specs.Keeping.{Asked}
use Rattle.edit_rules.specs.Edits.{rule58, rule59, rule60, edit_rules, edit_checks, edit_answer, edit_bytes}
use Rattle.edit_rules.specs.Keeping.{ask_answer, rule61, asked_rules, keep_checks, keep_answer}
use Rattle.edit_rules.specs.EditNumbers.{Edited, Kept, Told, edit_number, reason_numbers, edited_numbers, unkept_numbers, kept_numbers, told_numbers}
use Rattle.edit_rules.specs.Statements.{EditsNever}
use Rattle.edit_rules.specs.KeepStatements.{KeepsNever}
use Rattle.edit_rules.proofs.AnswerLaws.{edit_checks_sound}
use Rattle.edit_rules.proofs.KeepLaws.{verdict-told, keep_checks_sound}

-- ---- equal numbers mean equal answers

-- 58, 59 and 60 are numbers of no other refusal
edit_apart : (x : Refusal) (why : EditRefusal) → ¬ ((refusal_numbers x).number ≡ edit_number why)
edit_apart x EditRefusal.Activity = unused 58 (λ at e. omega (arith, e)) x
edit_apart x EditRefusal.Tick = unused 59 (λ at e. omega (arith, e)) x
edit_apart x EditRefusal.Bit = unused 60 (λ at e. omega (arith, e)) x

edit_injective : (x y : EditRefusal) → edit_number x ≡ edit_number y → x ≡ y
edit_injective EditRefusal.Activity EditRefusal.Activity e = refl
edit_injective EditRefusal.Activity EditRefusal.Tick e = absurd (omega (arith, e))
edit_injective EditRefusal.Activity EditRefusal.Bit e = absurd (omega (arith, e))
edit_injective EditRefusal.Tick EditRefusal.Activity e = absurd (omega (arith, e))
edit_injective EditRefusal.Tick EditRefusal.Tick e = refl
edit_injective EditRefusal.Tick EditRefusal.Bit e = absurd (omega (arith, e))
edit_injective EditRefusal.Bit EditRefusal.Activity e = absurd (omega (arith, e))
edit_injective EditRefusal.Bit EditRefusal.Tick e = absurd (omega (arith, e))
edit_injective EditRefusal.Bit EditRefusal.Bit e = refl

-- and so is 61
asked-apart : (x : Refusal) → ¬ ((refusal_numbers x).number ≡ 61)
asked-apart x = unused 61 (λ at e. omega (arith, e)) x

edit_not_61 : (why : EditRefusal) → ¬ (edit_number why ≡ 61)
edit_not_61 EditRefusal.Activity e = omega (arith, e)
edit_not_61 EditRefusal.Tick e = omega (arith, e)
edit_not_61 EditRefusal.Bit e = omega (arith, e)

abbrev number : Rule.Refusal → ℕ
number x = x.number

pub reason_injective : (x y : Reason) → reason_numbers x ≡ reason_numbers y → x ≡ y
reason_injective (Reason.Record x) (Reason.Record y) e = ap Reason.Record (refusal_injective x y e)
reason_injective (Reason.Record x) (Reason.Edit y) e = absurd (edit_apart x y (ap number e))
reason_injective (Reason.Edit x) (Reason.Record y) e = absurd (edit_apart y x (sym (ap number e)))
reason_injective (Reason.Edit x) (Reason.Edit y) e = ap Reason.Edit (edit_injective x y (ap number e))

pub edited_injective : (x y : Edited) → edited_numbers x ≡ edited_numbers y → x ≡ y
edited_injective (Ok _) (Ok _) e = refl
edited_injective (Ok _) (Err y) e = let z : ◌≡◌ {A = ℕ} 0 1 = cc in absurd (omega arith)
edited_injective (Err x) (Ok _) e = let z : ◌≡◌ {A = ℕ} 0 1 = cc in absurd (omega arith)
edited_injective (Err x) (Err y) e =
    let same : reason_numbers x ≡ reason_numbers y = cc in
    ap Err (reason_injective x y same)

-- 61 is the number of no edit that is refused
reason_not_61 : (why : Reason) → ¬ ((reason_numbers why).number ≡ 61)
reason_not_61 (Reason.Record x) = asked-apart x
reason_not_61 (Reason.Edit x) = edit_not_61 x

unkept_injective : (x y : Unkept) → unkept_numbers x ≡ unkept_numbers y → x ≡ y
unkept_injective Unkept.NothingAsked Unkept.NothingAsked e = refl
unkept_injective Unkept.NothingAsked (Unkept.Edit y) e = absurd (reason_not_61 y (sym (ap number e)))
unkept_injective (Unkept.Edit x) Unkept.NothingAsked e = absurd (reason_not_61 x (ap number e))
unkept_injective (Unkept.Edit x) (Unkept.Edit y) e = ap Unkept.Edit (reason_injective x y e)

pub kept_injective : (x y : Kept) → kept_numbers x ≡ kept_numbers y → x ≡ y
kept_injective (Ok _) (Ok _) e = refl
kept_injective (Ok _) (Err y) e = let z : ◌≡◌ {A = ℕ} 0 1 = cc in absurd (omega arith)
kept_injective (Err x) (Ok _) e = let z : ◌≡◌ {A = ℕ} 0 1 = cc in absurd (omega arith)
kept_injective (Err x) (Err y) e =
    let same : unkept_numbers x ≡ unkept_numbers y = cc in
    ap Err (unkept_injective x y same)

pub told_injective : (x y : Told) → told_numbers x ≡ told_numbers y → x ≡ y
told_injective (Ok v) (Ok w) e =
    let same : verdict_numbers v ≡ verdict_numbers w = cc in
    ap Ok (verdict_injective v w same)
told_injective (Ok v) (Err y) e = let z : ◌≡◌ {A = ℕ} 0 1 = cc in absurd (omega arith)
told_injective (Err x) (Ok w) e = let z : ◌≡◌ {A = ℕ} 0 1 = cc in absurd (omega arith)
told_injective (Err x) (Err y) e =
    let same : reason_numbers x ≡ reason_numbers y = cc in
    ap Err (reason_injective x y same)

-- ---- the number that is out of the book

kinds_never : (why : EditRefusal) → ¬ (edit_number why ≡ retired)
kinds_never EditRefusal.Activity e = omega (arith, e)
kinds_never EditRefusal.Tick e = omega (arith, e)
kinds_never EditRefusal.Bit e = omega (arith, e)

reasons_never : (why : Reason) → ¬ ((reason_numbers why).number ≡ retired)
reasons_never (Reason.Record x) = never_24 x
reasons_never (Reason.Edit why) = kinds_never why

unkept_never : (why : Unkept) → ¬ ((unkept_numbers why).number ≡ retired)
unkept_never Unkept.NothingAsked = λ e. omega (arith, e)
unkept_never (Unkept.Edit why) = reasons_never why

edit_other : (m : Model) (p : Plan) (e : Edit) → AllRules Other (edit_rules m p e)
unfolding rule58 rule59 rule60
edit_other m p e = (λ k. omega (arith, k)) & (λ k. omega (arith, k)) & (λ k. omega (arith, k)) & tt

-- of what is tried behind the form of both records
behind_other : (s r : List ℕ) (rules : List Rule.Rule) → AllRules Other rules
    → AllRules Other (model_form s ++ (plan_form (model s) r ++ rules))
behind_other s r rules others = behind_form s _ (rules_append Other (plan_form (model s) r) rules (plan-other s r) others)

checks_other : (s r : List ℕ) (e : Edit) → AllRules Other (edit_checks s r e)
unfolding edit_checks
checks_other s r e = behind_other s r _ (edit_other (model s) (plan r) e)

asked-other : (m : Model) (p : Plan) (asked : Asked) → AllRules Other (asked_rules m p asked)
asked-other m p None = tt
asked-other m p (Some e) = edit_other m p e

keep-other : (s r : List ℕ) (asked : Asked) → AllRules Other (keep_checks s r asked)
unfolding keep_checks rule61
keep-other s r asked = behind_other s r _ ((λ k. omega (arith, k)) & asked-other (model s) (plan r) asked)

pub edits_never : EditsNever
unfolding edit_answer
edits_never = record {
  kinds = kinds_never;
  reasons = reasons_never;
  edits = λ s r e. answer-other (edit_checks s r e) tt (edit_checks_sound s r e) (checks_other s r e);
}

pub keeps_never : KeepsNever
unfolding ask_answer keep_answer
keeps_never = record {
  reasons = unkept_never;
  asking = λ s r e. answer-other (edit_checks s r e) _ (edit_checks_sound s r e) (checks_other s r e);
  telling = λ s r e v told.
      subst AnswerNotRetired ((verdict-told s r e v).0 told).1 (never_used.plain s (edit_bytes s r e));
  keeping = λ s r asked. answer-other (keep_checks s r asked) tt (keep_checks_sound s r asked) (keep-other s r asked);
}
