-- Rule 24 is implied by rule 21, so it changed no verdict: the checks without it answer as they did with it, and its number
-- is used no more.
-- Assumes nothing.
use Prim.Native.Nat.{ℕ}
use native.Mathlib.Decide.{dec_lt}
use native.Mathlib.Omega.{arith}
use mathlib.Core.Bool.{false≢true}
use mathlib.Core.List.{List, [], ◌∷◌, ◌++◌}
use mathlib.Core.Logic.Iff
use mathlib.Core.Logic.{⊎_elim}
use mathlib.Core.Path.{◌≡◌, refl, sym, ap, subst, ◌∙◌}
use borrow.Author.Tests.{eq-eqb}
use Rattle.schedule.specs.declared.ActivityRule.{ActivityRule}
use Rattle.schedule.specs.declared.RuleRefusal.{RuleRefusal}
use Rattle.schedule.specs.declared.TickRule.{TickRule}
use Rattle.schedule.specs.Rule.{Rule, Refusal, first_break, AllHold, FirstBroken}
use Rattle.schedule.specs.Model.{Model, model, model_form}
use Rattle.schedule.specs.Timing.{deadline_rule}
use Rattle.schedule.specs.Choice.{Choice, choice, choice_form}
use Rattle.schedule.specs.Plan.{Plan, plan, plan_form}
use Rattle.schedule.specs.Checks.{rule21, rules_of, plain_order, further_order, strict_order, plain_rules, strict_rules}
use Rattle.schedule.specs.Answers.{answer, figures, plain_checks, strict_checks, plain_verdict, strict_verdict}
use Rattle.schedule.specs.Answers.{owed_rule, run_rules, run_checks, length_needed, run_answer}
use Rattle.schedule.specs.Report.{rows_rule, report_rules, report_answer}
use Rattle.schedule.specs.Streams.{view_refusal}
use Rattle.schedule.specs.Retired.{retired, AnswerNotRetired, RefusalNotRetired}
use Rattle.schedule.specs.Opened.{check_rules}
use Rattle.laws.proofs.FirstBreak.{Sound, AllSound, append_same, sound_append, implied_rule, some_iff}
use Rattle.laws.proofs.NumbersLaws.{never_24, forms_never_24, rules_never_24, runs_never_24}
use Rattle.laws.proofs.RuleNumbers.{AllRules, AllNumbers, OfForm, rules_append, rules_follow, first-broken-number}
use Rattle.laws.proofs.RuleNumbers.{model-numbers, choice-numbers, plan-numbers, of_form}
use Rattle.laws.proofs.Sound.{rule-number, rules_sound, model_form_sound, plan_form_sound}
use Rattle.laws.proofs.Sound.{plain_checks_sound, strict_checks_sound, report_rules_sound}
use Rattle.laws.proofs.Tests.{tests}
use Rattle.laws.proofs.VerdictLaws.{answer-refused}
use Rattle.laws.proofs.Windows.{window_span}
use Rattle.demands.specs.Rule24.{
  rule24,
  former_plain,
  former_strict,
  verdict_by,
  CannotBreak24,
  StillKept,
  AsBefore,
  TakenOut,
  NeverUsed,
}
use Rattle.demands.proofs.Demand2.{run-input, run-input-refused, run-short-buffer, run-refused}

-- ---- the lists

pub taken_out : (m : Model) (p : Plan) → TakenOut m p
unfolding check_rules plain_rules strict_rules rule24 former_plain former_strict
taken_out m p = record { plain_before = refl; plain_now = refl; strict_before = refl; strict_now = refl }

-- ---- the rule

pub cannot_break_24 : CannotBreak24
unfolding rule21 rule24
cannot_break_24 m p a window = window_span m p a window

pub still_kept : StillKept
unfolding rule21 rule24
still_kept m p keeps a _ l _ = cannot_break_24 m p a (keeps.window a l)

-- its test decided its statement
pub rule24_sound : (m : Model) (p : Plan) → Sound (rule24 m p)
unfolding rule24
rule24_sound m p a b = simp tests Iff.rfl

-- ---- the verdicts

-- 21, 22 and 23, behind which it stood
abbrev front : List RuleRefusal
front = RuleRefusal.Activity ActivityRule.Window ∷ RuleRefusal.Activity ActivityRule.Count ∷ RuleRefusal.Activity ActivityRule.Deadline ∷ []

-- there it changes no first break, nor behind the form rules of both records
without_24 : (m : Model) (p : Plan) (after : List Rule)
    → first_break (rules_of front m p ++ after) ≡ first_break (rules_of front m p ++ (rule24 m p ∷ after))
unfolding rule21 rule24
without_24 m p after =
    sym (implied_rule (rules_of front m p) (rule24 m p) after (rules_sound front m p) (rule24_sound m p) (λ h a _ l _.
    cannot_break_24 m p a (h.0 a 0 l (omega arith))))

verdict-without_24 : (s r : List ℕ) (after : List Rule)
    → verdict_by (rules_of front (model s) (plan r) ++ after) s r
    ≡ verdict_by (rules_of front (model s) (plan r) ++ (rule24 (model s) (plan r) ∷ after)) s r
unfolding verdict_by
verdict-without_24 s r after =
    ap (λ o. answer o (figures (model s) (plan r)))
    (append_same (model_form s) _ _ (append_same (plan_form (model s) r) _ _ (without_24 (model s) (plan r) after)))

-- the rules behind it, and the former lists: today's with 24 between these and those in front
abbrev behind : List RuleRefusal
behind =
    RuleRefusal.Activity ActivityRule.Temporal
    ∷ RuleRefusal.Activity ActivityRule.Data
    ∷ RuleRefusal.Activity ActivityRule.Eligible
    ∷ RuleRefusal.Tick TickRule.Cores
    ∷ RuleRefusal.Tick TickRule.Preemption
    ∷ []

plain_was : (m : Model) (p : Plan) → former_plain m p ≡ rules_of front m p ++ (rule24 m p ∷ rules_of behind m p)
unfolding former_plain
plain_was m p = refl

strict_was : (m : Model) (p : Plan)
    → former_strict m p ≡ rules_of front m p ++ (rule24 m p ∷ rules_of (behind ++ further_order) m p)
unfolding former_plain former_strict
strict_was m p = refl

pub as_before : AsBefore
unfolding plain_verdict strict_verdict plain_checks strict_checks plain_rules strict_rules verdict_by
as_before = record {
  plain = λ s r.
      verdict-without_24 s r (rules_of behind (model s) (plan r))
      ∙ ap (λ rules. verdict_by rules s r) (sym (plain_was (model s) (plan r)));
  strict = λ s r.
      verdict-without_24 s r (rules_of (behind ++ further_order) (model s) (plan r))
      ∙ ap (λ rules. verdict_by rules s r) (sym (strict_was (model s) (plan r)));
}

-- ---- the number

-- a rule's number is another
abbrev pub Other : Rule → Type 0
Other r = ¬ (r.number ≡ retired)

-- of the records' form
form-other : (rules : List Rule) → AllNumbers OfForm rules → AllRules Other rules
form-other rules numbers =
    rules_follow (λ r. OfForm r.number) Other rules (λ r t e.
    false≢true (sym (of_form r.number retired t (omega arith) (omega arith)) ∙ eq-eqb r.number retired e))
    numbers

-- of the checks
named_other : (m : Model) (p : Plan) (names : List RuleRefusal) → AllRules Other (rules_of names m p)
named_other m p [] = tt
named_other m p (name ∷ names) = (λ e. rules_never_24 name (rule-number m p name ∙ e), named_other m p names)

-- of what is tried behind a model's form rules
pub behind_form : (s : List ℕ) (rules : List Rule) → AllRules Other rules → AllRules Other (model_form s ++ rules)
behind_form s rules others = rules_append Other (model_form s) rules (form-other (model_form s) (model-numbers s)) others

pub plan-other : (s r : List ℕ) → AllRules Other (plan_form (model s) r)
plan-other s r = form-other (plan_form (model s) r) (plan-numbers (model s) r)

checks_other : (s r : List ℕ) (names : List RuleRefusal)
    → AllRules Other (model_form s ++ (plan_form (model s) r ++ rules_of names (model s) (plan r)))
checks_other s r names =
    behind_form s _ (rules_append Other (plan_form (model s) r) _ (plan-other s r) (named_other (model s) (plan r) names))

-- of the run, behind its input and by itself, and of the report
input-other : (s q : List ℕ) → AllRules Other (run_checks s q)
unfolding run_checks
input-other s q = behind_form s _ (form-other (choice_form (model s) q) (choice-numbers (model s) q))

run-other : (m : Model) (q : Choice) → AllRules Other (run_rules m q)
unfolding run_rules owed_rule deadline_rule
run-other m q = ((λ e. omega (arith, e)), ((λ e. omega (arith, e)), tt))

report-other : (s q : List ℕ) (lent : ℕ) → AllRules Other (report_rules s q lent)
unfolding report_rules rows_rule
report-other s q lent =
    rules_append Other (run_checks s q) _ (input-other s q) ((λ e. omega (arith, e)), run-other (model s) (choice q))

-- so no first break of such rules has it, and no answer by them
break-other : (rules : List Rule) → AllSound rules → AllRules Other rules → RefusalNotRetired (first_break rules)
break-other rules sound others x e =
    first-broken-number (λ k. ¬ (k ≡ retired)) rules x others ((some_iff rules x sound).0 e)

pub answer-other : {F : Type 0} (rules : List Rule) (pass : F) → AllSound rules → AllRules Other rules
    → AnswerNotRetired (answer (first_break rules) pass)
answer-other rules pass sound others x e =
    first-broken-number (λ k. ¬ (k ≡ retired)) rules x others ((answer-refused rules pass x sound).0 e)

-- nor has the run's: the first break of its input, 41, or that of 42 and 43
run-answer-other : (s q : List ℕ) (room : ℕ) → AnswerNotRetired (run_answer s q room)
run-answer-other s q room x e =
    ⊎_elim
    (λ (all : AllHold (run_checks s q)). elim (dec_lt room (length_needed (model s))) [
      | yes short ↦
          let answered = run-short-buffer s q room all short in
          let same : record { number = 41; A = length_needed (model s); B = 0 } ≡ x = cc in
          subst (λ (y : Refusal). ¬ (y.number ≡ retired)) same (λ (is : 41 ≡ retired). omega (arith, is))
      | no enough ↦
          first-broken-number (λ k. ¬ (k ≡ retired)) (run_rules (model s) (choice q)) x (run-other (model s) (choice q))
          ((run-refused s q room x all (omega arith)).0 e)
    ])
    (λ (b : (y : Refusal) × FirstBroken (run_checks s q) y).
    let answered = run-input-refused s q room b.0 b.1 in
    let same : b.0 ≡ x = cc in
    subst (λ (y : Refusal). ¬ (y.number ≡ retired)) same
    (first-broken-number (λ k. ¬ (k ≡ retired)) (run_checks s q) b.0 (input-other s q) b.1))
    (run-input s q)

pub never_used : NeverUsed
unfolding plain_verdict strict_verdict plain_checks strict_checks plain_rules strict_rules report_answer view_refusal
never_used = record {
  forms = forms_never_24;
  rules = rules_never_24;
  runs = runs_never_24;
  any = never_24;
  plain = λ s r. answer-other _ _ (plain_checks_sound s r) (checks_other s r plain_order);
  strict = λ s r. answer-other _ _ (strict_checks_sound s r) (checks_other s r strict_order);
  run = run-answer-other;
  report = λ s q lent. answer-other _ _ (report_rules_sound s q lent) (report-other s q lent);
  view = λ s r.
      break-other _ ((sound_append (model_form s) _).1 (model_form_sound s, plan_form_sound (model s) r))
      (behind_form s _ (plan-other s r));
}
