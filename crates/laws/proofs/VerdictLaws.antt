-- What the verdict on a list of rules says of the rules, and of the rules that stand behind the two records' form.
-- Assumes nothing.
use Prim.Native.Nat.{ℕ, ◌≤◌, ◌<◌}
use mathlib.Core.Bool.{false}
use mathlib.Core.List.{List, ◌∷◌, ◌++◌, append_assoc}
use mathlib.Core.Logic.Iff
use mathlib.Core.Logic.{◌↔◌}
use mathlib.Core.Option.{Option, some, none, some-ne-none, none-ne-some}
use mathlib.Core.Path.{◌≡◌, refl, sym, ◌∙◌, ap}
use native.Mathlib.Omega.{arith}
use lib.Dec.{eqb}
use borrow.Author.Tests.{lt-ltb, le-ltb, lt-leb, le-leb}
use Rattle.schedule.specs.Bounded.{first}
use Rattle.schedule.specs.Rule.{Rule, Refusal, break, first_break, AllHold, FirstBroken}
use Rattle.schedule.specs.Model.{Model, model, model_form}
use Rattle.schedule.specs.Choice.{Choice, choice, choice_form}
use Rattle.schedule.specs.Plan.{plan, plan_form}
use Rattle.schedule.specs.Checks.{rules_of, plain_order, further_order, plain_rules, strict_rules}
use Rattle.schedule.specs.Answers.{Answer, accepted, refused, answer, figures}
use Rattle.schedule.specs.Answers.{plain_checks, strict_checks, plain_verdict, strict_verdict}
use Rattle.schedule.specs.Answers.{run_rules, length_needed, written, run_checks, answer_of, run_answer}
use Rattle.schedule.specs.Answers.{from_input, from_buffer, from_run, succeeded, concluded, outcome, run_outcome}
use Rattle.schedule.specs.Report.{rows_needed, rows_rule, report_rules, report_answer}
use Rattle.laws.proofs.FirstBreak.{AllSound, none_iff, some_iff, append_none, append_some}
use Rattle.laws.proofs.Named.{rules_of_append}
use Rattle.laws.proofs.RuleNumbers.{AllNumbers, rules_append, first-broken-number}
use Rattle.laws.proofs.RuleNumbers.{OfForm, model-numbers, choice-numbers, of_form}
use Rattle.laws.proofs.Sound.{model_form_sound, plan_form_sound, run_checks_sound}

-- a call answers a pass, or a refusal, and never both
pub accepted_is_not-refused : {F : Type 0} (f : F) (x : Refusal) → ¬ (accepted f ≡ refused x)
accepted_is_not-refused f x e = let z : ◌≡◌ {A = ℕ} 0 1 = cc in omega arith

answer-none : {F : Type 0} (o : Option Refusal) (pass f : F) → (answer o pass ≡ accepted f) ↔ ((o ≡ none) × (pass ≡ f))
unfolding answer
answer-none none pass f = (λ e. (refl, cc), λ h. ap {B = Answer _} accepted h.1)
answer-none (some x) pass f = (
  λ e. absurd (accepted_is_not-refused f x (sym e)),
  λ h. absurd (some-ne-none x h.0),
)

answer-some : {F : Type 0} (o : Option Refusal) (pass : F) (x : Refusal) → (answer o pass ≡ refused x) ↔ (o ≡ some x)
unfolding answer
answer-some none pass x = (
  λ e. absurd (accepted_is_not-refused pass x e),
  λ e. absurd (none-ne-some x e),
)
answer-some (some y) pass x = (λ e. cc, λ e. cc)

-- of any list of rules and any pass: accepted exactly where every rule holds, refused exactly with the first broken
pub answer-accepted : {F : Type 0} (rules : List Rule) (pass f : F) → AllSound rules
    → (answer (first_break rules) pass ≡ accepted f) ↔ (AllHold rules × (pass ≡ f))
answer-accepted rules pass f s =
    Iff.trans (answer-none (first_break rules) pass f) (Iff.and (none_iff rules s) Iff.rfl)

pub answer-refused : {F : Type 0} (rules : List Rule) (pass : F) (x : Refusal) → AllSound rules
    → (answer (first_break rules) pass ≡ refused x) ↔ FirstBroken rules x
answer-refused rules pass x s = Iff.trans (answer-some (first_break rules) pass x) (some_iff rules x s)

-- behind two records of right form, only the rules that follow count
pub past-form : (s r : List ℕ) (rules : List Rule) → AllHold (model_form s) → AllHold (plan_form (model s) r)
    → first_break (model_form s ++ (plan_form (model s) r ++ rules)) ≡ first_break rules
past-form s r rules hm hp =
    append_none (model_form s) _ ((none_iff (model_form s) (model_form_sound s)).1 hm)
    ∙ append_none (plan_form (model s) r) rules ((none_iff (plan_form (model s) r) (plan_form_sound (model s) r)).1 hp)

pub plain-past-form : (s r : List ℕ) → AllHold (model_form s) → AllHold (plan_form (model s) r)
    → plain_verdict s r ≡ answer (first_break (plain_rules (model s) (plan r))) (figures (model s) (plan r))
unfolding plain_verdict plain_checks
plain-past-form s r hm hp = ap (λ o. answer o (figures (model s) (plan r))) (past-form s r _ hm hp)

pub strict-past-form : (s r : List ℕ) → AllHold (model_form s) → AllHold (plan_form (model s) r)
    → strict_verdict s r ≡ answer (first_break (strict_rules (model s) (plan r))) (figures (model s) (plan r))
unfolding strict_verdict strict_checks
strict-past-form s r hm hp = ap (λ o. answer o (figures (model s) (plan r))) (past-form s r _ hm hp)

-- a verdict that comes of a list of rules alone accepts exactly where they hold, and refuses with the first broken
pub verdict-accepted : {F : Type 0} (rules : List Rule) (verdict : Answer F) (pass : F) → AllSound rules
    → verdict ≡ answer (first_break rules) pass → (verdict ≡ accepted pass) ↔ AllHold rules
verdict-accepted rules verdict pass s e = (
  λ v. ((answer-accepted rules pass pass s).0 (sym e ∙ v)).0,
  λ h. e ∙ (answer-accepted rules pass pass s).1 (h, refl),
)

pub verdict-refused : {F : Type 0} (rules : List Rule) (verdict : Answer F) (pass : F) (x : Refusal) → AllSound rules
    → verdict ≡ answer (first_break rules) pass → (verdict ≡ refused x) ↔ FirstBroken rules x
verdict-refused rules verdict pass x s e = (
  λ v. (answer-refused rules pass x s).0 (sym e ∙ v),
  λ h. e ∙ (answer-refused rules pass x s).1 h,
)

-- the strict check's rules are the plain check's and some more
pub strict_extends : (s r : List ℕ) → strict_checks s r ≡ plain_checks s r ++ rules_of further_order (model s) (plan r)
unfolding strict_checks plain_checks strict_rules plain_rules
strict_extends s r = rw (rules_of_append (model s) (plan r) plain_order further_order) (simp append_assoc)

-- a number that 42 and 43 are not
abbrev pub OfInput : ℕ → Type 0
OfInput k = (eqb k 42 ≡ false) × (eqb k 43 ≡ false)

-- the input rules of the run and of the report: the model's, then the choice's
module _ (s q : List ℕ) where
  pub model_breaks : (x : Refusal) → first_break (model_form s) ≡ some x → first_break (run_checks s q) ≡ some x
  unfolding run_checks
  model_breaks x e = append_some (model_form s) (choice_form (model s) q) x e

  pub model-holds : first_break (model_form s) ≡ none → first_break (run_checks s q) ≡ first_break (choice_form (model s) q)
  unfolding run_checks
  model-holds e = append_none (model_form s) (choice_form (model s) q) e

  -- none of them is numbered 21 to 43
  pub input-numbers : AllNumbers OfForm (run_checks s q)
  unfolding run_checks
  input-numbers =
      rules_append (λ r. OfForm r.number) (model_form s) (choice_form (model s) q) (model-numbers s)
      (choice-numbers (model s) q)

  pub input-number : (x : Refusal) → first_break (run_checks s q) ≡ some x → OfInput x.number
  input-number x e =
      let broken = (some_iff (run_checks s q) x (run_checks_sound s q)).0 e in
      let number = first-broken-number OfForm (run_checks s q) x input-numbers broken in
      (of_form x.number 42 number (omega arith) (omega arith), of_form x.number 43 number (omega arith) (omega arith))

-- how the run ends: by the first break of its input rules
pub run-from-input : (s q : List ℕ) (room : ℕ) (x : Refusal) → first_break (run_checks s q) ≡ some x
    → run_outcome s q room ≡ from_input x
unfolding run_outcome
run-from-input s q room x e = rw (e, run_outcome)

pub run-past-input : (s q : List ℕ) (room : ℕ) → first_break (run_checks s q) ≡ none
    → run_outcome s q room ≡ outcome (model s) (choice q) room
unfolding run_outcome
run-past-input s q room e = rw (e, run_outcome)

-- by the buffer's room
pub outcome-short : (m : Model) (q : Choice) (room : ℕ) → room < length_needed m
    → outcome m q room ≡ from_buffer (record { number = 41; A = length_needed m; B = 0 })
unfolding outcome
outcome-short m q room l = rw (lt-ltb room (length_needed m) l)

pub outcome_fits : (m : Model) (q : Choice) (room : ℕ) → length_needed m ≤ room → outcome m q room ≡ concluded m q
unfolding outcome
outcome_fits m q room l = rw (le-ltb room (length_needed m) l)

-- by the first break of 42 and 43
pub concluded-refused : (m : Model) (q : Choice) (x : Refusal) → first_break (run_rules m q) ≡ some x
    → concluded m q ≡ from_run x
unfolding concluded
concluded-refused m q x e = rw (e, concluded)

pub concluded-succeeded : (m : Model) (q : Choice) → first_break (run_rules m q) ≡ none
    → concluded m q ≡ succeeded (written m q)
unfolding concluded
concluded-succeeded m q e = rw (e, concluded)

-- what it concludes is the verdict of 42 and 43
concluded-answer : (m : Model) (q : Choice) → answer_of (concluded m q) ≡ answer (first_break (run_rules m q)) (written m q)
unfolding answer_of answer
concluded-answer m q = by (first_break (run_rules m q)) refl
  where
    by : (o : Option Refusal) → first_break (run_rules m q) ≡ o → answer_of (concluded m q) ≡ answer o (written m q)
    by none e = ap answer_of (concluded-succeeded m q e)
    by (some x) e = ap answer_of (concluded-refused m q x e)

-- past the input rules
pub run-outcome : (s q : List ℕ) (room : ℕ) → AllHold (run_checks s q)
    → run_outcome s q room ≡ outcome (model s) (choice q) room
run-outcome s q room h = run-past-input s q room ((none_iff (run_checks s q) (run_checks_sound s q)).1 h)

-- past the input rules and with room enough, the run's answer is the verdict of 42 and 43
pub run-verdict : (s q : List ℕ) (room : ℕ) → AllHold (run_checks s q) → length_needed (model s) ≤ room
    → run_answer s q room ≡ answer (first_break (run_rules (model s) (choice q))) (written (model s) (choice q))
unfolding run_answer
run-verdict s q room h l =
    ap answer_of (run-outcome s q room h ∙ outcome_fits (model s) (choice q) room l)
    ∙ concluded-answer (model s) (choice q)

-- what the report answers: by the first break of its input rules
pub report-from-input : (s q : List ℕ) (lent : ℕ) (x : Refusal) → first_break (run_checks s q) ≡ some x
    → report_answer s q lent ≡ refused x
unfolding report_answer report_rules answer
report-from-input s q lent x e = ap (λ o. answer o (written (model s) (choice q))) (append_some (run_checks s q) _ x e)

-- behind them by 50, then by 42 and 43
pub report-past-input : (s q : List ℕ) (lent : ℕ) → first_break (run_checks s q) ≡ none
    → report_answer s q lent
    ≡ answer (first_break (rows_rule lent ∷ run_rules (model s) (choice q))) (written (model s) (choice q))
unfolding report_answer report_rules
report-past-input s q lent e = ap (λ o. answer o (written (model s) (choice q))) (append_none (run_checks s q) _ e)

pub rows_short : (lent : ℕ) (rules : List Rule) → lent < rows_needed
    → first_break (rows_rule lent ∷ rules) ≡ some (record { number = 50; A = 0; B = 0 })
unfolding rows_rule first_break break first
rows_short lent rules l = rw (lt-leb rows_needed lent l)

pub rows_enough : (lent : ℕ) (rules : List Rule) → rows_needed ≤ lent → first_break (rows_rule lent ∷ rules) ≡ first_break rules
unfolding rows_rule first_break break first
rows_enough lent rules l = rw (le-leb rows_needed lent l)

-- with rows enough it answers as the run with room enough does: "41 does not arise here"
pub report-answer : (s q : List ℕ) (lent room : ℕ) → rows_needed ≤ lent → length_needed (model s) ≤ room
    → report_answer s q lent ≡ run_answer s q room
unfolding run_answer answer_of
report-answer s q lent room enough fits = by (first_break (run_checks s q)) refl
  where
    rules : List Rule
    rules = run_rules (model s) (choice q)

    by : (o : Option Refusal) → first_break (run_checks s q) ≡ o → report_answer s q lent ≡ run_answer s q room
    by (some x) e = report-from-input s q lent x e ∙ sym (ap answer_of (run-from-input s q room x e))
    by none e =
        report-past-input s q lent e
        ∙ ap (λ o. answer o (written (model s) (choice q))) (rows_enough lent rules enough)
        ∙ sym (run-verdict s q room ((none_iff (run_checks s q) (run_checks_sound s q)).0 e) fits)
