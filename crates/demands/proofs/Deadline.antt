-- With "release + period" in the place of rule 23's deadline the checks, the run and the report answer as they do, and where
-- threads are released at 0 as with the former deadline: all of a page's threads, or one activity's.
-- Assumes nothing.
use Prim.Native.Nat.{ℕ, ◌≤◌, ◌<◌}
use native.Mathlib.Decide.{dec_lt, ℕ_discrete}
use native.Mathlib.Omega.{arith}
use mathlib.Core.Bool.{Bool, true, false, not, cond}
use mathlib.Core.List.{List, [], ◌∷◌, ◌++◌}
use mathlib.Core.Logic.Iff
use mathlib.Core.Option.{Option, some, none}
use mathlib.Core.Path.{◌≡◌, refl, sym, subst, ap, ap₂, ◌∙◌}
use lib.Dec.{T, eqb, leb, ltb, eqb→eq}
use lib.IntN.{ℤ, sub_ℕ}
use lib.ListN.{length, drop, get_or}
use borrow.Author.Tests.{eq-eqb}
use Rattle.schedule.specs.declared.ActivityRule.{ActivityRule}
use Rattle.schedule.specs.declared.RuleRefusal.{RuleRefusal}
use Rattle.schedule.specs.Bounded.{◌⇒◌, table}
use Rattle.schedule.specs.Rule.{Rule, Refusal, break, first_break}
use Rattle.schedule.specs.Model.{Model, model, model_form, Formed}
use Rattle.schedule.specs.Timing.{Timing, InTime, in_time, deadline_rule}
use Rattle.schedule.specs.Choice.{Choice, choice, choice_timing}
use Rattle.schedule.specs.Plan.{plan, plan_timing, plan_form}
use Rattle.schedule.specs.Machine.{machine_end}
use Rattle.schedule.specs.Checks.{rule23, rule_of, rules_of, plain_order, strict_order, plain_rules, strict_rules}
use Rattle.schedule.specs.Answers.{Answer, refused, answer, figures, plain_checks, strict_checks, plain_verdict, strict_verdict}
use Rattle.schedule.specs.Answers.{owed_rule, run_rules, run_checks, Written, written, length_needed, run_answer, run_buffer}
use Rattle.schedule.specs.Report.{dash, report_row, rows_rule, report_rules, report_answer, fills, rows_after, report_rows}
use Rattle.laws.proofs.FirstBreak.{Sound, none_iff, break-same, break-some, rule_stops, rule_goes_on, ◌&◌}
use Rattle.laws.proofs.Formed.{model-says, input-holds}
use Rattle.laws.proofs.LatenessLaws.{rows_then, rows_at, rows_beyond}
use Rattle.laws.proofs.MachineLaws.{table_ext}
use Rattle.laws.proofs.NumbersLaws.{rule_injective}
use Rattle.laws.proofs.RuleNumbers.{AllRules, AllNumbers, OfForm, rules_append, model-numbers, plan-numbers, of_form}
use Rattle.laws.proofs.Sound.{model_form_sound, run_rules_sound, rule-number}
use Rattle.laws.proofs.Tests.{tests}
use Rattle.laws.proofs.VerdictLaws.{input-numbers, input-number, report-from-input}
use Rattle.demands.specs.ByNumber.{answer_by, answer_by_rules, buffer_by_number}
use Rattle.demands.specs.Deadline.{
  Deadline,
  from_release,
  former,
  replaced,
  rule_with,
  plan_rule_with,
  run_rule_with,
  plain_with,
  strict_with,
  run_with,
  buffer_with,
  report_with,
  row_with,
  rows_with,
  AnswersAs,
  Always,
  ReleasedAtZero,
  FromRelease,
  SeeNoChange,
  AlikeAt,
  ActivityAs,
  OfThreadAtZero,
  EachSeesNoChange,
}
use Rattle.demands.proofs.RunNumbers.{answer_is_by_rules, buffer_is_by_number}
use Rattle.demands.proofs.BreakAlike.{behind_same}

-- ---- a rule in the place of another

-- a rule has the break of a rule of its number
abbrev Stands : Rule → Rule → Type 0
Stands rule x = T (eqb x.number rule.number) → break rule ≡ break x

-- which a rule of another number need not have
stands-apart : (rule x : Rule) → eqb x.number rule.number ≡ false → Stands rule x
stands-apart rule x e t = absurd (subst T e t)

stands_place : (rule x : Rule) → Stands rule x → break (cond (eqb x.number rule.number) rule x) ≡ break x
stands_place rule x h = by (eqb x.number rule.number) h
  where
    by : (t : Bool) → (T t → break rule ≡ break x) → break (cond t rule x) ≡ break x
    by true same = same tt
    by false same = refl

-- then it takes that rule's place and changes no first break, if it stands so wherever the rules before are kept
replaced-same : (rule : Rule) (xs ys : List Rule) → AllRules (Stands rule) xs → (first_break xs ≡ none → AllRules (Stands rule) ys)
    → first_break (replaced rule (xs ++ ys)) ≡ first_break (xs ++ ys)
unfolding first_break
replaced-same rule [] [] h k = refl
replaced-same rule [] (y ∷ ys) h k =
    ap₂ (λ (o p : Option Refusal). elim o [ some x ↦ some x | none ↦ p ]) (stands_place rule y (k refl).0)
    (replaced-same rule [] ys tt (λ _. (k refl).1))
replaced-same rule (x ∷ xs) ys h k =
    by (break x) refl (λ e. replaced-same rule xs ys h.1 (λ f. k (rule_goes_on x xs e ∙ f)))
  where
    there : Rule
    there = cond (eqb x.number rule.number) rule x

    others : List Rule
    others = replaced rule (xs ++ ys)

    by : (o : Option Refusal) → break x ≡ o → (break x ≡ none → first_break others ≡ first_break (xs ++ ys))
        → first_break (there ∷ others) ≡ first_break (x ∷ (xs ++ ys))
    by (some y) e ih = rule_stops there others y (stands_place rule x h.0 ∙ e) ∙ sym (rule_stops x (xs ++ ys) y e)
    by none e ih = rule_goes_on there others (stands_place rule x h.0 ∙ e) ∙ ih e ∙ sym (rule_goes_on x (xs ++ ys) e)

replaced_append : (rule : Rule) (xs ys : List Rule) → replaced rule (xs ++ ys) ≡ replaced rule xs ++ replaced rule ys
replaced_append rule [] ys = refl
replaced_append rule (x ∷ xs) ys =
    ap (λ (rules : List Rule). cond (eqb x.number rule.number) rule x ∷ rules) (replaced_append rule xs ys)

-- rules of the records' form stand apart from one of the checks or of the run
form-stands : (rule : Rule) (rules : List Rule) → AllNumbers OfForm rules → ((k : ℕ) → OfForm k → eqb k rule.number ≡ false)
    → AllRules (Stands rule) rules
form-stands rule [] numbers apart = tt
form-stands rule (x ∷ xs) numbers apart =
    stands-apart rule x (apart x.number numbers.0) & form-stands rule xs numbers.1 apart

-- ---- which answers fill the list, whatever the deadline

-- whether the answer that follows a first break fills it
abbrev filled : Written → Option Refusal → Bool
filled w o = fills (answer o w)

-- that of a rule numbered 43 alone does, broken or not
filled_by_43 : (w : Written) (rule : Rule) → Sound rule → rule.number ≡ 43 → filled w (first_break (rule ∷ [])) ≡ true
unfolding answer first_break
filled_by_43 w rule sound number = by (break rule) refl
  where
    by : (o : Option Refusal) → break rule ≡ o → filled w (first_break (rule ∷ [])) ≡ true
    by none e = ap (filled w) (rule_goes_on rule [] e)
    by (some x) e =
        ap (filled w) (rule_stops rule [] x e)
        ∙ eq-eqb x.number 43 (omega (arith, number, ((break-some rule x sound).0 e).numbered))

with_sound : (d : Deadline) (number : ℕ) (m : Model) (timing : Timing) (end : ℕ → ℕ) → Sound (rule_with d number m timing end)
unfolding rule_with
with_sound d number m timing end a b = simp tests Iff.rfl

-- so the same answers do with every deadline: the rules before 43 hang on none
fills_same : (d : Deadline) (s q : List ℕ) (lent : ℕ) → fills (report_answer s q lent) ≡ fills (report_with d s q lent)
unfolding report_answer report_rules report_with run_rules rows_rule owed_rule deadline_rule rule_with answer
fills_same d s q lent =
    behind_same (filled w) (filled w) (run_checks s q) (replaced late (run_checks s q)) _ (replaced late (rows_rule lent ∷ run_rules m c))
    (sym (replaced-same late [] (run_checks s q) tt (λ _. form-stands late (run_checks s q) (input-numbers s q) (λ k t.
    of_form k 43 t (omega arith) (omega arith)))))
    (λ x. refl) (λ _.
    behind_same (filled w) (filled w) front front _ (late ∷ []) refl (λ x. refl) (λ _.
    filled_by_43 w _ (run_rules_sound m c).1.0 refl ∙ sym (filled_by_43 w late (with_sound d 43 m (choice_timing c) _) refl)))
    ∙ ap (λ (rules : List Rule). filled w (first_break rules)) (sym (replaced_append late (run_checks s q) _))
  where
    m : Model
    m = model s

    c : Choice
    c = choice q

    w : Written
    w = written m c

    late : Rule
    late = run_rule_with d m c

    front : List Rule
    front = rows_rule lent ∷ owed_rule m c ∷ []

-- ---- where two deadlines agree

-- a deadline is "release + period" for activity a, if its thread has a period
abbrev AgreesAt : Deadline → Model → Timing → ℕ → Type 0
AgreesAt d m timing a = ¬ (timing.period (m.thread a) ≡ 0) → d m timing a ≡ from_release m timing a

-- for each activity
abbrev Agrees : Deadline → Model → Timing → Type 0
Agrees d m timing = (a : ℕ) → a < m.activities → AgreesAt d m timing a

module _ (d : Deadline) where
  -- there the rule says what the deadline's rule says, and tests it alike
  alike_at : (number : ℕ) (m : Model) (timing : Timing) (end : ℕ → ℕ) (a : ℕ) → AgreesAt d m timing a
      → AlikeAt (deadline_rule number m timing end) (rule_with d number m timing end) a
  unfolding rule_with deadline_rule InTime in_time
  alike_at number m timing end a agrees = record {
    says = (λ h has. omega (arith, h has, agrees has), λ h has. omega (arith, h has, agrees has));
    test = elim (ℕ_discrete (timing.period (m.thread a)) 0) [
      | yes e ↦ rw (eq-eqb (timing.period (m.thread a)) 0 e)
      | no e ↦ ap (λ x. not (eqb (timing.period (m.thread a)) 0) ⇒ leb (end a) x) (sym (agrees e))
    ];
  }

  -- so its break is that rule's
  rule-same : (number : ℕ) (m : Model) (timing : Timing) (end : ℕ → ℕ) → Agrees d m timing
      → break (rule_with d number m timing end) ≡ break (deadline_rule number m timing end)
  unfolding rule_with deadline_rule
  rule-same number m timing end agrees =
      break-same (rule_with d number m timing end) (deadline_rule number m timing end) refl refl refl (λ a _ l _.
      sym (alike_at number m timing end a (agrees a l)).test)

  -- a row of the report is that of the deadline
  row_same : (m : Model) (q : Choice) (a : ℕ) → AgreesAt d m (choice_timing q) a → report_row m q a ≡ row_with d m q a
  unfolding report_row row_with
  row_same m q a agrees = elim (ℕ_discrete (q.period (m.thread a)) 0) [
    | yes e ↦ rw (eq-eqb (q.period (m.thread a)) 0 e)
    | no e ↦
        ap (λ x. cond (eqb (q.period (m.thread a)) 0) dash (sub_ℕ x (machine_end m q.release q.duration a)))
        (sym (agrees e))
  ]

  -- ---- the checks

  module _ (s r : List ℕ) (agrees : Formed (model s) → Agrees d (model s) (plan_timing (plan r))) where
    named-stands : Formed (model s) → (name : RuleRefusal) → Stands (plan_rule_with d s r) (rule_of name (model s) (plan r))
    unfolding rule_with rule23
    named-stands formed name t =
        let number = rule-number (model s) (plan r) name ∙ eqb→eq _ 23 t in
        subst (λ (n : RuleRefusal). break (plan_rule_with d s r) ≡ break (rule_of n (model s) (plan r)))
        (sym (rule_injective name (RuleRefusal.Activity ActivityRule.Deadline) number))
        (rule-same 23 (model s) (plan_timing (plan r)) (plan r).end (agrees formed))

    order-stands : Formed (model s) → (names : List RuleRefusal)
        → AllRules (Stands (plan_rule_with d s r)) (rules_of names (model s) (plan r))
    order-stands formed [] = tt
    order-stands formed (name ∷ names) = named-stands formed name & order-stands formed names

    check-same : (names : List RuleRefusal)
        → first_break (replaced (plan_rule_with d s r) (model_form s ++ (plan_form (model s) r ++ rules_of names (model s) (plan r))))
        ≡ first_break (model_form s ++ (plan_form (model s) r ++ rules_of names (model s) (plan r)))
    unfolding rule_with
    check-same names =
        let apart : (k : ℕ) → OfForm k → eqb k 23 ≡ false = λ k t. of_form k 23 t (omega arith) (omega arith) in
        replaced-same (plan_rule_with d s r) (model_form s) _ (form-stands _ (model_form s) (model-numbers s) apart) (λ e.
        rules_append (Stands (plan_rule_with d s r)) (plan_form (model s) r) (rules_of names (model s) (plan r))
        (form-stands _ (plan_form (model s) r) (plan-numbers (model s) r) apart)
        (order-stands (model-says s ((none_iff (model_form s) (model_form_sound s)).0 e)) names))

    plain-same : plain_verdict s r ≡ plain_with d s r
    unfolding plain_verdict plain_with plain_checks plain_rules
    plain-same = ap (λ o. answer o (figures (model s) (plan r))) (sym (check-same plain_order))

    strict_same : strict_verdict s r ≡ strict_with d s r
    unfolding strict_verdict strict_with strict_checks strict_rules
    strict_same = ap (λ o. answer o (figures (model s) (plan r))) (sym (check-same strict_order))

  -- ---- the run and the report

  module _ (s q : List ℕ) (agrees : Formed (model s) → Agrees d (model s) (choice_timing (choice q))) where
    settles-same : Formed (model s) → AllRules (Stands (run_rule_with d (model s) (choice q))) (run_rules (model s) (choice q))
    unfolding run_rules owed_rule deadline_rule rule_with
    settles-same formed =
        (λ t. absurd t)
        & (λ _. rule-same 43 (model s) (choice_timing (choice q)) _ (agrees formed))
        & tt

    run-same : (room : ℕ) → run_answer s q room ≡ run_with d s q room
    unfolding answer_by_rules answer_by run_with
    run-same room = answer_is_by_rules s q room ∙ by (first_break (run_checks s q)) refl
      where
        past : Option Refusal → Answer Written
        past o =
            cond (ltb room (length_needed (model s))) (refused (record { number = 41; A = length_needed (model s); B = 0 }))
            (answer o (written (model s) (choice q)))

        said : Option Refusal → List Rule → Answer Written
        said o rules = elim o [ some x ↦ refused x | none ↦ past (first_break rules) ]

        by : (o : Option Refusal) → first_break (run_checks s q) ≡ o
            → said o (run_rules (model s) (choice q))
            ≡ said o (replaced (run_rule_with d (model s) (choice q)) (run_rules (model s) (choice q)))
        by (some x) e = refl
        by none e =
            ap past (sym (replaced-same (run_rule_with d (model s) (choice q)) [] (run_rules (model s) (choice q)) tt
            (λ _. settles-same (input-holds s q e))))

    buffer-same : (buffer : List ℕ) → run_buffer s q buffer ≡ buffer_with d s q buffer
    unfolding buffer_with
    buffer-same buffer =
        buffer_is_by_number s q buffer ∙ ap (λ x. buffer_by_number x (model s) (choice q) buffer) (run-same (length buffer))

    report-same : (lent : ℕ) → report_answer s q lent ≡ report_with d s q lent
    unfolding report_answer report_rules report_with rows_rule rule_with
    report-same lent =
        ap (λ o. answer o (written (model s) (choice q)))
        (sym (replaced-same (run_rule_with d (model s) (choice q)) (run_checks s q) (rows_rule lent ∷ run_rules (model s) (choice q))
        (form-stands _ (run_checks s q) (input-numbers s q) (λ k t. of_form k 43 t (omega arith) (omega arith)))
        (λ e. (λ t. absurd t) & settles-same (input-holds s q e))))

    rows_same : (list : List ℤ) → report_rows s q list ≡ rows_with d s q list
    unfolding report_rows rows_after rows_with
    rows_same list = by (first_break (run_checks s q)) refl
      where
        -- the list, filled or not
        after : Bool → List ℤ → List ℤ
        after b rows = elim b [ true ↦ rows ++ drop (model s).activities list | false ↦ list ]

        same : fills (report_answer s q (length list)) ≡ fills (report_with d s q (length list))
        same = fills_same d s q (length list)

        by : (o : Option Refusal) → first_break (run_checks s q) ≡ o
            → after (fills (report_answer s q (length list))) (table (model s).activities (report_row (model s) (choice q)))
            ≡ after (fills (report_with d s q (length list))) (table (model s).activities (row_with d (model s) (choice q)))
        by none e =
            ap₂ after same (table_ext (model s).activities _ _ (λ a l.
            row_same (model s) (choice q) a (agrees (input-holds s q e) a l)))
        by (some x) e =
            let unfilled = ap fills (report-from-input s q (length list) x e) ∙ (input-number s q x e).1 in
            ap (λ b. after b (table (model s).activities (report_row (model s) (choice q)))) unfilled
            ∙ sym (ap (λ b. after b (table (model s).activities (row_with d (model s) (choice q)))) (sym same ∙ unfilled))

  -- ---- row a of the report's list

  -- filled or not, it is the same where the deadlines agree on activity a
  row_at : (s q : List ℕ) (list : List ℤ) (a : ℕ) (z : ℤ) → AgreesAt d (model s) (choice_timing (choice q)) a
      → get_or (report_rows s q list) a z ≡ get_or (rows_with d s q list) a z
  unfolding report_rows rows_after rows_with
  row_at s q list a z agrees =
      ap (λ (b : Bool). get_or (after b (report_row m c)) a z) (fills_same d s q (length list))
      ∙ by (fills (report_with d s q (length list)))
    where
      m : Model
      m = model s

      c : Choice
      c = choice q

      after : Bool → (ℕ → ℤ) → List ℤ
      after b row = elim b [ true ↦ rows_then m.activities row list | false ↦ list ]

      by : (b : Bool) → get_or (after b (report_row m c)) a z ≡ get_or (after b (row_with d m c)) a z
      by false = refl
      by true = elim (dec_lt a m.activities) [
        | yes l ↦ rows_at z _ _ list a l ∙ row_same m c a agrees ∙ sym (rows_at z _ _ list a l)
        | no l ↦ rows_beyond z _ _ list a (omega arith) ∙ sym (rows_beyond z _ _ list a (omega arith))
      ]

-- a deadline that agrees wherever a condition holds gives the answers there
answers_as : (d : Deadline) (Where : Model → Timing → Type 0)
    → ((m : Model) (timing : Timing) → Where m timing → Formed m → Agrees d m timing) → AnswersAs d Where
answers_as d Where agrees = record {
  plain = λ s r w. plain-same d s r (agrees (model s) (plan_timing (plan r)) w);
  strict = λ s r w. strict_same d s r (agrees (model s) (plan_timing (plan r)) w);
  run = λ s q room w. run-same d s q (agrees (model s) (choice_timing (choice q)) w) room;
  buffer = λ s q buffer w. buffer-same d s q (agrees (model s) (choice_timing (choice q)) w) buffer;
  report = λ s q lent w. report-same d s q (agrees (model s) (choice_timing (choice q)) w) lent;
  rows = λ s q list w. rows_same d s q (agrees (model s) (choice_timing (choice q)) w) list;
}

-- and of one activity the rules and the row
activity_as : (d : Deadline) (Where : Model → Timing → ℕ → Type 0)
    → ((m : Model) (timing : Timing) (a : ℕ) → Where m timing a → AgreesAt d m timing a) → ActivityAs d Where
unfolding rule23
activity_as d Where agrees = record {
  check = λ m p a w. alike_at d 23 m (plan_timing p) p.end a (agrees m (plan_timing p) a w);
  run = λ m q a w. alike_at d 43 m (choice_timing q) _ a (agrees m (choice_timing q) a w);
  row = λ s q list a z w. row_at d s q list a z (agrees (model s) (choice_timing (choice q)) a w);
}

-- The answers are those with "release + period".
pub from-release : FromRelease
from-release = answers_as from_release Always (λ m timing _ _ a _ _. refl)

-- "Threads released at 0 see no change.", where all are, and each by itself
pub see_no_change : SeeNoChange
see_no_change =
    answers_as former ReleasedAtZero (λ m timing zero formed a l has.
    omega (arith, zero (m.thread a) (formed.owner a l) has))

pub each_sees_no_change : EachSeesNoChange
each_sees_no_change = activity_as former OfThreadAtZero (λ m timing a zero has. omega (arith, zero has))

-- The rule with the former deadline is 01's: "a thread with a period has end ≤ that period".
pub former_is : (number : ℕ) (m : Model) (timing : Timing) (end : ℕ → ℕ) (a : ℕ)
    → (rule_with former number m timing end).Holds a 0
    ≡ ((¬ (timing.period (m.thread a) ≡ 0)) → end a ≤ timing.period (m.thread a))
unfolding rule_with
former_is number m timing end a = refl
