-- Demand 2: a call accepts exactly what keeps the paper's rules, and refuses exactly with the first rule that is broken
-- and its first place; a pass answers the figures that the rules define, and the run leaves in the lent buffer what the
-- paper says.
-- `AllHold rules` says that each rule holds at each of its places, and `FirstBroken rules x` that x is the first break.
-- Assumes nothing.
use Prim.Native.Nat.{ℕ, ◌≤◌, ◌<◌}
use native.Mathlib.Omega.{arith}
use mathlib.Core.List.{List, ◌++◌}
use mathlib.Core.Logic.Iff
use mathlib.Core.Logic.{◌↔◌, ◌⊎◌, ⊎_elim, inl, inr}
use mathlib.Core.Option.{some, none}
use mathlib.Core.Path.{◌≡◌, refl, sym, ◌∙◌, ap}
use lib.Dec.{T}
use lib.ListN.{length, drop, replicate}
use borrow.Author.Tests.{ne_eqb}
use Rattle.schedule.specs.declared.ActivityRule.{ActivityRule}
use Rattle.schedule.specs.declared.TickRule.{TickRule}
use Rattle.schedule.specs.declared.RuleRefusal.{RuleRefusal}
use Rattle.schedule.specs.Rule.{Rule, Refusal, first_break, Everywhere, AllHold, FirstBroken}
use Rattle.schedule.specs.Model.{Model, model, model_form}
use Rattle.schedule.specs.Choice.{choice, choice_form}
use Rattle.schedule.specs.Plan.{Plan, plan, plan_form, plan_bytes}
use Rattle.schedule.specs.Checks.{rule_of, plain_order, further_order, strict_order, plain_rules, strict_rules}
use Rattle.schedule.specs.Answers.{Answer, answer, accepted, refused, Figures, figures, Written, written, length_needed, machine_plan}
use Rattle.schedule.specs.Answers.{plain_checks, strict_checks, plain_verdict, strict_verdict, run_rules, run_checks}
use Rattle.schedule.specs.Answers.{from_input, from_buffer, run_outcome, answer_of, run_answer, buffer_after, run_buffer}
use Rattle.laws.proofs.FirstBreak.{AllSound, none_iff, some_iff, append_some, hold_append, hold_or_broken}
use Rattle.laws.proofs.Named.{among, among-front, named, all_named}
use Rattle.laws.proofs.Sound.{
  model_form_sound,
  choice_form_sound,
  plan_form_sound,
  plain_rules_sound,
  strict_rules_sound,
  run_rules_sound,
  plain_checks_sound,
  strict_checks_sound,
  run_checks_sound,
}
use Rattle.laws.proofs.VerdictLaws.{
  answer-accepted,
  answer-refused,
  verdict-accepted,
  verdict-refused,
  plain-past-form,
  strict-past-form,
  strict_extends,
  run-from-input,
  outcome-short,
  outcome_fits,
  concluded-refused,
  run-outcome,
  run-verdict,
}
use Rattle.schedule.specs.Keeps.{KeepsPlain, KeepsStrict}
use Rattle.schedule.specs.Opened.{check_rules}
use Rattle.demands.specs.ByNumber.{buffer_by_number}
use Rattle.demands.specs.Demand2.{Decides, Demand2, StrictCheck, OfAnyBytes, OfBothChecks, FormsDecide}
use Rattle.demands.specs.Runs.{RunsAreAnswered}
use Rattle.demands.proofs.RunNumbers.{buffer_is_by_number}
use Rattle.demands.proofs.Widths.{in_core_ticks}

-- The plain check, of any two byte strings.
-- It accepts, with these figures, exactly where every form rule of the two records and every rule from 21 to 29 holds,
-- and these are the plan's figures.
pub plain-accepted : (s r : List ℕ) (f : Figures)
    → (plain_verdict s r ≡ accepted f) ↔ (AllHold (plain_checks s r) × (figures (model s) (plan r) ≡ f))
unfolding plain_verdict
plain-accepted s r f = answer-accepted (plain_checks s r) (figures (model s) (plan r)) f (plain_checks_sound s r)

-- It refuses with a number, A and B exactly where these are the first break of those rules.
pub plain-refused : (s r : List ℕ) (x : Refusal) → (plain_verdict s r ≡ refused x) ↔ FirstBroken (plain_checks s r) x
unfolding plain_verdict
plain-refused s r x = answer-refused (plain_checks s r) (figures (model s) (plan r)) x (plain_checks_sound s r)

-- The strict check, of any two byte strings.
-- It accepts, with these figures, exactly where every form rule of the two records and every rule from 21 to 31 holds,
-- and these are the plan's figures.
pub strict-accepted : (s r : List ℕ) (f : Figures)
    → (strict_verdict s r ≡ accepted f) ↔ (AllHold (strict_checks s r) × (figures (model s) (plan r) ≡ f))
unfolding strict_verdict
strict-accepted s r f = answer-accepted (strict_checks s r) (figures (model s) (plan r)) f (strict_checks_sound s r)

-- It refuses with a number, A and B exactly where these are the first break of those rules.
pub strict-refused : (s r : List ℕ) (x : Refusal) → (strict_verdict s r ≡ refused x) ↔ FirstBroken (strict_checks s r) x
unfolding strict_verdict
strict-refused s r x = answer-refused (strict_checks s r) (figures (model s) (plan r)) x (strict_checks_sound s r)

-- Of a model that meets its form rules and a plan that is well-formed beside it.
-- The plain check accepts, with the plan's figures, exactly where rules 21 to 29 hold.
pub plain-passes-rules : (s r : List ℕ) → AllHold (model_form s) → AllHold (plan_form (model s) r)
    → (plain_verdict s r ≡ accepted (figures (model s) (plan r))) ↔ AllHold (plain_rules (model s) (plan r))
plain-passes-rules s r hm hp =
    verdict-accepted _ (plain_verdict s r) _ (plain_rules_sound (model s) (plan r)) (plain-past-form s r hm hp)

-- The plain check refuses exactly with the first break of rules 21 to 29.
pub plain_breaks_rule : (s r : List ℕ) (x : Refusal) → AllHold (model_form s) → AllHold (plan_form (model s) r)
    → (plain_verdict s r ≡ refused x) ↔ FirstBroken (plain_rules (model s) (plan r)) x
plain_breaks_rule s r x hm hp =
    verdict-refused _ (plain_verdict s r) _ x (plain_rules_sound (model s) (plan r)) (plain-past-form s r hm hp)

-- The strict check accepts, with the plan's figures, exactly where rules 21 to 31 hold.
pub strict-passes-rules : (s r : List ℕ) → AllHold (model_form s) → AllHold (plan_form (model s) r)
    → (strict_verdict s r ≡ accepted (figures (model s) (plan r))) ↔ AllHold (strict_rules (model s) (plan r))
strict-passes-rules s r hm hp =
    verdict-accepted _ (strict_verdict s r) _ (strict_rules_sound (model s) (plan r)) (strict-past-form s r hm hp)

-- The strict check refuses exactly with the first break of rules 21 to 31.
pub strict_breaks_rule : (s r : List ℕ) (x : Refusal) → AllHold (model_form s) → AllHold (plan_form (model s) r)
    → (strict_verdict s r ≡ refused x) ↔ FirstBroken (strict_rules (model s) (plan r)) x
strict_breaks_rule s r x hm hp =
    verdict-refused _ (strict_verdict s r) _ x (strict_rules_sound (model s) (plan r)) (strict-past-form s r hm hp)

-- What the rules of the plain check say by name is what Keeps writes out.
says_plain : (m : Model) (p : Plan) → ((name : RuleRefusal) → T (among name plain_order) → Everywhere (rule_of name m p))
    → KeepsPlain m p
unfolding check_rules
says_plain m p says = record {
  window = λ a l. says (RuleRefusal.Activity ActivityRule.Window) tt a 0 l (omega arith);
  duration = λ a l. says (RuleRefusal.Activity ActivityRule.Count) tt a 0 l (omega arith);
  deadline = λ a l. says (RuleRefusal.Activity ActivityRule.Deadline) tt a 0 l (omega arith);
  temporal = says (RuleRefusal.Activity ActivityRule.Temporal) tt;
  on_data = says (RuleRefusal.Activity ActivityRule.Data) tt;
  eligible = λ a l. says (RuleRefusal.Activity ActivityRule.Eligible) tt a 0 l (omega arith);
  cores = λ t l. says (RuleRefusal.Tick TickRule.Cores) tt t 0 l (omega arith);
  priority = says (RuleRefusal.Tick TickRule.Preemption) tt;
}

-- And back, for an order with or without 30 and 31.
keeps-named : (m : Model) (p : Plan) (names : List RuleRefusal) → KeepsPlain m p
    → (T (among (RuleRefusal.Tick TickRule.Idle) names) → Everywhere (rule_of (RuleRefusal.Tick TickRule.Idle) m p))
    → (T (among (RuleRefusal.Tick TickRule.Tie) names) → Everywhere (rule_of (RuleRefusal.Tick TickRule.Tie) m p))
    → (name : RuleRefusal) → T (among name names) → Everywhere (rule_of name m p)
unfolding check_rules
keeps-named m p names k idle tie (RuleRefusal.Activity ActivityRule.Window) _ = λ a _ l _. k.window a l
keeps-named m p names k idle tie (RuleRefusal.Activity ActivityRule.Count) _ = λ a _ l _. k.duration a l
keeps-named m p names k idle tie (RuleRefusal.Activity ActivityRule.Deadline) _ = λ a _ l _. k.deadline a l
keeps-named m p names k idle tie (RuleRefusal.Activity ActivityRule.Temporal) _ = k.temporal
keeps-named m p names k idle tie (RuleRefusal.Activity ActivityRule.Data) _ = k.on_data
keeps-named m p names k idle tie (RuleRefusal.Activity ActivityRule.Eligible) _ = λ a _ l _. k.eligible a l
keeps-named m p names k idle tie (RuleRefusal.Tick TickRule.Cores) _ = λ t _ l _. k.cores t l
keeps-named m p names k idle tie (RuleRefusal.Tick TickRule.Preemption) _ = k.priority
keeps-named m p names k idle tie (RuleRefusal.Tick TickRule.Idle) t = idle t
keeps-named m p names k idle tie (RuleRefusal.Tick TickRule.Tie) t = tie t

-- Rules 21 to 29 hold, as a list, exactly where the plan keeps them as crate schedule, Keeps, writes them out.
pub plain-keeps : (m : Model) (p : Plan) → AllHold (plain_rules m p) ↔ KeepsPlain m p
unfolding plain_rules
plain-keeps m p = (
  λ h. says_plain m p (named m p plain_order h),
  λ k. all_named m p plain_order (keeps-named m p plain_order k (λ t. absurd t) (λ t. absurd t)),
)

-- Rules 21 to 31 hold, as a list, exactly where the plan keeps them as crate schedule, Keeps, writes them out.
pub strict-keeps : (m : Model) (p : Plan) → AllHold (strict_rules m p) ↔ KeepsStrict m p
unfolding strict_rules check_rules
strict-keeps m p = (
  λ h.
      let says = named m p strict_order h in
      record {
        plain = says_plain m p (λ name t. says name (among-front name plain_order further_order t));
        idle = says (RuleRefusal.Tick TickRule.Idle) tt;
        tie = says (RuleRefusal.Tick TickRule.Tie) tt;
      },
  λ k. all_named m p strict_order (keeps-named m p strict_order k.plain (λ _. k.idle) (λ _. k.tie)),
)

-- So on well-formed records the plain check passes, with the plan's figures, exactly where the plan keeps 21 to 29.
pub plain_passes : (s r : List ℕ) → AllHold (model_form s) → AllHold (plan_form (model s) r)
    → (plain_verdict s r ≡ accepted (figures (model s) (plan r))) ↔ KeepsPlain (model s) (plan r)
plain_passes s r hm hp = Iff.trans (plain-passes-rules s r hm hp) (plain-keeps (model s) (plan r))

-- On well-formed records the strict check passes, with the plan's figures, exactly where the plan keeps 21 to 31.
pub strict-passes : (s r : List ℕ) → AllHold (model_form s) → AllHold (plan_form (model s) r)
    → (strict_verdict s r ≡ accepted (figures (model s) (plan r))) ↔ KeepsStrict (model s) (plan r)
strict-passes s r hm hp = Iff.trans (strict-passes-rules s r hm hp) (strict-keeps (model s) (plan r))

-- What passes the strict check passes the plain check, with the same figures.
pub strict_then_plain : (s r : List ℕ) (f : Figures) → strict_verdict s r ≡ accepted f → plain_verdict s r ≡ accepted f
strict_then_plain s r f e =
    let both = (strict-accepted s r f).0 e in
    let holds = (hold_append (plain_checks s r) _).0 (rw strict_extends at both).0 in
    (plain-accepted s r f).1 (holds.0, both.1)

-- What the plain check refuses, the strict check refuses with the same number, A and B.
pub plain_then_strict : (s r : List ℕ) (x : Refusal) → plain_verdict s r ≡ refused x → strict_verdict s r ≡ refused x
plain_then_strict s r x e =
    let found = (some_iff (plain_checks s r) x (plain_checks_sound s r)).1 ((plain-refused s r x).0 e) in
    (strict-refused s r x).1 ((some_iff (strict_checks s r) x (strict_checks_sound s r)).0
    (ap first_break (strict_extends s r) ∙ append_some (plain_checks s r) _ x found))

-- The form. A model passes its tests exactly where its form rules hold.
pub model-formed : (s : List ℕ) → (first_break (model_form s) ≡ none) ↔ AllHold (model_form s)
model-formed s = none_iff (model_form s) (model_form_sound s)

-- It is refused exactly with the first break of them.
pub model-refused : (s : List ℕ) (x : Refusal) → (first_break (model_form s) ≡ some x) ↔ FirstBroken (model_form s) x
model-refused s x = some_iff (model_form s) x (model_form_sound s)

-- A choice passes its tests beside a model exactly where rules 8 to 13 hold.
pub choice-formed : (m : Model) (q : List ℕ) → (first_break (choice_form m q) ≡ none) ↔ AllHold (choice_form m q)
choice-formed m q = none_iff (choice_form m q) (choice_form_sound m q)

-- It is refused exactly with the first break of rules 8 to 13.
pub choice-refused : (m : Model) (q : List ℕ) (x : Refusal)
    → (first_break (choice_form m q) ≡ some x) ↔ FirstBroken (choice_form m q) x
choice-refused m q x = some_iff (choice_form m q) x (choice_form_sound m q)

-- A plan is well-formed beside a model exactly where rules 8 to 12 and 14 hold.
pub plan-formed : (m : Model) (r : List ℕ) → (first_break (plan_form m r) ≡ none) ↔ AllHold (plan_form m r)
plan-formed m r = none_iff (plan_form m r) (plan_form_sound m r)

-- It is refused exactly with the first break of rules 8 to 12 and 14.
pub plan-refused : (m : Model) (r : List ℕ) (x : Refusal)
    → (first_break (plan_form m r) ≡ some x) ↔ FirstBroken (plan_form m r) x
plan-refused m r x = some_iff (plan_form m r) x (plan_form_sound m r)

-- The run, of any two byte strings and a buffer with any room.
-- Its input rules, of both records, all hold, or there is a first break.
pub run-input : (s q : List ℕ) → AllHold (run_checks s q) ⊎ ((x : Refusal) × FirstBroken (run_checks s q) x)
run-input s q = hold_or_broken (run_checks s q) (run_checks_sound s q)

-- Where an input rule is broken, it refuses with the first break.
from-broken-input : (s q : List ℕ) (room : ℕ) (x : Refusal)
    → FirstBroken (run_checks s q) x → run_outcome s q room ≡ from_input x
from-broken-input s q room x h = run-from-input s q room x ((some_iff (run_checks s q) x (run_checks_sound s q)).1 h)

pub run-input-refused : (s q : List ℕ) (room : ℕ) (x : Refusal)
    → FirstBroken (run_checks s q) x → run_answer s q room ≡ refused x
unfolding run_answer answer_of
run-input-refused s q room x h = ap answer_of (from-broken-input s q room x h)

-- Else, where the buffer is shorter than the plan, it refuses with 41 and the length needed.
from-short-buffer : (s q : List ℕ) (room : ℕ) → AllHold (run_checks s q) → room < length_needed (model s)
    → run_outcome s q room ≡ from_buffer (record { number = 41; A = length_needed (model s); B = 0 })
from-short-buffer s q room h l = run-outcome s q room h ∙ outcome-short (model s) (choice q) room l

pub run-short-buffer : (s q : List ℕ) (room : ℕ) → AllHold (run_checks s q) → room < length_needed (model s)
    → run_answer s q room ≡ refused (record { number = 41; A = length_needed (model s); B = 0 })
unfolding run_answer answer_of
run-short-buffer s q room h l = ap answer_of (from-short-buffer s q room h l)

-- Else, with room enough, it refuses exactly with the first break of rules 42 and 43 of the machine's run.
pub run-refused : (s q : List ℕ) (room : ℕ) (x : Refusal) → AllHold (run_checks s q) → length_needed (model s) ≤ room
    → (run_answer s q room ≡ refused x) ↔ FirstBroken (run_rules (model s) (choice q)) x
run-refused s q room x h l =
    verdict-refused _ (run_answer s q room) _ x (run_rules_sound (model s) (choice q)) (run-verdict s q room h l)

-- Else, with room enough, it accepts exactly where 42 and 43 hold, and answers the plan's length and the figures of
-- the machine's plan.
pub run-accepted : (s q : List ℕ) (room : ℕ) (w : Written) → AllHold (run_checks s q) → length_needed (model s) ≤ room
    → (run_answer s q room ≡ accepted w) ↔ (AllHold (run_rules (model s) (choice q)) × (w ≡ record {
      length = length_needed (model s);
      figures = figures (model s) (machine_plan (model s) (choice q));
    }))
run-accepted s q room w h l =
    let pass = written (model s) (choice q) in
    let verdict = answer-accepted (run_rules (model s) (choice q)) pass w (run_rules_sound (model s) (choice q)) in
    let e = run-verdict s q room h l in
    (λ v. let both = verdict.0 (sym e ∙ v) in (both.0, sym both.1), λ k. e ∙ verdict.1 (k.0, sym k.1))

-- The lent buffer after the run, by what the run answers.
-- On success it begins with the machine's plan, and the bytes beyond the length answered are what they were.
pub buffer-accepted : (s q buffer : List ℕ) (w : Written) → run_answer s q (length buffer) ≡ accepted w
    → run_buffer s q buffer ≡ plan_bytes (machine_plan (model s) (choice q)) ++ drop w.length buffer
unfolding buffer_by_number
buffer-accepted s q buffer w e = buffer_is_by_number s q buffer ∙ rw e

-- After 42 and 43 as many bytes as the plan is long are 0, and the bytes beyond are what they were.
pub buffer-zeroed : (s q buffer : List ℕ) (x : Refusal) → run_answer s q (length buffer) ≡ refused x
    → (x.number ≡ 42) ⊎ (x.number ≡ 43)
    → run_buffer s q buffer ≡ replicate (length_needed (model s)) 0 ++ drop (length_needed (model s)) buffer
unfolding buffer_by_number
buffer-zeroed s q buffer x e (inl h) = buffer_is_by_number s q buffer ∙ rw (e, h)
buffer-zeroed s q buffer x e (inr h) = buffer_is_by_number s q buffer ∙ rw (e, h)

-- After every other refusal no byte has changed.
pub buffer_unchanged : (s q buffer : List ℕ) (x : Refusal) → run_answer s q (length buffer) ≡ refused x
    → ¬ (x.number ≡ 42) → ¬ (x.number ≡ 43) → run_buffer s q buffer ≡ buffer
unfolding buffer_by_number
buffer_unchanged s q buffer x e h k =
    buffer_is_by_number s q buffer ∙ rw (e, ne_eqb x.number 42 h, ne_eqb x.number 43 k)

-- The lent buffer after the run, by the rules.
-- Where an input rule is broken, no byte has changed.
pub buffer-input-refused : (s q buffer : List ℕ) (x : Refusal)
    → FirstBroken (run_checks s q) x → run_buffer s q buffer ≡ buffer
unfolding run_buffer buffer_after
buffer-input-refused s q buffer x h = rw (from-broken-input s q (length buffer) x h)

-- Where the buffer is shorter than the plan, no byte has changed.
pub buffer-short : (s q buffer : List ℕ) → AllHold (run_checks s q) → length buffer < length_needed (model s)
    → run_buffer s q buffer ≡ buffer
unfolding run_buffer buffer_after
buffer-short s q buffer h l = rw (from-short-buffer s q (length buffer) h l)

-- Where 42 or 43 is broken, the plan's length of bytes is 0, and the bytes beyond are what they were.
pub buffer-run-refused : (s q buffer : List ℕ) (x : Refusal)
    → AllHold (run_checks s q) → length_needed (model s) ≤ length buffer → FirstBroken (run_rules (model s) (choice q)) x
    → run_buffer s q buffer ≡ replicate (length_needed (model s)) 0 ++ drop (length_needed (model s)) buffer
unfolding run_buffer buffer_after
buffer-run-refused s q buffer x h l broken =
    rw (
      run-outcome s q (length buffer) h,
      outcome_fits (model s) (choice q) (length buffer) l,
      concluded-refused (model s) (choice q) x ((some_iff _ x (run_rules_sound (model s) (choice q))).1 broken),
    )

-- Where 42 and 43 hold, the buffer begins with the machine's plan, and the bytes beyond its length are what they were.
pub buffer-run-accepted : (s q buffer : List ℕ)
    → AllHold (run_checks s q) → length_needed (model s) ≤ length buffer → AllHold (run_rules (model s) (choice q))
    → run_buffer s q buffer
    ≡ plan_bytes (machine_plan (model s) (choice q)) ++ drop (length_needed (model s)) buffer
buffer-run-accepted s q buffer h l holds =
    buffer-accepted s q buffer _ ((run-accepted s q (length buffer) _ h l).1 (holds, refl))

-- ---- the statements

-- a check whose answer comes of a list of rules alone decides them, and what they say together
decided : (said : Answer Figures) (Keeps : Type 0) (rules : List Rule) (counted : Figures) → AllSound rules
    → said ≡ answer (first_break rules) counted → AllHold rules ↔ Keeps → Decides said Keeps rules counted
decided said Keeps rules counted sound e says =
    let names : (x : Refusal) → (said ≡ refused x) ↔ FirstBroken rules x = λ x. verdict-refused rules said counted x sound e in
    record {
      passes = λ f.
          let verdict = answer-accepted rules counted f sound in (
            λ v. let both = verdict.0 (sym e ∙ v) in (says.0 both.0, both.1),
            λ k. e ∙ verdict.1 (says.1 k.0, k.1),
          );
      otherwise = λ fails.
          ⊎_elim (λ (h : AllHold rules). absurd (fails (says.0 h)))
          (λ (b : (x : Refusal) × FirstBroken rules x). (b.0, ((names b.0).1 b.1, b.1)))
          (hold_or_broken rules sound);
      names = names;
    }

-- Demand 2, whole.
pub demand_2 : Demand2
demand_2 s r formed well = record {
  decides = decided _ _ _ _ (plain_rules_sound (model s) (plan r)) (plain-past-form s r formed well) (plain-keeps (model s) (plan r));
  usage = λ f e.
      ap (λ (x : Figures). x.usage) (sym ((plain-accepted s r f).0 e).1) ∙ in_core_ticks (model s) (plan r);
}

pub strict-check : StrictCheck
strict-check s r formed well =
    decided _ _ _ _ (strict_rules_sound (model s) (plan r)) (strict-past-form s r formed well) (strict-keeps (model s) (plan r))

pub of_any-bytes : OfAnyBytes
unfolding plain_verdict strict_verdict
of_any-bytes s r = record {
  plain = decided _ _ _ _ (plain_checks_sound s r) refl Iff.rfl;
  strict = decided _ _ _ _ (strict_checks_sound s r) refl Iff.rfl;
}

pub of_both_checks : OfBothChecks
of_both_checks s r = record { passed = strict_then_plain s r; refused_alike = plain_then_strict s r }

pub forms_decide : FormsDecide
forms_decide = record {
  of_model = λ s. record { passes = model-formed s; names = model-refused s };
  of_choice = λ m q. record { passes = choice-formed m q; names = choice-refused m q };
  of_plan = λ m r. record { passes = plan-formed m r; names = plan-refused m r };
}

pub runs_are_answered : RunsAreAnswered
runs_are_answered s q buffer = record {
  tried = run-input s q;
  input = λ x h. (run-input-refused s q (length buffer) x h, buffer-input-refused s q buffer x h);
  short = λ h l. (run-short-buffer s q (length buffer) h l, buffer-short s q buffer h l);
  owed_or_late = λ h l x. run-refused s q (length buffer) x h l;
  zeroed = λ h l x broken. buffer-run-refused s q buffer x h l broken;
  succeeds = λ h l w. run-accepted s q (length buffer) w h l;
  writes = buffer-run-accepted s q buffer;
}
