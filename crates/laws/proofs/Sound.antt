-- Each test of the definitions decides the statement that stands beside it, rule by rule and list by list; and a rule of the
-- checks has its name's number.
-- Assumes nothing.
use Prim.Native.Nat.{ℕ}
use mathlib.Core.List.{List, [], ◌∷◌, ◌++◌}
use mathlib.Core.Logic.Iff
use mathlib.Core.Logic.{◌↔◌}
use mathlib.Core.Path.{◌≡◌, refl}
use lib.Dec.{T}
use Rattle.schedule.specs.declared.ActivityRule.{ActivityRule}
use Rattle.schedule.specs.declared.TickRule.{TickRule}
use Rattle.schedule.specs.declared.RuleRefusal.{RuleRefusal}
use Rattle.schedule.specs.Rule.{Rule}
use Rattle.schedule.specs.Model.{Model, Page, page, model, head_rules, row_rules, model_form}
use Rattle.schedule.specs.Timing.{deadline_rule}
use Rattle.schedule.specs.Choice.{Choice, choice, choice_form}
use Rattle.schedule.specs.Plan.{Plan, plan, plan_form}
use Rattle.schedule.specs.Checks.{Window, window, Waiting, waits, Contends, contends}
use Rattle.schedule.specs.Checks.{rule_of, rules_of, plain_order, strict_order, plain_rules, strict_rules}
use Rattle.schedule.specs.Answers.{owed_rule, run_rules, plain_checks, strict_checks, run_checks}
use Rattle.schedule.specs.Report.{rows_rule, report_rules}
use Rattle.schedule.specs.Numbers.{rule_number}
use Rattle.schedule.specs.Opened.{form_rules, check_rules}
use Rattle.laws.proofs.Tests.{tests}
use Rattle.laws.proofs.Deadlines.{in_time_sound}
use Rattle.laws.proofs.FirstBreak.{Sound, AllSound, sound_append, ◌&◌}

-- the statements that are records, by their parts
pub window_sound : (m : Model) (p : Plan) (a : ℕ) → T (window m p a) ↔ Window m p a
unfolding window
window_sound m p a = simp tests (
  λ h. record {
    ordered = h.0.0;
    inside = h.0.1;
    first_set = h.1.0.0;
    last_set = h.1.0.1;
    outside_none = h.1.1;
  },
  λ w. ((w.ordered, w.inside), ((w.first_set, w.last_set), w.outside_none)),
)

pub waits_sound : (m : Model) (p : Plan) (t a : ℕ) → T (waits m p t a) ↔ Waiting m p t a
unfolding waits
waits_sound m p t a = simp tests (
  λ h. record {
    clear = h.0.0;
    eligible = h.0.1.0;
    unended = h.0.1.1;
    temporal = h.1.0;
    on_data = h.1.1;
  },
  λ w. ((w.clear, (w.eligible, w.unended)), (w.temporal, w.on_data)),
)

pub contends_sound : (m : Model) (p : Plan) (t b : ℕ) → T (contends m p t b) ↔ Contends m p t b
unfolding contends
contends_sound m p t b = simp (tests, waits_sound) (
  λ h. record { waiting = h.0; fits = h.1 },
  λ w. (w.waiting, w.fits),
)

-- a whole rule's test, read at once
ruleset whole = (tests, window_sound, contends_sound, in_time_sound)

-- once its test is read, a rule's test and its statement are the same
same : (P : ℕ → ℕ → Type 0) (a b : ℕ) → P a b ↔ P a b
same P a b = Iff.rfl

-- the lists of rules, each read as a whole
pub head_rules_sound : (s : List ℕ) → AllSound (head_rules s)
unfolding form_rules
head_rules_sound s = simp whole (same _ & same _ & same _ & same _ & same _ & tt)

pub row_rules_sound : (p : Page) → AllSound (row_rules p)
unfolding form_rules
row_rules_sound p = simp whole (same _ & same _ & same _ & same _ & same _ & same _ & tt)

pub model_form_sound : (s : List ℕ) → AllSound (model_form s)
unfolding model_form
model_form_sound s = (sound_append (head_rules s) (row_rules (page s))).1 (head_rules_sound s, row_rules_sound (page s))

pub choice_form_sound : (m : Model) (q : List ℕ) → AllSound (choice_form m q)
unfolding choice_form form_rules
choice_form_sound m q = simp whole (same _ & same _ & same _ & same _ & same _ & same _ & tt)

pub plan_form_sound : (m : Model) (r : List ℕ) → AllSound (plan_form m r)
unfolding plan_form form_rules
plan_form_sound m r = simp whole (same _ & same _ & same _ & same _ & same _ & same _ & tt)

-- the rules of the checks by name: a rule has its name's number, and its test decides its statement
known : (name : RuleRefusal) (m : Model) (p : Plan)
    → (rule_number name ≡ (rule_of name m p).number) × Sound (rule_of name m p)
unfolding check_rules
known (RuleRefusal.Activity ActivityRule.Window) m p = (refl, simp whole (same _))
known (RuleRefusal.Activity ActivityRule.Count) m p = (refl, simp whole (same _))
known (RuleRefusal.Activity ActivityRule.Deadline) m p = (refl, simp whole (same _))
known (RuleRefusal.Activity ActivityRule.Temporal) m p = (refl, simp whole (same _))
known (RuleRefusal.Activity ActivityRule.Data) m p = (refl, simp whole (same _))
known (RuleRefusal.Activity ActivityRule.Eligible) m p = (refl, simp whole (same _))
known (RuleRefusal.Tick TickRule.Cores) m p = (refl, simp whole (same _))
known (RuleRefusal.Tick TickRule.Preemption) m p = (refl, simp whole (same _))
known (RuleRefusal.Tick TickRule.Idle) m p = (refl, simp whole (same _))
known (RuleRefusal.Tick TickRule.Tie) m p = (refl, simp whole (same _))

pub rule-number : (m : Model) (p : Plan) (name : RuleRefusal) → rule_number name ≡ (rule_of name m p).number
rule-number m p name = (known name m p).0

-- and those of an order
pub rules_sound : (names : List RuleRefusal) (m : Model) (p : Plan) → AllSound (rules_of names m p)
rules_sound [] m p = tt
rules_sound (name ∷ names) m p = (known name m p).1 & rules_sound names m p

pub plain_rules_sound : (m : Model) (p : Plan) → AllSound (plain_rules m p)
unfolding plain_rules
plain_rules_sound m p = rules_sound plain_order m p

pub strict_rules_sound : (m : Model) (p : Plan) → AllSound (strict_rules m p)
unfolding strict_rules
strict_rules_sound m p = rules_sound strict_order m p

pub run_rules_sound : (m : Model) (q : Choice) → AllSound (run_rules m q)
unfolding run_rules owed_rule deadline_rule
run_rules_sound m q = simp whole (same _ & same _ & tt)

-- the rules of the two checks and of the run, in the order in which they are tried
check_sound : (s r : List ℕ) (rules : List Rule) → AllSound rules
    → AllSound (model_form s ++ (plan_form (model s) r ++ rules))
check_sound s r rules sound = (sound_append (model_form s) _).1 (
  model_form_sound s,
  (sound_append (plan_form (model s) r) _).1 (plan_form_sound (model s) r, sound),
)

pub plain_checks_sound : (s r : List ℕ) → AllSound (plain_checks s r)
unfolding plain_checks
plain_checks_sound s r = check_sound s r _ (plain_rules_sound (model s) (plan r))

pub strict_checks_sound : (s r : List ℕ) → AllSound (strict_checks s r)
unfolding strict_checks
strict_checks_sound s r = check_sound s r _ (strict_rules_sound (model s) (plan r))

pub run_checks_sound : (s q : List ℕ) → AllSound (run_checks s q)
unfolding run_checks
run_checks_sound s q = (sound_append (model_form s) _).1 (model_form_sound s, choice_form_sound (model s) q)

-- and of the report
rows_rule_sound : (lent : ℕ) → Sound (rows_rule lent)
unfolding rows_rule
rows_rule_sound lent = simp whole (same _)

pub report_rules_sound : (s q : List ℕ) (lent : ℕ) → AllSound (report_rules s q lent)
unfolding report_rules
report_rules_sound s q lent =
    (sound_append (run_checks s q) _).1 (run_checks_sound s q, rows_rule_sound lent & run_rules_sound (model s) (choice q))
