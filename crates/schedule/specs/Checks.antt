-- "The checks": count, efe, waiting, and rules 21 to 31, each as the paper's statement and as its test. 24 is out of the book
-- (U11 of 02).
-- Assumes nothing.
use Rattle.std.specs.Prelude.{ℕ, zero, suc, ◌+◌, ◌-◌, ◌≤◌, ◌<◌, max, Bool, ◌&&◌, not, cond, List, [], ◌∷◌, ◌++◌, ◌≡◌, T, eqb, leb, ltb, get_or}
use Rattle.schedule.specs.declared.ActivityRule.{ActivityRule}
use Rattle.schedule.specs.declared.TickRule.{TickRule}
use Rattle.schedule.specs.declared.RuleRefusal.{RuleRefusal}
use Rattle.schedule.specs.Bounded.{all, count, total, greatest, ◌⇒◌}
use Rattle.schedule.specs.Rule.{Rule, rules_named}
use Rattle.schedule.specs.Records.{Within, within}
use Rattle.schedule.specs.Model.{Model, priority_of, temporally, by_data}
use Rattle.schedule.specs.Timing.{deadline_rule}
use Rattle.schedule.specs.Plan.{Plan, plan_timing, active}
use Rattle.schedule.specs.Machine.{before}

-- "count(a) is the number of words with bit a"
unfoldable pub count_of : Model → Plan → ℕ → ℕ
count_of m p a = count m.horizon (λ t. active p t a)

-- the largest of the release, efe(b) + count(b) + delay(b) over temporal predecessors b, and efe(b) + count(b) over
-- data predecessors b, where `earlier b` is efe(b)
unfoldable pub efe_from : Model → Plan → (ℕ → ℕ) → ℕ → ℕ
efe_from m p earlier a =
    max (p.release (m.thread a))
    (max (greatest m.activities (λ b. cond (temporally m b a) (earlier b + count_of m p b + m.delay b) 0))
    (greatest m.activities (λ b. cond (by_data m b a) (earlier b + count_of m p b) 0)))

-- efe of the first k activities, one after the other: predecessors have lower numbers
unfoldable pub efes : Model → Plan → ℕ → List ℕ
efes m p zero = []
efes m p (suc k) =
    let l : List ℕ = efes m p k in
    l ++ (efe_from m p (λ b. get_or l b 0) k ∷ [])

-- "efe(a)", the earliest that a could start with cores enough (source document 000: eligible for execution)
unfoldable pub efe : Model → Plan → ℕ → ℕ
efe m p a = get_or (efes m p m.activities) a 0

-- "Waiting at t": bit a clear, efe(a) ≤ t, end(a) > t, each temporal predecessor's end + delay ≤ t, each data
-- predecessor's end ≤ t
pub record Waiting (m : Model) (p : Plan) (t a : ℕ) : Type 0 where
  pub clear : ¬ T (active p t a)
  pub eligible : efe m p a ≤ t
  pub unended : t < p.end a
  pub temporal : (b : ℕ) → b < m.activities → T (temporally m b a) → p.end b + m.delay b ≤ t
  pub on_data : (b : ℕ) → b < m.activities → T (by_data m b a) → p.end b ≤ t

unfoldable pub waits : Model → Plan → ℕ → ℕ → Bool
waits m p t a =
    (not (active p t a) && (leb (efe m p a) t && ltb t (p.end a)))
    && (all m.activities (λ b. temporally m b a ⇒ leb (p.end b + m.delay b) t)
    && all m.activities (λ b. by_data m b a ⇒ leb (p.end b) t))

-- the cores that some activities take: the sum of their widths (U7 of 02)
unfoldable pub cores_of : Model → (ℕ → Bool) → ℕ
cores_of m these = total m.activities (λ a. cond (these a) (m.width a) 0)

-- the cores that those among them take that rank before activity b
abbrev pub ahead : Model → (ℕ → Bool) → ℕ → ℕ
ahead m these b = cores_of m (λ a. these a && before m a b)

-- "The ones in a word become the sum of active widths"
abbrev pub load : Model → Plan → ℕ → ℕ
load m p t = cores_of m (active p t)

-- "a waiting activity counts only if its width is at most c less the widths of active activities ranked before it"
pub record Contends (m : Model) (p : Plan) (t b : ℕ) : Type 0 where
  pub waiting : Waiting m p t b
  pub fits : m.width b + ahead m (active p t) b ≤ m.cores

unfoldable pub contends : Model → Plan → ℕ → ℕ → Bool
contends m p t b = waits m p t b && leb (m.width b + ahead m (active p t) b) m.cores

-- 21 window: start < end ≤ H, bits set at start and end − 1, none outside. A activity.
pub record Window (m : Model) (p : Plan) (a : ℕ) : Type 0 where
  pub ordered : p.start a < p.end a
  pub inside : p.end a ≤ m.horizon
  pub first_set : T (active p (p.start a) a)
  pub last_set : T (active p (p.end a - 1) a)
  pub outside_none : (t : ℕ) → t < m.horizon → T (active p t a) → (p.start a ≤ t) × (t < p.end a)

unfoldable pub window : Model → Plan → ℕ → Bool
window m p a =
    (ltb (p.start a) (p.end a) && leb (p.end a) m.horizon)
    && ((active p (p.start a) a && active p (p.end a - 1) a)
    && all m.horizon (λ t. active p t a ⇒ (leb (p.start a) t && ltb t (p.end a))))

unfoldable pub rule21 : Model → Plan → Rule
rule21 m p = record {
  number = 21;
  rows = m.activities;
  columns = 1;
  Holds = λ a _. Window m p a;
  test = λ a _. window m p a;
}

-- 22 count within the duration range. A activity.
unfoldable pub rule22 : Model → Plan → Rule
rule22 m p = record {
  number = 22;
  rows = m.activities;
  columns = 1;
  Holds = λ a _. Within (m.least_duration a) (m.most_duration a) (count_of m p a);
  test = λ a _. within (m.least_duration a) (m.most_duration a) (count_of m p a);
}

-- 23 a thread with a period has end ≤ release + period (U2 of 02). A activity.
unfoldable pub rule23 : Model → Plan → Rule
rule23 m p = deadline_rule 23 m (plan_timing p) p.end

-- 25 start ≥ end + delay of each temporal predecessor B. A activity.
unfoldable pub rule25 : Model → Plan → Rule
rule25 m p = record {
  number = 25;
  rows = m.activities;
  columns = m.activities;
  Holds = λ a b. T (temporally m b a) → p.end b + m.delay b ≤ p.start a;
  test = λ a b. temporally m b a ⇒ leb (p.end b + m.delay b) (p.start a);
}

-- 26 start ≥ end of each data predecessor B. A activity.
unfoldable pub rule26 : Model → Plan → Rule
rule26 m p = record {
  number = 26;
  rows = m.activities;
  columns = m.activities;
  Holds = λ a b. T (by_data m b a) → p.end b ≤ p.start a;
  test = λ a b. by_data m b a ⇒ leb (p.end b) (p.start a);
}

-- 27 start ≥ efe. A activity.
unfoldable pub rule27 : Model → Plan → Rule
rule27 m p = record {
  number = 27;
  rows = m.activities;
  columns = 1;
  Holds = λ a _. efe m p a ≤ p.start a;
  test = λ a _. leb (efe m p a) (p.start a);
}

-- 28 at most c ones in the word: active widths of no more than c. A tick.
unfoldable pub rule28 : Model → Plan → Rule
rule28 m p = record {
  number = 28;
  rows = m.horizon;
  columns = 1;
  Holds = λ t _. load m p t ≤ m.cores;
  test = λ t _. leb (load m p t) m.cores;
}

-- 29 with exactly c ones, no waiting B that counts has a priority above an active one's. A tick.
unfoldable pub rule29 : Model → Plan → Rule
rule29 m p = record {
  number = 29;
  rows = m.horizon;
  columns = m.activities;
  Holds = λ t b. load m p t ≡ m.cores → Contends m p t b
      → (a : ℕ) → a < m.activities → T (active p t a) → priority_of m b ≤ priority_of m a;
  test = λ t b. eqb (load m p t) m.cores ⇒ contends m p t b
      ⇒ all m.activities (λ a. active p t a ⇒ leb (priority_of m b) (priority_of m a));
}

-- 30 with fewer than c ones, nothing waits that counts. A tick, B activity.
unfoldable pub rule30 : Model → Plan → Rule
rule30 m p = record {
  number = 30;
  rows = m.horizon;
  columns = m.activities;
  Holds = λ t b. load m p t < m.cores → ¬ Contends m p t b;
  test = λ t b. ltb (load m p t) m.cores ⇒ not (contends m p t b);
}

-- 31 with exactly c ones, no waiting B that counts has the priority of an active activity with a larger number. A tick.
unfoldable pub rule31 : Model → Plan → Rule
rule31 m p = record {
  number = 31;
  rows = m.horizon;
  columns = m.activities;
  Holds = λ t b. Contends m p t b → load m p t ≡ m.cores
      → (a : ℕ) → a < m.activities → T (active p t a) → b < a → ¬ (priority_of m b ≡ priority_of m a);
  test = λ t b. contends m p t b ⇒ eqb (load m p t) m.cores
      ⇒ all m.activities (λ a. active p t a ⇒ ltb b a ⇒ not (eqb (priority_of m b) (priority_of m a)));
}

-- the rules by their names
abbrev pub rule_of : RuleRefusal → Model → Plan → Rule
rule_of (RuleRefusal.Activity ActivityRule.Window) = rule21
rule_of (RuleRefusal.Activity ActivityRule.Count) = rule22
rule_of (RuleRefusal.Activity ActivityRule.Deadline) = rule23
rule_of (RuleRefusal.Activity ActivityRule.Temporal) = rule25
rule_of (RuleRefusal.Activity ActivityRule.Data) = rule26
rule_of (RuleRefusal.Activity ActivityRule.Eligible) = rule27
rule_of (RuleRefusal.Tick TickRule.Cores) = rule28
rule_of (RuleRefusal.Tick TickRule.Preemption) = rule29
rule_of (RuleRefusal.Tick TickRule.Idle) = rule30
rule_of (RuleRefusal.Tick TickRule.Tie) = rule31

-- the rules that a list names, in its order
abbrev pub rules_of : List RuleRefusal → Model → Plan → List Rule
rules_of names m p = rules_named (λ name. rule_of name m p) names

-- "The plain check ends here": rules 21 to 29, in the order in which they are tried
abbrev pub plain_order : List RuleRefusal
plain_order =
    RuleRefusal.Activity ActivityRule.Window
    ∷ RuleRefusal.Activity ActivityRule.Count
    ∷ RuleRefusal.Activity ActivityRule.Deadline
    ∷ RuleRefusal.Activity ActivityRule.Temporal
    ∷ RuleRefusal.Activity ActivityRule.Data
    ∷ RuleRefusal.Activity ActivityRule.Eligible
    ∷ RuleRefusal.Tick TickRule.Cores
    ∷ RuleRefusal.Tick TickRule.Preemption
    ∷ []

-- "the strict check goes on with 30 and 31"
abbrev pub further_order : List RuleRefusal
further_order = RuleRefusal.Tick TickRule.Idle ∷ RuleRefusal.Tick TickRule.Tie ∷ []

abbrev pub strict_order : List RuleRefusal
strict_order = plain_order ++ further_order

unfoldable pub plain_rules : Model → Plan → List Rule
plain_rules m p = rules_of plain_order m p

unfoldable pub strict_rules : Model → Plan → List Rule
strict_rules m p = rules_of strict_order m p
