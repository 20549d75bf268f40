-- What the code of rules 21 to 27 answers at an activity is the mask of the rule's broken places there.
-- Assumes nothing.
use Prim.Native.Nat.{ℕ, ◌+◌, ◌-◌, ◌≤◌}
use native.Mathlib.Nat.{add-zero}
use native.Mathlib.Omega.{arith}
use mathlib.Core.Bool.{Bool, ◌&&◌, not, cond}
use mathlib.Core.List.{List}
use mathlib.Core.Path.{◌≡◌, refl, sym, ap, ap₂, ◌∙◌}
use lib.Dec.{leb, ltb}
use lib.ListN.{get_or}
use Rattle.schedule.specs.declared.ActivityRule.{ActivityRule}
use Rattle.schedule.specs.Bounded.{bit, word_of, ◌⇒◌}
use Rattle.schedule.specs.Rule.{Rule}
use Rattle.schedule.specs.Records.{within}
use Rattle.schedule.specs.Model.{Model, model, temporally, by_data}
use Rattle.schedule.specs.Plan.{Plan, plan, active}
use Rattle.schedule.specs.Checks.{count_of, efe, window, rule22, rule25, rule26, rule27}
use Rattle.schedule.specs.Opened.{check_rules}
use Rattle.laws.proofs.Words.{wordOf_ext}
use Rattle.records.specs.declared.plan.Span.{Span}
use Rattle.records.specs.declared.model.Sizes.{Sizes}
use Rattle.records.specs.Rows.{span_of, sizes_of}
use Rattle.tables.specs.Columns.{TableOf}
use Rattle.checks.specs.Tables.{broken_mask, finish_of}
use Rattle.checks.proofs.MaskRow.{one_column}
use Rattle.checks.specs.Rules.{activity_rule, early_from, none_outside}

-- 21 by its parts, of a row and of sizes as they are read
pub window-row : (s r : List ℕ) (a : ℕ) (row : Span) (sizes : Sizes) → row ≡ span_of (plan r) a → sizes ≡ sizes_of (model s)
    → window (model s) (plan r) a
    ≡ ((ltb row.start row.end && leb row.end sizes.horizon)
    && ((active (plan r) row.start a && active (plan r) (row.end - 1) a) && none_outside (model s) (plan r) a))
unfolding window none_outside span_of sizes_of
window-row s r a row sizes e f = rw (e, f)

-- 25 and 26: the predecessors at which they are broken, from the tables
pub temporal_mask : (m : Model) (p : Plan) (ends delays : List ℕ) (a preceding start n : ℕ) → preceding ≡ m.temporal_mask a
    → start ≡ p.start a → n ≡ m.activities → TableOf m ends p.end → TableOf m delays m.delay
    → early_from preceding start n ends delays ≡ broken_mask (rule25 m p) a
unfolding broken_mask rule25 early_from
temporal_mask m p ends delays a preceding start n e s k h d =
    ap (λ (i : ℕ). word_of i (λ b. not (bit preceding b ⇒ leb (get_or ends b 0 + get_or delays b 0) start))) k
    ∙ wordOf_ext m.activities _ _ (λ b l.
    ap₂ (λ (x y : ℕ). not (bit x b ⇒ leb y start)) e (ap₂ ◌+◌ (h b l) (d b l))
    ∙ ap (λ (x : ℕ). not (temporally m b a ⇒ leb (p.end b + m.delay b) x)) s)

pub data_mask : (m : Model) (p : Plan) (ends none : List ℕ) (a preceding start n : ℕ) → preceding ≡ m.data_mask a
    → start ≡ p.start a → n ≡ m.activities → TableOf m ends p.end → ((b : ℕ) → get_or none b 0 ≡ 0)
    → early_from preceding start n ends none ≡ broken_mask (rule26 m p) a
unfolding broken_mask rule26 early_from
data_mask m p ends none a preceding start n e s k h z =
    ap (λ (i : ℕ). word_of i (λ b. not (bit preceding b ⇒ leb (get_or ends b 0 + get_or none b 0) start))) k
    ∙ wordOf_ext m.activities _ _ (λ b l.
    ap₂ (λ (x y : ℕ). not (bit x b ⇒ leb y start)) e (ap₂ ◌+◌ (h b l) (z b) ∙ add-zero (p.end b))
    ∙ ap (λ (x : ℕ). not (by_data m b a ⇒ leb (p.end b) x)) s)

-- a rule of activities is tried at m activities and at no more than 32 columns
pub activity-shape : (rule : ActivityRule) (m : Model) (p : Plan)
    → ((activity_rule rule m p).rows ≡ m.activities) × (m.activities ≤ 32 → (activity_rule rule m p).columns ≤ 32)
unfolding check_rules
activity-shape ActivityRule.Window m p = (refl, λ h. omega arith)
activity-shape ActivityRule.Count m p = (refl, λ h. omega arith)
activity-shape ActivityRule.Deadline m p = (refl, λ h. omega arith)
activity-shape ActivityRule.Temporal m p = (refl, λ h. h)
activity-shape ActivityRule.Data m p = (refl, λ h. h)
activity-shape ActivityRule.Eligible m p = (refl, λ h. omega arith)

-- a rule that names no B: the flag is its mask
pub flagged : (r : Rule) (a mask : ℕ) (holds : Bool) → r.columns ≡ 1 → mask ≡ cond holds 0 1 → holds ≡ r.test a 0
    → mask ≡ broken_mask r a
flagged r a mask holds one e h = e ∙ ap (λ (t : Bool). cond t 0 1) h ∙ sym (one_column r a one)

-- 22 and 27 from the tables
pub count-test : (m : Model) (p : Plan) (a count : ℕ) (t : Bool)
    → t ≡ within (m.least_duration a) (m.most_duration a) count → count ≡ count_of m p a → t ≡ (rule22 m p).test a 0
unfolding rule22
count-test m p a count t e k = e ∙ ap (within (m.least_duration a) (m.most_duration a)) k

pub eligible-test : (m : Model) (p : Plan) (a start count finish from : ℕ)
    → from ≡ finish - count → start ≡ p.start a → count ≡ count_of m p a → finish ≡ finish_of m p a
    → leb from start ≡ (rule27 m p).test a 0
unfolding rule27
eligible-test m p a start count finish from e s k f =
    let efe-is : from ≡ efe m p a = omega (arith, e, f, k) in
    ap₂ leb efe-is s
