-- U4 of 02: a page's model is its plain model unrolled, and the page answers as the record of one round of that model. The number
-- of rounds is a variable throughout.
-- Assumes nothing.
use Prim.Native.Nat.{ℕ, ◌+◌, ◌-◌, ◌*◌, ◌/◌, ◌%◌, ◌^◌, ◌≤◌, ◌<◌}
use native.Mathlib.Nat.{mod-lt}
use native.Mathlib.Omega.{arith}
use mathlib.Core.Bool.{Bool, true, false, cond, ◌||◌}
use mathlib.Core.List.{List}
use mathlib.Core.Path.{◌≡◌, refl, sym, ap, subst, ◌∙◌}
use mathlib.Core.Option.{none}
use lib.Arith.{digits_lt}
use lib.Dec.{eqb}
use lib.ListN.{length, take}
use borrow.Author.Tests.{le-ltb}
use Rattle.schedule.specs.declared.FormRefusal.{FormRefusal}
use Rattle.schedule.specs.Bounded.{with_bit}
use Rattle.schedule.specs.Fields.{field, Bytes}
use Rattle.schedule.specs.Rule.{first_break, AllHold}
use Rattle.schedule.specs.Rounds.{no_loop, moved_mask, with_loop, below}
use Rattle.schedule.specs.Model.{Model, Page, page, unrolled, model, model_length, limits_rule, head_rules, row_rules, model_form}
use Rattle.schedule.specs.Opened.{form_rules}
use Rattle.schedule.specs.Unrolls.{Unrolls}
use Rattle.schedule.specs.ModelBytes.{model_bytes}
use Rattle.schedule.specs.Choice.{choice_form}
use Rattle.schedule.specs.Plan.{plan_form}
use Rattle.schedule.specs.Answers.{length_needed, MeetsForm}
use Rattle.schedule.specs.Numbers.{form_number}
use Rattle.laws.proofs.WordLaws.{with_lt}
use Rattle.laws.proofs.FieldLaws.{field_lt}
use Rattle.laws.proofs.Ranges.{below_lt, cores_lt, horizon_lt, delay_lt, width_lt}
use Rattle.laws.proofs.FirstBreak.{none_iff, hold_append, says, ◌&◌}
use Rattle.laws.proofs.PlanForm.{form-says}
use Rattle.laws.proofs.Sound.{row_rules_sound, model_form_sound}
use Rattle.laws.proofs.Unrolled.{page-says, unrolls, limits_kept, ranges_kept, owners_kept, widths-kept, masks_kept}
use Rattle.demands.specs.Rounds.{SameGiven, PagesUnroll, PagesAreUnrolled, OnePlan, AllPairsFit, SamePage}
use Rattle.demands.proofs.Demand3.{demand_3}
use Rattle.demands.proofs.SamePage.{rows-break}
use Rattle.demands.proofs.SameAnswers.{answered_alike}
use Rattle.demands.proofs.ModelBytes.{Fits, length-model_bytes, bytes-model_bytes, reads_back}
use Rattle.demands.proofs.ModelBytes.{version_one, version-three, version_known}
use Rattle.demands.proofs.ModelBack.{Ends, single, reads_page, model_back}

-- ---- the unrolled model is what the request says

-- a page's releases are fields of two bytes
release_lt : (s : List ℕ) → Bytes s → (j : ℕ) → (page s).plain.most_release j < 65536
unfolding page
release_lt s b j = field_lt s b _ 2

pub pages_unroll : PagesUnroll
unfolding model
pages_unroll s b h = unrolls (page s) (page-says s h) (λ j _. release_lt s b j)

-- ---- the unrolled model fits a record

with_loop_lt : (k m q w : ℕ) → w < 2 ^ 32 → with_loop k m q w < 2 ^ 32
with_loop_lt k m q w fits = one (eqb k 0 || eqb q no_loop)
  where
    one : (t : Bool) → cond t w (with_bit w ((k - 1) * m + q)) < 2 ^ 32
    one true = fits
    one false = with_lt w ((k - 1) * m + q) fits

model-fits : (s : List ℕ) → Bytes s → Fits (model s)
unfolding model unrolled page
model-fits s b = record {
  cores = cores_lt s b;
  threads = mod-lt _ (omega arith);
  activities = mod-lt _ (omega arith);
  horizon = horizon_lt s b;
  least_period = below_lt _ 65536 _ (omega arith) (λ x. field_lt s b _ 2);
  most_period = below_lt _ 65536 _ (omega arith) (λ x. field_lt s b _ 2);
  least_release = below_lt _ 65536 _ (omega arith) (λ x. mod-lt _ (omega arith));
  most_release = below_lt _ 65536 _ (omega arith) (λ x. mod-lt _ (omega arith));
  priority = below_lt _ 65536 _ (omega arith) (λ x. field_lt s b _ 2);
  thread = below_lt _ 256 _ (omega arith) (λ x. mod-lt _ (omega arith));
  least_duration = below_lt _ 65536 _ (omega arith) (λ x. field_lt s b _ 2);
  most_duration = below_lt _ 65536 _ (omega arith) (λ x. field_lt s b _ 2);
  delay = delay_lt s b;
  temporal_mask = below_lt _ (2 ^ 32) _ (omega arith) (λ x.
      let p : Page = page s in
      let m : ℕ = p.plain.activities in
      with_loop_lt (x / m) m (p.loop (x % m)) (moved_mask (x / m) m (p.plain.temporal_mask (x % m))) (mod-lt _ (omega arith)));
  data_mask = below_lt _ (2 ^ 32) _ (omega arith) (λ x. mod-lt _ (omega arith));
  width = width_lt s b;
}

-- a field past the last row
below-past : (bound : ℕ) (f : ℕ → ℕ) (j : ℕ) → bound ≤ j → below bound f j ≡ 0
below-past bound f j l = rw (le-ltb j bound l) refl

model-ends : (s : List ℕ) → Ends (model s)
unfolding model unrolled
model-ends s = record {
  least_period = below-past _ _;
  most_period = below-past _ _;
  least_release = below-past _ _;
  most_release = below-past _ _;
  priority = below-past _ _;
  thread = below-past _ _;
  least_duration = below-past _ _;
  most_duration = below-past _ _;
  delay = below-past _ _;
  temporal_mask = below-past _ _;
  data_mask = below-past _ _;
  width = below-past _ _;
}

-- ---- its record meets the form rules

module _ (s : List ℕ) (b : Bytes s) (h : MeetsForm s) where
  abbrev m : Model
  m = model s

  abbrev u : List ℕ
  u = model_bytes (model s)

  same : SamePage (single m) (page u)
  same = reads_page m (model-fits s b)

  -- the rules of the rows, of the model by itself
  single_rows : AllHold (row_rules (single m))
  unfolding model form_rules
  single_rows =
      let formal = page-says s h in
      (λ j _ l _. ranges_kept (page s) formal (λ j _. release_lt s b j) j l)
      & (λ _ _ _ _ several. absurd (omega arith))
      & (λ a _ l _. owners_kept (page s) formal a l)
      & (λ _ _ _ _ loops. absurd (loops refl))
      & (λ a _ l _. widths-kept (page s) formal a l)
      & (λ a _ l _. masks_kept (page s) formal a l)
      & tt

  formed-rows : AllHold (row_rules (page u))
  formed-rows =
      (none_iff (row_rules (page u)) (row_rules_sound (page u))).0
      (sym (rows-break (single m) (page u) same)
      ∙ (none_iff (row_rules (single m)) (row_rules_sound (single m))).1 single_rows)

  formed-head : AllHold (head_rules u)
  unfolding form_rules page model
  formed-head =
      let back = reads_back m (model-fits s b) in
      let limits = limits_kept (page s) (page-says s h) in
      (λ _ _ _ _. (omega (arith, length-model_bytes m), back.length ∙ sym (length-model_bytes m)))
      & (λ _ _ _ _. rw back.version (version_known m))
      & (λ _ _ _ _. rw (back.cores, back.threads, back.activities, back.horizon) limits)
      & (λ _ _ _ _. rw (back.version, back.threads, back.activities) back.length)
      & (λ _ _ _ _. rw (back.version, back.rounds, back.threads, back.activities) (omega (arith, limits)))
      & tt

  formed : MeetsForm u
  unfolding model_form
  formed = (hold_append (head_rules u) (row_rules (page u))).1 (formed-head, formed-rows)

  -- a model that says what the unrolled one says of its rows is the page unrolled too
  same-unrolls : Unrolls (page s) m → Unrolls (page s) (page u).plain
  same-unrolls whole = record {
    cores = sym same.cores ∙ whole.cores;
    horizon = sym same.horizon ∙ whole.horizon;
    threads = sym same.threads ∙ whole.threads;
    activities = sym same.activities ∙ whole.activities;
    thread = λ k j round place.
        let moved = whole.thread k j round place in
        let l : k * (page s).plain.threads + j < m.threads = rw whole.threads (digits_lt {q = k} round place) in
        record {
          least_period = sym (same.least_period _ l) ∙ moved.least_period;
          most_period = sym (same.most_period _ l) ∙ moved.most_period;
          least_release = λ period range. sym (same.least_release _ l) ∙ moved.least_release period range;
          most_release = λ period range. sym (same.most_release _ l) ∙ moved.most_release period range;
          priority = sym (same.priority _ l) ∙ moved.priority;
        };
    activity = λ k a round place.
        let moved = whole.activity k a round place in
        let l : k * (page s).plain.activities + a < m.activities = rw whole.activities (digits_lt {q = k} round place) in
        record {
          thread = sym (same.thread _ l) ∙ moved.thread;
          least_duration = sym (same.least_duration _ l) ∙ moved.least_duration;
          most_duration = sym (same.most_duration _ l) ∙ moved.most_duration;
          delay = sym (same.delay _ l) ∙ moved.delay;
          temporal = λ r c other below. rw (← same.temporal_mask _ l) (moved.temporal r c other below);
          on_data = λ r c other below. rw (← same.data_mask _ l) (moved.on_data r c other below);
          width = sym (same.width _ l) ∙ moved.width;
        };
  }

-- the page is its unrolled model
pub pages_are_unrolled : PagesAreUnrolled
pages_are_unrolled s b h =
    let u : List ℕ = model_bytes (model s) in
    let meets = formed s b h in
    let holds : first_break (model_form s) ≡ none = (none_iff (model_form s) (model_form_sound s)).1 h in
    let held : first_break (model_form u) ≡ none = (none_iff (model_form u) (model_form_sound u)).1 meets in
    let version = (reads_back (model s) (model-fits s b)).version in
    let page-same = same s b h in
    let given : SameGiven s u =
    record { form = holds ∙ sym held; says = sym (model_back (model s) (model-fits s b) (model-ends s)) } in
    record {
      bytes = bytes-model_bytes (model s);
      version_1 = λ one. version ∙ version_one (model s) one;
      version_3 = λ a l wide. version ∙ version-three (model s) a l wide;
      one_round = sym page-same.rounds;
      no_loops = λ a l. sym (page-same.loop a (omega (arith, page-same.activities)));
      formed = meets;
      unrolls = same-unrolls s b h (pages_unroll s b h);
      given = given;
      same = answered_alike s u given;
    }

-- and its single strict plan is that of its unrolled model
pub one_plan : OnePlan
one_plan s q buffer b b' h tested room =
    let u : List ℕ = model_bytes (model s) in
    let page = pages_are_unrolled s b h in
    let back = model_back (model s) (model-fits s b) (model-ends s) in
    record {
      of_page = demand_3 s q buffer b' h tested room;
      of_unrolled = demand_3 u q buffer b' page.formed
          (subst (λ (m : Model). AllHold (choice_form m q)) (sym back) tested)
          (subst (λ (m : Model). length_needed m ≤ length buffer) (sym back) room);
      same = λ w e.
          (sym (page.same.run q (length buffer)) ∙ e, ap (take w.length) (page.same.buffer q buffer));
    }

-- ---- the longest pair

-- a record of any version is at most as long as one of version 3
longest : (version n m : ℕ) → model_length version n m ≤ 11 + 10 * n + 17 * m
longest version n m = one (eqb version 1) (eqb version 2)
  where
    one : (t t' : Bool) → cond t 10 11 + 10 * n + cond t (15 * m) (cond t' (16 * m) (17 * m)) ≤ 11 + 10 * n + 17 * m
    one true t' = omega arith
    one false true = omega arith
    one false false = omega arith

model_most : (s : List ℕ) → MeetsForm s → length s ≤ 635
unfolding model_form form_rules
model_most s h =
    let sized = says (form_number FormRefusal.ModelSize) (model_form s) h 0 0 (omega arith) (omega arith) in
    let limits = says (form_number FormRefusal.ModelLimits) (model_form s) h 0 0 (omega arith) (omega arith) in
    let formula = says (form_number FormRefusal.ModelFormula) (model_form s) h 0 0 (omega arith) (omega arith) in
    omega (arith, longest (field s 4 1) (page s).plain.threads (page s).plain.activities)

choice_most : (m : Model) (q : List ℕ) → (limits_rule m).Holds 0 0 → AllHold (choice_form m q) → length q ≤ 103
unfolding choice_form form_rules
choice_most m q limits h =
    let sized = says (form_number FormRefusal.SecondSize) (choice_form m q) h 0 0 (omega arith) (omega arith) in
    let counts = says (form_number FormRefusal.SecondCounts) (choice_form m q) h 0 0 (omega arith) (omega arith) in
    let formula = says (form_number FormRefusal.SecondFormula) (choice_form m q) h 0 0 (omega arith) (omega arith) in
    omega arith

plan_most : (m : Model) (r : List ℕ) → (limits_rule m).Holds 0 0 → AllHold (plan_form m r) → length r ≤ 16553
unfolding limits_rule
plan_most m r limits h = omega (arith, (form-says m r h).length)

pub pairs_fit : AllPairsFit
unfolding model
pairs_fit s h =
    let limits = limits_kept (page s) (page-says s h) in
    record {
      with_plan = λ r well. omega (arith, model_most s h, plan_most (model s) r limits well);
      with_choice = λ q tested. omega (arith, model_most s h, choice_most (model s) q limits tested);
      read_whole = omega arith;
    }
