-- The report of lateness is right: it answers as the run does, its rows are the deadline less the end with the signs of rule
-- 23, and a list that is not filled is left as it was.
-- Assumes nothing.
use Prim.Native.Nat.{ℕ, suc, ◌-◌, ◌≤◌, ◌<◌}
use native.Mathlib.Decide.{dec_lt, ℕ_discrete}
use native.Mathlib.Omega.{arith}
use mathlib.Core.Bool.{Bool, true, false}
use mathlib.Core.List.{List, [], ◌∷◌}
use mathlib.Core.Logic.{◌↔◌, ⊎_elim, inl}
use mathlib.Core.Option.{Option, some, none, none-ne-some}
use mathlib.Core.Path.{◌≡◌, refl, sym, subst, ap, ◌∙◌}
use lib.Dec.{ltb→lt}
use lib.IntN.{ℤ, pos, negsuc}
use lib.ListN.{length}
use borrow.Author.Tests.{eq-eqb, ne_eqb}
use Rattle.schedule.specs.Rule.{Rule, Refusal, break, first_break, AllHold, BrokenAt, FirstBroken}
use Rattle.schedule.specs.declared.RunRefusal.{RunRefusal}
use Rattle.schedule.specs.Numbers.{run_number}
use Rattle.schedule.specs.Model.{Model, Formed, model}
use Rattle.schedule.specs.Timing.{InTime, deadline_rule}
use Rattle.schedule.specs.Choice.{Choice, choice, choice_timing}
use Rattle.schedule.specs.Machine.{machine_end}
use Rattle.schedule.specs.Checks.{rule23}
use Rattle.schedule.specs.Answers.{accepted, refused, answer, machine_plan, owed_rule, run_rules, Written, length_needed, written}
use Rattle.schedule.specs.Answers.{run_checks, run_answer}
use Rattle.schedule.specs.Report.{dash, report_row, rows_needed, rows_rule, report_rules, report_answer, report_rows, fills}
use Rattle.schedule.specs.Lines.{run_room}
use Rattle.laws.proofs.FirstBreak.{none_iff, some_iff, break-some, hold_append, rule_stops, rule_goes_on, says}
use Rattle.laws.proofs.Formed.{input-formed}
use Rattle.laws.proofs.LatenessLaws.{figure-late, figure-kept, without-period, sub-kept}
use Rattle.laws.proofs.LatenessLaws.{rows_then, rows_at, rows_beyond, length-rows, rows-filled, rows-kept}
use Rattle.laws.proofs.MachinePlan.{end_le}
use Rattle.laws.proofs.Sound.{run_rules_sound, run_checks_sound, report_rules_sound}
use Rattle.laws.proofs.VerdictLaws.{answer-accepted, answer-refused}
use Rattle.laws.proofs.VerdictLaws.{accepted_is_not-refused, input-number, report-answer, report-from-input}
use Rattle.laws.proofs.VerdictLaws.{report-past-input, rows_short, rows_enough}
use Rattle.demands.specs.Lateness.{row_of, Late, end_of, deadline_of, HasPeriod, RightRow, Filled, FirstLate, RightReport}
use Rattle.demands.proofs.Demand2.{run-input, run-input-refused}

-- ---- a row

module _ (m : Model) (q : Choice) (a : ℕ) where
  -- rule 23 of the machine's plan
  abbrev Kept : Type 0
  Kept = (rule23 m (machine_plan m q)).Holds a 0

  kept_is : Kept ↔ (HasPeriod m q a → end_of m q a ≤ deadline_of m q a)
  unfolding rule23 deadline_rule InTime machine_plan
  kept_is = (λ h. h, λ h. h)

  dash-row : (q.period (m.thread a) ≡ 0) → RightRow m q a dash
  dash-row e = record {
    dashed = (λ _. e, λ _. refl);
    figure = λ has. absurd (has e);
    sign = (λ late. absurd (late.no_dash refl), λ broken. absurd (broken (kept_is.1 (λ has. absurd (has e)))));
  }

  kept_row : HasPeriod m q a → end_of m q a ≤ deadline_of m q a → RightRow m q a (pos (deadline_of m q a - end_of m q a))
  kept_row has kept = record {
    dashed = (λ e. absurd (let z : ◌≡◌ {A = ℕ} 0 1 = cc in omega arith), λ lacks. absurd (has lacks));
    figure = λ _. ap pos (omega arith);
    sign = (
      λ late. absurd (omega (arith, ltb→lt (deadline_of m q a - end_of m q a) 0 late.negative.lt)),
      λ broken. absurd (broken (kept_is.1 (λ _. kept))),
    );
  }

  late-row : HasPeriod m q a → deadline_of m q a < end_of m q a → end_of m q a ≤ 4096
      → RightRow m q a (negsuc (end_of m q a - suc (deadline_of m q a)))
  late-row has late small = record {
    dashed = (λ e. absurd (no_dash e), λ lacks. absurd (has lacks));
    figure = λ _. sub-kept (end_of m q a) (suc (end_of m q a - suc (deadline_of m q a))) (omega arith) ∙ ap pos (omega arith);
    sign = (
      λ _ kept. omega (arith, kept_is.0 kept has),
      λ _. record { negative = record { lt = tt }; no_dash = no_dash },
    );
  }
    where
      no_dash : ¬ (negsuc (end_of m q a - suc (deadline_of m q a)) ≡ dash)
      no_dash e = let z : end_of m q a - suc (deadline_of m q a) ≡ 2147483647 = cc in omega arith

  right-row : Formed m → a < m.activities → RightRow m q a (report_row m q a)
  unfolding report_row machine_end
  right-row formed l = elim (ℕ_discrete period 0) [
    | yes e ↦ subst (RightRow m q a) (sym (without-period release period (end_of m q a) e)) (dash-row e)
    | no e ↦ elim (dec_lt (deadline_of m q a) (end_of m q a)) [
      | yes late ↦
          subst (RightRow m q a) (sym (figure-late release period (end_of m q a) e late))
          (late-row e late (omega (arith, end_le m q.release q.duration m.horizon a l, formed.horizon.1)))
      | no late ↦
          let kept : end_of m q a ≤ deadline_of m q a = omega arith in
          subst (RightRow m q a) (sym (figure-kept release period (end_of m q a) e kept)) (kept_row e kept)
    ]
  ]
    where
      release : ℕ
      release = q.release (m.thread a)

      period : ℕ
      period = q.period (m.thread a)

-- ---- a list that is filled

right-rows : (m : Model) (q : Choice) (list : List ℤ) → Formed m → rows_needed ≤ length list
    → Filled m q list (rows_then m.activities (report_row m q) list)
right-rows m q list formed enough = record {
  rows = λ a l.
      subst (RightRow m q a) (sym (rows_at (pos 0) m.activities (report_row m q) list a l)) (right-row m q a formed l);
  untouched = λ a l. rows_beyond (pos 0) m.activities (report_row m q) list a l;
  sized = length-rows m.activities (report_row m q) list (omega (arith, formed.activities.1));
}

-- ---- the rules

-- The report accepts exactly where every rule holds, and answers as the run does.
pub report-accepted : (s q : List ℕ) (lent : ℕ) (w : Written)
    → (report_answer s q lent ≡ accepted w) ↔ (AllHold (report_rules s q lent) × (written (model s) (choice q) ≡ w))
unfolding report_answer
report-accepted s q lent w = answer-accepted (report_rules s q lent) _ w (report_rules_sound s q lent)

-- It refuses exactly with the first broken rule.
pub report-refused : (s q : List ℕ) (lent : ℕ) (x : Refusal)
    → (report_answer s q lent ≡ refused x) ↔ FirstBroken (report_rules s q lent) x
unfolding report_answer
report-refused s q lent x = answer-refused (report_rules s q lent) _ x (report_rules_sound s q lent)

-- With rows enough it answers as the run does with a buffer that is long enough.
pub answers_as_the_run : (s q : List ℕ) (lent room : ℕ) → rows_needed ≤ lent → length_needed (model s) ≤ room
    → report_answer s q lent ≡ run_answer s q room
answers_as_the_run = report-answer

-- So it answers as the run that gridrun makes, and the last line of both is one.
pub answers_as_gridrun : (s q : List ℕ) → report_answer s q rows_needed ≡ run_answer s q run_room
unfolding length_needed
answers_as_gridrun s q = ⊎_elim
    (λ h.
    let formed = input-formed s q h in
    report-answer s q rows_needed run_room (omega arith)
    (omega (arith, formed.threads.1, formed.activities.1, formed.horizon.1)))
    (λ b.
    let found = (some_iff (run_checks s q) b.0 (run_checks_sound s q)).1 b.1 in
    report-from-input s q rows_needed b.0 found ∙ sym (run-input-refused s q run_room b.0 b.1))
    (run-input s q)

-- With too few it answers 50, after the input; an input refusal is the same for every list.
pub report-short_list : (s q : List ℕ) (lent : ℕ) → AllHold (run_checks s q) → lent < rows_needed
    → report_answer s q lent ≡ refused (record { number = 50; A = 0; B = 0 })
unfolding answer
report-short_list s q lent h l =
    report-past-input s q lent ((none_iff (run_checks s q) (run_checks_sound s q)).1 h)
    ∙ ap (λ o. answer o (written (model s) (choice q))) (rows_short lent (run_rules (model s) (choice q)) l)

pub report-input-refused : (s q : List ℕ) (lent : ℕ) (x : Refusal) → FirstBroken (run_checks s q) x
    → report_answer s q lent ≡ refused x
report-input-refused s q lent x h = report-from-input s q lent x ((some_iff (run_checks s q) x (run_checks_sound s q)).1 h)

-- ---- what an answer says of the rules

-- where 43 is the first break, its rule is the one that is broken
late-broken : (m : Model) (q : Choice) (x : Refusal) → first_break (run_rules m q) ≡ some x → x.number ≡ 43
    → BrokenAt (deadline_rule 43 m (choice_timing q) (machine_end m q.release q.duration)) x
unfolding run_rules owed_rule first_break
late-broken m q x e late = by (break owed) refl
  where
    owed : Rule
    owed = owed_rule m q

    overdue : Rule
    overdue = deadline_rule 43 m (choice_timing q) (machine_end m q.release q.duration)

    last : (o : Option Refusal) → break overdue ≡ o → break owed ≡ none → BrokenAt overdue x
    last (some y) f g =
        let found : some y ≡ some x = sym (rule_goes_on owed (overdue ∷ []) g ∙ rule_stops overdue [] y f) ∙ e in
        let same : y ≡ x = cc in
        subst (BrokenAt overdue) same ((break-some overdue y (run_rules_sound m q).1.0).0 f)
    last none f g =
        absurd (none-ne-some x (sym (rule_goes_on owed (overdue ∷ []) g ∙ rule_goes_on overdue [] f) ∙ e))

    by : (o : Option Refusal) → break owed ≡ o → BrokenAt overdue x
    by none f = last (break overdue) refl f
    by (some y) f =
        let found : some y ≡ some x = sym (rule_stops owed (overdue ∷ []) y f) ∙ e in
        let same : y ≡ x = cc in
        absurd (omega (
          arith,
          late,
          ap (λ (z : Refusal). z.number) same,
          ((break-some owed y (run_rules_sound m q).0).0 f).numbered,
        ))

module _ (s q : List ℕ) (list : List ℤ) where
  -- a refusal by 43 comes from the run
  from_run : (x : Refusal) → report_answer s q (length list) ≡ refused x → x.number ≡ 43
      → AllHold (run_checks s q) × (rows_needed ≤ length list) × (first_break (run_rules (model s) (choice q)) ≡ some x)
  unfolding answer
  from_run x e late = by (first_break (run_checks s q)) refl
    where
      rules : List Rule
      rules = run_rules (model s) (choice q)

      pass : Written
      pass = written (model s) (choice q)

      same : (y : Refusal) → report_answer s q (length list) ≡ refused y → y ≡ x
      same y f = let both : refused y ≡ refused x = sym f ∙ e in cc

      past : (o : Option Refusal) → first_break rules ≡ o → report_answer s q (length list) ≡ answer o pass
          → first_break rules ≡ some x
      past (some y) g f = g ∙ ap {B = Option Refusal} some (same y f)
      past none g f = absurd (accepted_is_not-refused pass x (sym f ∙ e))

      by : (o : Option Refusal) → first_break (run_checks s q) ≡ o
          → AllHold (run_checks s q) × (rows_needed ≤ length list) × (first_break rules ≡ some x)
      by (some y) f =
          let is = same y (report-from-input s q (length list) y f) in
          let never : ◌≡◌ {A = Bool} true false =
          sym (eq-eqb y.number 43 (ap (λ (z : Refusal). z.number) is ∙ late)) ∙ (input-number s q y f).1 in
          let z : ◌≡◌ {A = ℕ} 0 1 = cc in
          absurd (omega arith)
      by none f =
          let beyond = report-past-input s q (length list) f in
          elim (dec_lt (length list) rows_needed) [
            | yes l ↦
                let is = same _ (beyond ∙ ap (λ o. answer o pass) (rows_short (length list) rules l)) in
                absurd (omega (arith, ap (λ (z : Refusal). z.number) is, late))
            | no l ↦
                let enough : rows_needed ≤ length list = omega arith in
                let said = beyond ∙ ap (λ o. answer o pass) (rows_enough (length list) rules enough) in
                ((none_iff (run_checks s q) (run_checks_sound s q)).0 f, enough, past (first_break rules) refl said)
          ]

  -- the list after an answer that fills
  filled_by : AllHold (run_checks s q) → rows_needed ≤ length list → fills (report_answer s q (length list)) ≡ true
      → Filled (model s) (choice q) list (report_rows s q list)
  unfolding report_rows
  filled_by h enough e =
      subst (Filled (model s) (choice q) list) (sym (rows-filled _ (model s) (choice q) list e))
      (right-rows (model s) (choice q) list (input-formed s q h) enough)

  -- rule 23 of the machine's plan is rule 43 of the run
  kept_by : (a : ℕ) → InTime (model s) (choice_timing (choice q)) (end_of (model s) (choice q)) a
      ↔ (rule23 (model s) (machine_plan (model s) (choice q))).Holds a 0
  unfolding rule23 deadline_rule machine_plan
  kept_by a = (λ h. h, λ h. h)

  accepted-right : (w : Written) → report_answer s q (length list) ≡ accepted w
      → Filled (model s) (choice q) list (report_rows s q list)
      × ((a : ℕ) → a < (model s).activities → ¬ Late (row_of (report_rows s q list) a))
  unfolding report_rules rows_rule run_rules owed_rule deadline_rule
  accepted-right w e =
      let hold = (hold_append (run_checks s q) _).0 ((report-accepted s q (length list) w).0 e).0 in
      let filled = filled_by hold.0 (hold.1.0 0 0 (omega arith) (omega arith)) (ap fills e) in (
        filled,
        λ a l late. (filled.rows a l).sign.0 late
            ((kept_by a).0 (says (run_number RunRefusal.Late) (run_rules (model s) (choice q)) hold.1.1 a 0 l (omega arith))),
      )

  late-right : (x : Refusal) → report_answer s q (length list) ≡ refused x → x.number ≡ 43
      → Filled (model s) (choice q) list (report_rows s q list) × FirstLate (model s) x (report_rows s q list)
  unfolding deadline_rule
  late-right x e late =
      let run = from_run x e late in
      let broken = late-broken (model s) (choice q) x run.2 late in
      let filled = filled_by run.0 run.1 (ap fills e ∙ eq-eqb x.number 43 late) in (
        filled,
        record {
          activity = broken.in_row;
          late = (filled.rows x.A broken.in_row).sign.1 (λ kept. broken.fails ((kept_by x.A).1 kept));
          none_below = λ a l says-late. (filled.rows a (omega (arith, broken.in_row))).sign.0 says-late
              ((kept_by a).0 (broken.earlier_places a 0 (omega (arith, broken.in_row)) (omega arith) (inl l)));
        },
      )

  other-right : (x : Refusal) → report_answer s q (length list) ≡ refused x → (¬ (x.number ≡ 43)) → report_rows s q list ≡ list
  unfolding report_rows
  other-right x e other = rows-kept _ (model s) (choice q) list (ap fills e ∙ ne_eqb x.number 43 other)

-- The report's answer and its list are right, of every model's and choice's bytes and every lent list.
pub right-report : (s q : List ℕ) (list : List ℤ)
    → RightReport s q (report_answer s q (length list)) list (report_rows s q list)
right-report s q list = record {
  as_the_run = λ enough room fits. answers_as_the_run s q (length list) room enough fits;
  input = report-input-refused s q (length list);
  short = λ l h. report-short_list s q (length list) h l;
  good = accepted-right s q list;
  late = late-right s q list;
  other = other-right s q list;
}
