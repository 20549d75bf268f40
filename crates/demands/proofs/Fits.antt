-- The printed text fits. For every input gridcheck's two lines have at most 97 bytes; gridrun's page has at most 57,390, 14
-- for each of 4096 ticks and 46 for the last line; and gridlate's lines have at most 366, 10 for each of 32 activities and
-- again 46. So the programs' arrays hold them.
-- Assumes nothing.
use Prim.Native.Nat.{ℕ, ◌^◌, ◌≤◌, ◌<◌}
use native.Mathlib.Decide.{dec_lt}
use native.Mathlib.Nat.{mul-le-mul, mod-lt}
use native.Mathlib.Omega.{arith}
use mathlib.Core.Bool.{Bool, true, false}
use mathlib.Core.List.{List, [], ◌∷◌, ◌++◌}
use mathlib.Core.Logic.{⊎_elim}
use mathlib.Core.Path.{◌≡◌, refl, sym, ap, subst, ◌∙◌}
use lib.IntN.{ℤ, pos}
use lib.ListN.{length, get_or, length-append, length-replicate, replicate}
use Rattle.schedule.specs.declared.FormRefusal.{FormRefusal}
use Rattle.schedule.specs.Fields.{field, Bytes}
use Rattle.schedule.specs.Rule.{Rule, Refusal, AllHold, FirstBroken}
use Rattle.schedule.specs.Records.{Within, length_rule, version_rule, formula_rule}
use Rattle.schedule.specs.Model.{Model, page, unrolled, model, model_length, newest_model, model_form}
use Rattle.schedule.specs.Model.{limits_rule, rounds_rule, row_rules}
use Rattle.schedule.specs.Timing.{deadline_rule}
use Rattle.schedule.specs.Choice.{Choice, choice, choice_form}
use Rattle.schedule.specs.Plan.{Plan, plan, plan_form}
use Rattle.schedule.specs.Checks.{load, rules_of, further_order, plain_rules, strict_rules}
use Rattle.schedule.specs.Answers.{Answer, accepted, refused, Figures, figures, Written, length_needed, machine_plan}
use Rattle.schedule.specs.Answers.{plain_checks, strict_checks, plain_verdict, strict_verdict}
use Rattle.schedule.specs.Answers.{owed_rule, run_rules, run_checks, run_answer}
use Rattle.schedule.specs.Report.{rows_needed, report_answer, fills, report_rows}
use Rattle.schedule.specs.Streams.{taken, first_record, second_record}
use Rattle.schedule.specs.Lines.{run_room, last_line, run_lines, row_text, late_lines, gridcheck, gridrun, gridlate}
use Rattle.laws.proofs.Sums.{greatest_bound, total_bound}
use Rattle.schedule.specs.Numbers.{form_number}
use Rattle.schedule.specs.Opened.{form_rules, check_rules}
use Rattle.laws.proofs.FirstBreak.{AllSound, some_iff, append_some, sound_append, hold_append, hold_or_broken, says}
use Rattle.laws.proofs.Sound.{plain_checks_sound, strict_checks_sound, run_checks_sound}
use Rattle.laws.proofs.VerdictLaws.{input-number, report-from-input, report-answer}
use Rattle.laws.proofs.RuleNumbers.{AllRules, rules_append, first-broken-rule}
use Rattle.laws.proofs.Ranges.{chosen-release_lt, chosen-period_lt}
use Rattle.laws.proofs.Unrolled.{page-says, limits_kept}
use Rattle.laws.proofs.Formed.{input-formed}
use Rattle.laws.proofs.LatenessLaws.{rows-filled, rows_at}
use Rattle.laws.proofs.LinesLaws.{second-bytes}
use Rattle.laws.proofs.LineLengths.{
  Short,
  ShortFigures,
  ShortRefusal,
  ShortAnswer,
  shown_most,
  check_most,
  length-ticks,
  late_most,
  row_most,
}
use Rattle.demands.specs.Consequences.{TextFits}
use Rattle.demands.proofs.Demand2.{
  plain-accepted,
  plain-refused,
  strict-refused,
  plain-keeps,
  strict_then_plain,
  run-input,
  run-input-refused,
  run-short-buffer,
  run-refused,
}
use Rattle.demands.proofs.Demand3.{demand_3}
use Rattle.demands.proofs.Page.{formed, tested, roomy}

-- ---- refusals

-- a rule whose number and places have at most 10 digits
abbrev Narrow : Rule → Type 0
Narrow r = Short r.number × ((r.rows ≤ 10 ^ 10) × (r.columns ≤ 10 ^ 10))

-- so has its first break
short-break : (rules : List Rule) (x : Refusal) → AllRules Narrow rules → FirstBroken rules x → ShortRefusal x
short-break rules x narrow h =
    let rule = first-broken-rule Narrow rules x narrow h in
    let at = h.broken in
    omega (arith, at.numbered, rule.0, at.in_row, rule.1.0, at.in_column, rule.1.1)

-- rules 1 to 3, which every list begins with, and the other form rules of a model
abbrev sizing : List ℕ → List Rule
sizing s = length_rule 1 10 s ∷ version_rule 2 newest_model s ∷ limits_rule (page s).plain ∷ []

abbrev rowing : List ℕ → List Rule
rowing s =
    formula_rule 4 (model_length (field s 4 1) (page s).plain.threads (page s).plain.activities) s
    ∷ rounds_rule (page s) ∷ row_rules (page s)

-- what rule 3 says
abbrev Limited : Model → Type 0
Limited m = (Within 1 8 m.cores × Within 1 8 m.threads) × (Within 1 32 m.activities × Within 1 4096 m.horizon)

limited : (s : List ℕ) → AllHold (sizing s) → Limited (page s).plain
unfolding form_rules
limited s h = says (form_number FormRefusal.ModelLimits) (sizing s) h 0 0 (omega arith) (omega arith)

-- then the unrolled model, whatever its rounds are, has counts of a byte and the page's horizon
abbrev Counted : Model → Type 0
Counted m = ((m.threads < 256) × (m.activities < 256)) × (m.horizon ≤ 4096)

counted : (s : List ℕ) → Limited (page s).plain → Counted (model s)
unfolding model unrolled
counted s l = ((mod-lt _ (omega arith), mod-lt _ (omega arith)), l.1.1.1)

sizing_narrow : (s : List ℕ) → AllRules Narrow (sizing s)
unfolding form_rules
sizing_narrow s = omega arith

-- a refusal by a list that begins with rules 1 to 3, where the others are narrow within the limits
short-refusal : (s : List ℕ) (rest : List Rule) (x : Refusal) → AllSound (sizing s ++ rest)
    → (Limited (page s).plain → AllRules Narrow rest) → FirstBroken (sizing s ++ rest) x → ShortRefusal x
short-refusal s rest x sound narrow h =
    let sounds = (sound_append (sizing s) rest).0 sound in
    ⊎_elim
    (λ (holds : AllHold (sizing s)).
    short-break (sizing s ++ rest) x
    (rules_append Narrow (sizing s) rest (sizing_narrow s) (narrow (limited s holds))) h)
    (λ (b : (y : Refusal) × FirstBroken (sizing s) y).
    let first = append_some (sizing s) rest b.0 ((some_iff (sizing s) b.0 sounds.0).1 b.1) in
    let found = (some_iff (sizing s ++ rest) x sound).1 h in
    let same : b.0 ≡ x = cc in
    subst ShortRefusal same (short-break (sizing s) b.0 (sizing_narrow s) b.1))
    (hold_or_broken (sizing s) sounds.0)

-- within the limits every other rule is narrow
rowing_narrow : (s : List ℕ) → Limited (page s).plain → AllRules Narrow (rowing s)
unfolding form_rules
rowing_narrow s l = omega arith

plan_narrow : (m : Model) (r : List ℕ) → Counted m → AllRules Narrow (plan_form m r)
unfolding plan_form form_rules
plan_narrow m r l = omega arith

plain_narrow : (m : Model) (p : Plan) → Counted m → AllRules Narrow (plain_rules m p)
unfolding plain_rules check_rules
plain_narrow m p l = omega arith

strict_narrow : (m : Model) (p : Plan) → Counted m → AllRules Narrow (strict_rules m p)
unfolding plain_rules strict_rules check_rules
strict_narrow m p l =
    rules_append Narrow (plain_rules m p) (rules_of further_order m p) (plain_narrow m p l) (omega arith)

choice_narrow : (m : Model) (q : List ℕ) → Counted m → AllRules Narrow (choice_form m q)
unfolding choice_form form_rules
choice_narrow m q l = omega arith

run_narrow : (m : Model) (q : Choice) → Counted m → AllRules Narrow (run_rules m q)
unfolding run_rules owed_rule deadline_rule
run_narrow m q l = omega arith

-- ---- figures

form_limited : (s : List ℕ) → AllHold (model_form s) → Limited (model s)
unfolding limits_rule model
form_limited s h = limits_kept (page s) (page-says s h)

-- what the plain check passes has figures below forty thousand
pass_short : (s r : List ℕ) → AllHold (plain_checks s r) → ShortFigures (figures (model s) (plan r))
unfolding plain_checks figures
pass_short s r h =
    let forms = (hold_append (model_form s) (plan_form (model s) r ++ plain_rules (model s) (plan r))).0 h in
    let rules = (hold_append (plan_form (model s) r) (plain_rules (model s) (plan r))).0 forms.1 in
    let l = form_limited s forms.0 in
    let keeps = (plain-keeps (model s) (plan r)).0 rules.1 in
    let usage = total_bound (model s).horizon (load (model s) (plan r)) 8 (λ t k. omega (arith, keeps.cores t k, l.0.0.1)) in
    let capacity = mul-le-mul {n₁ = (model s).cores} {m₁ = (model s).horizon} {n₂ = 8} {m₂ = 4096} l.0.0.1 l.1.1.1 in
    let last = greatest_bound (model s).activities (plan r).end (model s).horizon (λ a k. (keeps.window a k).inside) in
    omega (arith, usage, capacity, last, l.1.1.1)

-- ---- the checks

-- a refusal by a model's form rules and what follows them
behind_form : (s : List ℕ) (more : List Rule) (x : Refusal) → AllSound (model_form s ++ more)
    → (Counted (model s) → AllRules Narrow more) → FirstBroken (model_form s ++ more) x → ShortRefusal x
unfolding model_form
behind_form s more x sound narrow h =
    short-refusal s (rowing s ++ more) x sound
    (λ l. rules_append Narrow (rowing s) more (rowing_narrow s l) (narrow (counted s l))) h

-- and by the form rules of both records and what follows them
behind_forms : (s r : List ℕ) (rules : List Rule) (x : Refusal)
    → AllSound (model_form s ++ (plan_form (model s) r ++ rules)) → (Counted (model s) → AllRules Narrow rules)
    → FirstBroken (model_form s ++ (plan_form (model s) r ++ rules)) x → ShortRefusal x
behind_forms s r rules x sound narrow =
    behind_form s (plan_form (model s) r ++ rules) x sound
    (λ l. rules_append Narrow (plan_form (model s) r) rules (plan_narrow (model s) r l) (narrow l))

plain-short : (s r : List ℕ) → ShortAnswer (plain_verdict s r)
unfolding plain_checks
plain-short s r = by (plain_verdict s r) refl
  where
    by : (v : Answer Figures) → plain_verdict s r ≡ v → ShortAnswer v
    by (accepted f) e = let pass = (plain-accepted s r f).0 e in subst ShortFigures pass.1 (pass_short s r pass.0)
    by (refused x) e =
        behind_forms s r (plain_rules (model s) (plan r)) x (plain_checks_sound s r) (plain_narrow (model s) (plan r))
        ((plain-refused s r x).0 e)

strict-short : (s r : List ℕ) → ShortAnswer (strict_verdict s r)
unfolding strict_checks
strict-short s r = by (strict_verdict s r) refl
  where
    by : (v : Answer Figures) → strict_verdict s r ≡ v → ShortAnswer v
    by (accepted f) e = subst ShortAnswer (strict_then_plain s r f e) (plain-short s r)
    by (refused x) e =
        behind_forms s r (strict_rules (model s) (plan r)) x (strict_checks_sound s r) (strict_narrow (model s) (plan r))
        ((strict-refused s r x).0 e)

-- gridcheck's two lines have at most 97 bytes
pub gridcheck-fits : (input : List ℕ) → length (gridcheck input) ≤ 97
unfolding gridcheck
gridcheck-fits input =
    let s = first_record (taken input) in
    let r = second_record (taken input) in
    check_most (plain_verdict s r) (strict_verdict s r) (plain-short s r) (strict-short s r)

-- ---- the run

-- what the run answers, without the plan's length, as it is printed
abbrev ShortRun : Answer Written → Type 0
ShortRun (accepted w) = ShortFigures w.figures
ShortRun (refused x) = ShortRefusal x

run_short : (s q : List ℕ) (room : ℕ) → Bytes q → ShortRun (run_answer s q room)
unfolding run_checks length_needed
run_short s q room bytes = by (run_answer s q room) refl
  where
    -- a buffer with this room
    zeros : List ℕ
    zeros = replicate room 0

    -- a run that succeeds answers the figures of a plan that passes the strict check
    passed : (w : Written) → run_answer s q (length zeros) ≡ accepted w → ShortFigures w.figures
    passed w e =
        let form = formed s q (length zeros) w e in
        let test = tested s q (length zeros) w e in
        let single = demand_3 s q zeros bytes form test (roomy s q (length zeros) w e) in
        subst ShortAnswer (single.strict w e).strict (strict-short s _)

    -- a run whose input passes refuses for want of room, or by 42 or 43
    sent_back : (x : Refusal) → AllHold (run_checks s q) → run_answer s q room ≡ refused x → ShortRefusal x
    sent_back x all e =
        let l = form_limited s ((hold_append (model_form s) (choice_form (model s) q)).0 all).0 in
        elim (dec_lt room (length_needed (model s))) [
          | yes short ↦
              let room-wanted : Refusal = record { number = 41; A = length_needed (model s); B = 0 } in
              let answered = run-short-buffer s q room all short in
              let same : room-wanted ≡ x = cc in
              subst ShortRefusal same (omega arith)
          | no enough ↦
              short-break (run_rules (model s) (choice q)) x (run_narrow (model s) (choice q) (omega (arith, l)))
              ((run-refused s q room x all (omega arith)).0 e)
        ]

    by : (v : Answer Written) → run_answer s q room ≡ v → ShortRun v
    by (accepted w) e = passed w (ap (run_answer s q) (length-replicate room 0) ∙ e)
    by (refused x) e =
        ⊎_elim (λ all. sent_back x all e)
        (λ b.
        let answered = run-input-refused s q room b.0 b.1 in
        let same : b.0 ≡ x = cc in
        behind_form s (choice_form (model s) q) x (run_checks_sound s q) (choice_narrow (model s) q)
        (subst (FirstBroken (run_checks s q)) same b.1))
        (run-input s q)

-- its last line
last_most : (v : Answer Written) → ShortRun v → length (last_line v) ≤ 46
last_most (accepted w) h = omega (arith, shown_most (accepted w.figures) h)
last_most (refused x) h = omega (arith, shown_most (refused x) h)

-- gridrun's page has at most 57,390 bytes
pub gridrun-fits : (input : List ℕ) → Bytes input → length (gridrun input) ≤ 57390
unfolding gridrun run_lines machine_plan
gridrun-fits input bytes =
    let s = first_record (taken input) in
    let q = second_record (taken input) in
    by s q (run_answer s q run_room) refl (run_short s q run_room (second-bytes input bytes))
  where
    by : (s q : List ℕ) (v : Answer Written) → run_answer s q run_room ≡ v → ShortRun v
        → length (run_lines v (machine_plan (model s) (choice q))) ≤ 57390
    by s q (accepted w) e h =
        let l = form_limited s (formed s q run_room w e) in
        simp length-append
        (omega (
          arith,
          l.1.1.1,
          length-ticks (model s).horizon (machine_plan (model s) (choice q)).word (omega arith),
          last_most (accepted w) h,
        ))
    by s q (refused x) e h = omega (arith, last_most (refused x) h)

-- ---- the report

-- it answers as a run with room enough does
report-short : (s q : List ℕ) → Bytes q → ShortRun (report_answer s q rows_needed)
report-short s q bytes =
    subst ShortRun (sym (report-answer s q rows_needed (length_needed (model s)) (omega arith) (omega arith)))
    (run_short s q (length_needed (model s)) bytes)

-- where the rows are filled, the input rules hold: none of them is 43
filled_checked : (s q : List ℕ) (lent : ℕ) → fills (report_answer s q lent) ≡ true → AllHold (run_checks s q)
filled_checked s q lent e =
    ⊎_elim (λ h. h)
    (λ b.
    let found = (some_iff (run_checks s q) b.0 (run_checks_sound s q)).1 b.1 in
    let never : ◌≡◌ {A = Bool} true false =
    sym e ∙ ap fills (report-from-input s q lent b.0 found) ∙ (input-number s q b.0 found).1 in
    let z : ◌≡◌ {A = ℕ} 0 1 = cc in
    absurd (omega arith))
    (run-input s q)

-- the last line alone, or behind the lines of at most 32 rows of at most 6 bytes
lines_fit : (v : Answer Written) (n : ℕ) (rows : List ℤ) (b : Bool) → fills v ≡ b → ShortRun v
    → (fills v ≡ true → (n ≤ 32) × ((a : ℕ) → a < n → length (row_text (get_or rows a (pos 0))) ≤ 6))
    → length (late_lines v n rows) ≤ 366
unfolding late_lines
lines_fit v n rows true e short h =
    rw (e, late_lines)
    (simp length-append
    (omega (
      arith,
      (h e).0,
      late_most n 6 (λ a. get_or rows a (pos 0)) (omega (arith, (h e).0)) (h e).1,
      last_most v short,
    )))
lines_fit v n rows false e short h = rw (e, late_lines) (omega (arith, last_most v short))

-- gridlate's lines have at most 366 bytes
pub gridlate-fits : (input : List ℕ) → Bytes input → length (gridlate input) ≤ 366
unfolding gridlate report_rows
gridlate-fits input bytes = by (first_record (taken input)) (second_record (taken input)) (second-bytes input bytes)
  where
    by : (s q : List ℕ) → Bytes q
        → length (late_lines (report_answer s q rows_needed) (model s).activities (report_rows s q (replicate rows_needed (pos 0)))) ≤ 366
    by s q b =
        let v : Answer Written = report_answer s q rows_needed in
        lines_fit v (model s).activities (report_rows s q (replicate rows_needed (pos 0))) (fills v) refl (report-short s q b) (λ e.
        let formed = input-formed s q (filled_checked s q rows_needed e) in (
          formed.activities.1,
          λ a l.
              rw (rows-filled v (model s) (choice q) (replicate rows_needed (pos 0)) e, rows_at (pos 0) (model s).activities _ _ a l)
              (row_most (model s) (choice q) a l formed.horizon.1 (chosen-release_lt q b) (chosen-period_lt q b)),
        ))

pub text_fits : TextFits
text_fits = record { of_gridcheck = gridcheck-fits; of_gridrun = gridrun-fits; of_gridlate = gridlate-fits }
