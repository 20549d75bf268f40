-- U7 of 02: "older models have width 1", all that is answered about them and about every model of width 1 is what was answered before,
-- and usage is "counted in core ticks".
-- Assumes nothing.
use Prim.Native.Nat.{ℕ, ◌≤◌}
use native.Mathlib.Omega.{arith}
use mathlib.Core.Bool.{Bool, true, false, cond}
use mathlib.Core.List.{List, ◌∷◌, ◌++◌}
use mathlib.Core.Logic.{⊎_elim}
use mathlib.Core.Option.{Option, some, none}
use mathlib.Core.Path.{◌≡◌, refl, ap, ap₂, subst, fun_ext, ◌∙◌}
use lib.Dec.{ltb}
use lib.IntN.{ℤ}
use lib.ListN.{length, drop}
use borrow.Author.Tests.{lt-ltb}
use Rattle.schedule.specs.Bounded.{table}
use Rattle.schedule.specs.Fields.{field}
use Rattle.schedule.specs.Rule.{Rule, Refusal, first_break}
use Rattle.schedule.specs.Model.{Model, page, unrolled, model, model_form}
use Rattle.schedule.specs.Choice.{Choice, choice, choice_form}
use Rattle.schedule.specs.Plan.{Plan, plan, plan_form, plan_bytes, active}
use Rattle.schedule.specs.Checks.{count_of, cores_of}
use Rattle.schedule.specs.Answers.{answer, Figures, figures, plain_checks, strict_checks, plain_verdict, strict_verdict}
use Rattle.schedule.specs.Answers.{machine_plan, length_needed, Written, written, run_checks, run_answer, buffer_after, run_buffer}
use Rattle.schedule.specs.Answers.{Outcome, from_input, from_buffer, from_run, succeeded, concluded, outcome, run_outcome, answer_of}
use Rattle.schedule.specs.Report.{lateness, rows_rule, report_row, report_rules, report_answer, fills, rows_after, report_rows}
use Rattle.schedule.specs.Streams.{word, past, view_refusal, or_past, view_word}
use Rattle.laws.proofs.FirstBreak.{none_iff, prepend_same}
use Rattle.laws.proofs.Formed.{model-says, input-holds}
use Rattle.laws.proofs.MachineLaws.{word_lt}
use Rattle.laws.proofs.PlanForm.{WordsWithin, form-says}
use Rattle.laws.proofs.Sound.{model_form_sound, plan_form_sound}
use Rattle.laws.proofs.Sums.{total_ext, total_exchange, total_counted}
use Rattle.laws.proofs.Words.{bit_high}
use Rattle.demands.specs.FormerForm
use Rattle.demands.specs.FormerChecks
use Rattle.demands.specs.FormerAnswers
use Rattle.demands.specs.Widths.{OfWidthOne, OlderModels, AnswersAsBefore, OlderModelsAnswerAsBefore, NoChange, InCoreTicks}
use Rattle.demands.proofs.BreakAlike.{answers_behind}
use Rattle.demands.proofs.FirstCores.{word_same, start-same, end_same, owed_same, plan-same, run-rules-same}
use Rattle.demands.proofs.FormerForm.{same_reading, same-form}
use Rattle.demands.proofs.FormerRules.{figures-same, plain-rules-same, strict-rules-same}

pub older_models : OlderModels
unfolding model unrolled page
older_models s version a l = rw (lt-ltb a _ l) (⊎_elim (λ e. rw e refl) (λ e. rw e refl) version)

-- a sum over ticks of sums over activities is a sum over activities of their ticks
pub in_core_ticks : InCoreTicks
unfolding figures cores_of count_of
in_core_ticks m p =
    total_exchange m.horizon m.activities (λ t a. cond (active p t a) (m.width a) 0)
    ∙ total_ext m.activities _ _ (λ a _. total_counted m.horizon (λ t. active p t a) (m.width a))

-- ---- the run

module _ (m : Model) (one : OfWidthOne m) (q : Choice) where
  -- the machine's words have no bit from m on
  written_same : m.activities ≤ 32 → written m q ≡ FormerAnswers.written m q
  unfolding machine_plan
  written_same few =
      ap (λ (f : Figures). record { length = length_needed m; figures = f })
      (figures-same m one few (machine_plan m q) (λ t _ b _ l.
      bit_high _ m.activities b (word_lt m q.release q.duration t) l)
      ∙ ap (FormerChecks.figures m) (plan-same m one q))

  outcome-same : m.activities ≤ 32 → (room : ℕ) → outcome m q room ≡ FormerAnswers.outcome m q room
  unfolding outcome concluded FormerAnswers.outcome FormerAnswers.concluded
  outcome-same few room =
      ap₂ (λ (o : Option Refusal) (w : Written).
      cond (ltb room (length_needed m)) (from_buffer (record { number = 41; A = length_needed m; B = 0 }))
      (elim o [ some x ↦ from_run x | none ↦ succeeded w ]))
      (ap first_break (run-rules-same m one q)) (written_same few)

  buffer-same : (o : Outcome) (buffer : List ℕ) → buffer_after o m q buffer ≡ FormerAnswers.buffer_after o m q buffer
  unfolding buffer_after FormerAnswers.buffer_after
  buffer-same (from_input x) buffer = refl
  buffer-same (from_buffer x) buffer = refl
  buffer-same (from_run x) buffer = refl
  buffer-same (succeeded w) buffer = ap (λ (p : Plan). plan_bytes p ++ drop w.length buffer) (plan-same m one q)

  row_same : report_row m q ≡ FormerAnswers.report_row m q
  unfolding report_row FormerAnswers.report_row
  row_same =
      fun_ext (λ a.
      ap (lateness (q.release (m.thread a)) (q.period (m.thread a))) (end_same m one q.release q.duration a))

-- ---- the answers

-- behind form rules that break as today's do
module _ (s : List ℕ) (one : OfWidthOne (model s)) (form : List Rule) (alike : first_break (model_form s) ≡ first_break form) where
  -- two lists of rules behind the form rules of both records, if they break alike where the figures are the same
  verdict-same : (r : List ℕ) (rules rules' : List Rule)
      → ((model s).activities ≤ 32 → WordsWithin (model s) (plan r) → first_break rules ≡ first_break rules')
      → answer (first_break (model_form s ++ (plan_form (model s) r ++ rules))) (figures (model s) (plan r))
      ≡ answer (first_break (form ++ (plan_form (model s) r ++ rules'))) (FormerChecks.figures (model s) (plan r))
  verdict-same r rules rules' same =
      answers_behind (model_form s) form _ _ _ _ alike (λ e.
      answers_behind (plan_form (model s) r) (plan_form (model s) r) _ _ _ _ refl (λ f.
      let few = (model-says s ((none_iff (model_form s) (model_form_sound s)).0 e)).activities.1 in
      let formed = form-says (model s) r ((none_iff (plan_form (model s) r) (plan_form_sound (model s) r)).0 f) in
      ap₂ answer (same few formed.words-within) (figures-same (model s) one few (plan r) formed.words-within)))

  plain-same : (r : List ℕ) → plain_verdict s r ≡ FormerChecks.plain_verdict form (model s) r
  unfolding plain_verdict plain_checks FormerChecks.plain_verdict
  plain-same r = verdict-same r _ _ (λ few known. plain-rules-same (model s) one few (plan r) known)

  strict_same : (r : List ℕ) → strict_verdict s r ≡ FormerChecks.strict_verdict form (model s) r
  unfolding strict_verdict strict_checks FormerChecks.strict_verdict
  strict_same r = verdict-same r _ _ (λ few known. strict-rules-same (model s) one few (plan r) known)

  input-same : (q : List ℕ) → first_break (run_checks s q) ≡ first_break (form ++ choice_form (model s) q)
  unfolding run_checks
  input-same q = prepend_same (model_form s) form (choice_form (model s) q) alike

  run-same : (q : List ℕ) (room : ℕ) → run_outcome s q room ≡ FormerAnswers.run_outcome form (model s) q room
  unfolding run_outcome FormerAnswers.run_outcome
  run-same q room =
      by (first_break (run_checks s q)) refl
      ∙ ap (λ (o : Option Refusal). ends o (FormerAnswers.outcome (model s) (choice q) room)) (input-same q)
    where
      ends : Option Refusal → Outcome → Outcome
      ends o then = elim o [ some x ↦ from_input x | none ↦ then ]

      by : (o : Option Refusal) → first_break (run_checks s q) ≡ o
          → ends o (outcome (model s) (choice q) room) ≡ ends o (FormerAnswers.outcome (model s) (choice q) room)
      by (some x) e = refl
      by none e = outcome-same (model s) one (choice q) (input-holds s q e).activities.1 room

  report-same : (q : List ℕ) (lent : ℕ) → report_answer s q lent ≡ FormerAnswers.report_answer form (model s) q lent
  unfolding report_answer report_rules FormerAnswers.report_answer
  report-same q lent =
      answers_behind (run_checks s q) (form ++ choice_form (model s) q) _ _ _ _ (input-same q) (λ e.
      ap₂ answer (ap (λ (rules : List Rule). first_break (rows_rule lent ∷ rules)) (run-rules-same (model s) one (choice q)))
      (written_same (model s) one (choice q) (input-holds s q e).activities.1))

  rows_same : (q : List ℕ) (list : List ℤ) → report_rows s q list ≡ FormerAnswers.report_rows form (model s) q list
  unfolding report_rows rows_after FormerAnswers.report_rows
  rows_same q list =
      ap₂ (λ (b : Bool) (row : ℕ → ℤ).
      elim b [ true ↦ table (model s).activities row ++ drop (model s).activities list | false ↦ list ])
      (ap fills (report-same q (length list))) (row_same (model s) one (choice q))

  refusal-same : (r : List ℕ) → view_refusal s r ≡ FormerAnswers.view_refusal form (model s) r
  unfolding view_refusal FormerAnswers.view_refusal
  refusal-same r = prepend_same (model_form s) form (plan_form (model s) r) alike

  view-same : (r : List ℕ) (t : ℕ) → view_word s r t ≡ FormerAnswers.view_word form (model s) r t
  unfolding view_word FormerAnswers.view_word
  view-same r t =
      ap (λ (o : Option Refusal). or_past o (cond (ltb t (plan r).horizon) (word ((plan r).word t)) past)) (refusal-same r)

  as_before : AnswersAsBefore s form (model s)
  unfolding run_answer run_buffer FormerAnswers.run_answer FormerAnswers.run_buffer
  as_before = record {
    plain = plain-same;
    strict = strict_same;
    words = word_same (model s) one;
    starts = start-same (model s) one;
    ends = end_same (model s) one;
    owed = owed_same (model s) one;
    run = λ q room. ap answer_of (run-same q room);
    buffer = λ q buffer.
        ap (λ (o : Outcome). buffer_after o (model s) (choice q) buffer) (run-same q (length buffer))
        ∙ buffer-same (model s) one (choice q) _ buffer;
    report = report-same;
    rows = rows_same;
    refusal = refusal-same;
    view = view-same;
  }

pub no_change : NoChange
no_change s one = as_before s one (model_form s) refl

-- an older record breaks the former form rules alike, and its model is the former one
pub older_models_answer_as_before : OlderModelsAnswerAsBefore
unfolding model
older_models_answer_as_before s old =
    let earlier : ¬ (field s 4 1 ≡ 3) = λ e. ⊎_elim (λ x. omega (arith, e, x)) (λ x. omega (arith, e, x)) old in
    subst (AnswersAsBefore s (FormerForm.model_form s)) (ap unrolled (same_reading s old))
    (as_before s (older_models s old) (FormerForm.model_form s) (same-form s earlier))
