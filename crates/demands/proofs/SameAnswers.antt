-- Every answer depends on a model's record only by the first break of its form rules and by the model that it says.
-- Assumes nothing.
use Prim.Native.Nat.{ℕ}
use mathlib.Core.Bool.{cond}
use mathlib.Core.List.{List, ◌∷◌, ◌++◌}
use mathlib.Core.Option.{Option, some, none}
use mathlib.Core.Path.{◌≡◌, sym, ap, ap₂, subst, ◌∙◌}
use lib.Dec.{ltb}
use lib.ListN.{length}
use Rattle.schedule.specs.Rule.{Rule, Refusal, first_break, AllHold}
use Rattle.schedule.specs.Model.{Model, model, model_form}
use Rattle.schedule.specs.Choice.{choice, choice_form}
use Rattle.schedule.specs.Plan.{plan, plan_form}
use Rattle.schedule.specs.Checks.{plain_rules, strict_rules}
use Rattle.schedule.specs.Answers.{
  Answer,
  answer,
  figures,
  plain_checks,
  strict_checks,
  plain_verdict,
  strict_verdict,
  run_rules,
  Written,
  written,
  run_checks,
  Outcome,
  from_input,
  outcome,
  run_outcome,
  answer_of,
  run_answer,
  buffer_after,
  run_buffer,
}
use Rattle.schedule.specs.Report.{rows_rule, report_rules, report_answer, rows_after, report_rows}
use Rattle.schedule.specs.Streams.{word, past, or_past, view_refusal, view_word}
use Rattle.laws.proofs.FirstBreak.{prepend_same}
use Rattle.demands.specs.Strict.{HasChoices, Passes}
use Rattle.demands.specs.Rounds.{SameGiven, MadeAlike, TriedAlike, AnsweredAlike}

pub made_alike : MadeAlike
made_alike A make s u same = ap₂ make same.form same.says

pub tried_alike : TriedAlike
tried_alike rules s u same =
    prepend_same (model_form s) (model_form u) (rules (model s)) same.form
    ∙ ap (λ (x : Model). first_break (model_form u ++ rules x)) same.says

module _ (s u : List ℕ) (same : SameGiven s u) where
  m : model s ≡ model u
  m = same.says

  -- a verdict by the form rules and others that speak of the model, with figures of the model
  verdict : {F : Type 0} (rules : Model → List Rule) (pass : Model → F)
      → answer (first_break (model_form s ++ rules (model s))) (pass (model s))
      ≡ answer (first_break (model_form u ++ rules (model u))) (pass (model u))
  verdict rules pass = ap₂ answer (tried_alike rules s u same) (ap pass m)

  plain-same : (r : List ℕ) → plain_verdict s r ≡ plain_verdict u r
  unfolding plain_verdict plain_checks
  plain-same r = verdict (λ x. plan_form x r ++ plain_rules x (plan r)) (λ x. figures x (plan r))

  strict_same : (r : List ℕ) → strict_verdict s r ≡ strict_verdict u r
  unfolding strict_verdict strict_checks
  strict_same r = verdict (λ x. plan_form x r ++ strict_rules x (plan r)) (λ x. figures x (plan r))

  view-same : (r : List ℕ) → view_refusal s r ≡ view_refusal u r
  unfolding view_refusal
  view-same r = tried_alike (λ x. plan_form x r) s u same

  word_same : (r : List ℕ) (t : ℕ) → view_word s r t ≡ view_word u r t
  unfolding view_word
  word_same r t =
      ap (λ (o : Option Refusal). or_past o (cond (ltb t (plan r).horizon) (word ((plan r).word t)) past)) (view-same r)

  input-same : (q : List ℕ) → first_break (run_checks s q) ≡ first_break (run_checks u q)
  unfolding run_checks
  input-same q = tried_alike (λ x. choice_form x q) s u same

  outcome-same : (q : List ℕ) (room : ℕ) → run_outcome s q room ≡ run_outcome u q room
  unfolding run_outcome
  outcome-same q room = ap₂ ends (input-same q) m
    where
      ends : Option Refusal → Model → Outcome
      ends o x = elim o [ some y ↦ from_input y | none ↦ outcome x (choice q) room ]

  report-same : (q : List ℕ) (lent : ℕ) → report_answer s q lent ≡ report_answer u q lent
  unfolding report_answer report_rules
  report-same q lent =
      let rest : Model → List Rule = λ x. rows_rule lent ∷ run_rules x (choice q) in
      ap₂ answer
      (prepend_same (run_checks s q) (run_checks u q) (rest (model s)) (input-same q)
      ∙ ap (λ (x : Model). first_break (run_checks u q ++ rest x)) m)
      (ap (λ (x : Model). written x (choice q)) m)

  -- what passes the one passes the other
  passes_on : (q r : List ℕ) → Passes s q r → Passes u q r
  passes_on q r (f, w) = (
    f,
    record {
      bytes = w.bytes;
      well_formed = subst (λ (x : Model). AllHold (plan_form x r)) m w.well_formed;
      choices = subst (λ (x : Model). HasChoices x (choice q) (plan r)) m w.choices;
      strict = sym (strict_same r) ∙ w.strict;
    },
  )

pub answered_alike : AnsweredAlike
unfolding run_answer run_buffer report_rows
answered_alike s u same = record {
  plain = plain-same s u same;
  strict = strict_same s u same;
  view = view-same s u same;
  word = word_same s u same;
  run = λ q room. ap answer_of (outcome-same s u same q room);
  buffer = λ q buffer.
      ap₂ (λ (o : Outcome) (x : Model). buffer_after o x (choice q) buffer)
      (outcome-same s u same q (length buffer)) same.says;
  report = report-same s u same;
  rows = λ q list.
      ap₂ (λ (v : Answer Written) (x : Model). rows_after v x (choice q) list)
      (report-same s u same q (length list)) same.says;
  passes = λ q r. (
    passes_on s u same q r,
    passes_on u s (record { form = sym same.form; says = sym same.says }) q r,
  );
}
