-- Demand 3: for a model that meets its form rules, a choice that passes its tests and a buffer that is long enough, the
-- run succeeds exactly when some well-formed plan with those choices passes the strict check; the plan it wrote is then
-- the only one, and passes both checks; when it refuses, none passes.
-- Assumes nothing.
use Prim.Native.Nat.{ℕ, ◌≤◌, ◌<◌}
use native.Mathlib.Omega.{arith}
use mathlib.Core.List.{List}
use mathlib.Core.Path.{◌≡◌, refl, sym, subst, ap, ◌∙◌}
use lib.ListN.{length, take, drop}
use lib.Seq.{take_at}
use Rattle.schedule.specs.declared.RunRefusal.{RunRefusal}
use Rattle.schedule.specs.Fields.{Bytes}
use Rattle.schedule.specs.Rule.{AllHold}
use Rattle.schedule.specs.Model.{model, model_form, Formed}
use Rattle.schedule.specs.Timing.{InTime, deadline_rule}
use Rattle.schedule.specs.Choice.{choice, choice_timing, choice_form}
use Rattle.schedule.specs.Plan.{plan, plan_timing, plan_form, plan_bytes}
use Rattle.schedule.specs.Machine.{machine_word, machine_end, machine_owes}
use Rattle.schedule.specs.Keeps.{KeepsStrict}
use Rattle.schedule.specs.Answers.{accepted, Figures, figures, Written, length_needed, machine_plan, Made}
use Rattle.schedule.specs.Answers.{strict_checks, owed_rule, run_rules, run_checks, run_answer}
use Rattle.schedule.specs.Numbers.{run_number}
use Rattle.laws.proofs.FieldLaws.{field_lt}
use Rattle.laws.proofs.PlanBytes.{Fits, ReadsBack, reads_back, length-plan_bytes, bytes-plan_bytes}
use Rattle.laws.proofs.PlanForm.{form-says, written-form, parts_determine}
use Rattle.laws.proofs.FirstBreak.{hold_append, says, ◌&◌}
use Rattle.laws.proofs.Deadlines.{in_time_same}
use Rattle.laws.proofs.VerdictLaws.{accepted_is_not-refused}
use Rattle.laws.proofs.Words.{bit_high}
use Rattle.laws.proofs.MachineLaws.{word_lt}
use Rattle.laws.proofs.MachinePlan.{plan-fits}
use Rattle.laws.proofs.Sums.{figures_ext}
use Rattle.laws.proofs.Unique.{Beside, same_word, same_start, same_end, nothing_owed}
use Rattle.laws.proofs.Exists.{counted, keeps}
use Rattle.demands.specs.Strict.{HasChoices, PassesWith, Passes, Succeeds, plan_written, SingleStrictPlan, Demand3}
use Rattle.laws.proofs.Formed.{model-says, Chosen, choice-says}
use Rattle.demands.proofs.Demand2.{
  strict-accepted,
  strict-passes,
  strict-keeps,
  strict_then_plain,
  run-accepted,
  buffer-accepted,
}

module _ (s q : List ℕ) (q-bytes : Bytes q) (formed : AllHold (model_form s))
    (tested : AllHold (choice_form (model s) q)) where
  model-facts : Formed (model s)
  model-facts = model-says s formed

  choice-facts : Chosen (model s) (choice q)
  choice-facts = choice-says (model s) q q-bytes tested

  lasting : (a : ℕ) → a < (model s).activities → 0 < (choice q).duration a
  lasting a l = omega (arith, model-facts.lasting a l, (choice-facts.duration a l).0)

  -- A plan record that passes: it keeps the strict rules, and stands beside the machine.
  passing-keeps : (r : List ℕ) → Passes s q r → KeepsStrict (model s) (plan r)
  unfolding strict_checks
  passing-keeps r h =
      let all = ((strict-accepted s r h.0).0 h.1.strict).0 in
      (strict-keeps (model s) (plan r)).0
      ((hold_append (plan_form (model s) r) _).0 ((hold_append (model_form s) _).0 all).1).1

  passing_beside : (r : List ℕ) → Passes s q r → Beside (model s) (choice q).release (choice q).duration (plan r)
  unfolding plan
  passing_beside r h =
      let form = form-says (model s) r h.1.well_formed in
      record {
        ordered = model-facts.ordered;
        wide = λ a l. (model-facts.wide a l).0;
        few = model-facts.activities.1;
        narrow = λ t _. field_lt r h.1.bytes _ 4;
        known = form.words-within;
        released = λ a l. h.1.choices.releases ((model s).thread a) (model-facts.owner a l);
        lasts = h.1.choices.durations;
      }

  -- Where the machine ends in time, its plan is written and read back as it is.
  module _ (settles : AllHold (run_rules (model s) (choice q))) where
    settled : (a : ℕ) → a < (model s).activities → machine_owes (model s) (choice q).release (choice q).duration a ≡ 0
    unfolding run_rules owed_rule
    settled a l = says (run_number RunRefusal.Owed) (run_rules (model s) (choice q)) settles a 0 l (omega arith)

    within_time : (a : ℕ) → a < (model s).activities
        → InTime (model s) (choice_timing (choice q)) (machine_end (model s) (choice q).release (choice q).duration) a
    unfolding run_rules owed_rule deadline_rule
    within_time a l = says (run_number RunRefusal.Late) (run_rules (model s) (choice q)) settles a 0 l (omega arith)

    pub machine_fits : Fits (machine_plan (model s) (choice q))
    machine_fits = plan-fits (model s) (choice q) model-facts choice-facts.release_lt choice-facts.period_lt

    -- what is read back from the machine's plan
    pub back : ReadsBack (machine_plan (model s) (choice q))
    back = reads_back (machine_plan (model s) (choice q)) machine_fits

    written-formed : AllHold (plan_form (model s) (plan_bytes (machine_plan (model s) (choice q))))
    unfolding machine_plan
    written-formed =
        written-form (model s) (machine_plan (model s) (choice q)) machine_fits refl refl refl choice-facts.in_range
        (λ t _ b _ l. bit_high (machine_word (model s) (choice q).release (choice q).duration t) (model s).activities b
        (word_lt (model s) (choice q).release (choice q).duration t) l)

    -- it has the machine's words, starts and ends, and the chosen releases
    pub made : Made (model s) (choice q).release (choice q).duration (plan (plan_bytes (machine_plan (model s) (choice q))))
    unfolding machine_plan
    made = record {
      words = back.word;
      starts = back.start;
      ends = back.end;
      released = λ a l. back.release ((model s).thread a) (model-facts.owner a l);
    }

    written-choices : HasChoices (model s) (choice q) (plan (plan_bytes (machine_plan (model s) (choice q))))
    unfolding machine_plan
    written-choices = record {
      releases = back.release;
      periods = back.period;
      durations = counted (model s) (choice q).release (choice q).duration (plan (plan_bytes (machine_plan (model s) (choice q)))) made
          model-facts.ordered model-facts.activities.1 lasting settled;
    }

    written_keeps : KeepsStrict (model s) (plan (plan_bytes (machine_plan (model s) (choice q))))
    unfolding machine_plan
    written_keeps =
        keeps (model s) (choice q).release (choice q).duration (plan (plan_bytes (machine_plan (model s) (choice q)))) made
        model-facts.ordered model-facts.activities.1 lasting settled choice-facts.duration
        (λ a l.
        let owner = model-facts.owner a l in
        in_time_same (model s) _ _ _ _ a
        (record { release = sym (back.release _ owner); period = sym (back.period _ owner) })
        (sym (back.end a l)) (within_time a l))

    -- the plan that is written has the figures of the machine's plan
    same-figures : figures (model s) (plan (plan_bytes (machine_plan (model s) (choice q))))
        ≡ figures (model s) (machine_plan (model s) (choice q))
    unfolding machine_plan
    same-figures =
        figures_ext (model s) (plan (plan_bytes (machine_plan (model s) (choice q)))) (machine_plan (model s) (choice q))
        back.word back.end back.release

    -- the plan that is written passes the strict check, with the figures of the machine's plan
    written-passes : PassesWith s q (plan_bytes (machine_plan (model s) (choice q)))
        (figures (model s) (machine_plan (model s) (choice q)))
    written-passes = record {
      bytes = bytes-plan_bytes (machine_plan (model s) (choice q));
      well_formed = written-formed;
      choices = written-choices;
      strict =
          (strict-passes s (plan_bytes (machine_plan (model s) (choice q))) formed written-formed).1 written_keeps
          ∙ ap accepted same-figures;
    }

    -- every plan that passes is the one that is written
    written-only : (r : List ℕ) → Passes s q r → r ≡ plan_bytes (machine_plan (model s) (choice q))
    unfolding machine_plan
    written-only r h =
        let w = passing_beside r h in
        let k = passing-keeps r h in
        parts_determine (model s) r (plan_bytes (machine_plan (model s) (choice q)))
        h.1.bytes (bytes-plan_bytes (machine_plan (model s) (choice q))) h.1.well_formed written-formed
        (record {
          release = λ j l. h.1.choices.releases j l ∙ sym (back.release j l);
          period = λ j l. h.1.choices.periods j l ∙ sym (back.period j l);
          start = λ a l. same_start (model s) (choice q).release (choice q).duration (plan r) w k a l ∙ sym (back.start a l);
          end = λ a l. same_end (model s) (choice q).release (choice q).duration (plan r) w k a l ∙ sym (back.end a l);
          word = λ t l. same_word (model s) (choice q).release (choice q).duration (plan r) w k t l ∙ sym (back.word t l);
        })

  -- where some plan record passes, the machine owes nothing at its end and keeps the deadlines
  passing-settles : (r : List ℕ) → Passes s q r → AllHold (run_rules (model s) (choice q))
  unfolding run_rules owed_rule deadline_rule
  passing-settles r h =
      let w = passing_beside r h in
      let k = passing-keeps r h in
      (λ a _ l _. nothing_owed (model s) (choice q).release (choice q).duration (plan r) w k a l)
      & (λ a _ l _.
      let owner = model-facts.owner a l in
      in_time_same (model s) (plan_timing (plan r)) (choice_timing (choice q)) _ _ a
      (record { release = h.1.choices.releases _ owner; period = h.1.choices.periods _ owner })
      (same_end (model s) (choice q).release (choice q).duration (plan r) w k a l) (k.plain.deadline a l))
      & tt

  checked : AllHold (run_checks s q)
  unfolding run_checks
  checked = (hold_append (model_form s) (choice_form (model s) q)).1 (formed, tested)

  module _ (buffer : List ℕ) (fits : length_needed (model s) ≤ length buffer) where
    settled_by : (w : Written) → run_answer s q (length buffer) ≡ accepted w → AllHold (run_rules (model s) (choice q))
    settled_by w e = ((run-accepted s q (length buffer) w checked fits).0 e).0

    its_figures : (w : Written) → run_answer s q (length buffer) ≡ accepted w
        → figures (model s) (machine_plan (model s) (choice q)) ≡ w.figures
    its_figures w e = sym (ap (λ (x : Written). x.figures) ((run-accepted s q (length buffer) w checked fits).0 e).1)

    -- the buffer's first bytes are the machine's plan
    pub its_plan : (w : Written) → run_answer s q (length buffer) ≡ accepted w
        → plan_written s q buffer w ≡ plan_bytes (machine_plan (model s) (choice q))
    unfolding machine_plan length_needed
    its_plan w e =
        let size : w.length ≡ length_needed (model s) =
        ap (λ (x : Written). x.length) ((run-accepted s q (length buffer) w checked fits).0 e).1 in
        ap (take w.length) (buffer-accepted s q buffer w e)
        ∙ take_at (plan_bytes (machine_plan (model s) (choice q))) (drop w.length buffer) w.length
        (length-plan_bytes (machine_plan (model s) (choice q)) ∙ sym size)

    strict-passed : (w : Written) → run_answer s q (length buffer) ≡ accepted w
        → PassesWith s q (plan_written s q buffer w) w.figures
    strict-passed w e =
        subst (λ (r : List ℕ). PassesWith s q r w.figures) (sym (its_plan w e))
        (subst (λ (f : Figures). PassesWith s q (plan_bytes (machine_plan (model s) (choice q))) f) (its_figures w e)
        (written-passes (settled_by w e)))

    succeeds : (r : List ℕ) → Passes s q r → Succeeds s q buffer
    succeeds r h = (
      record { length = length_needed (model s); figures = figures (model s) (machine_plan (model s) (choice q)) },
      (run-accepted s q (length buffer) _ checked fits).1 (passing-settles r h, refl),
    )

    proved : SingleStrictPlan s q buffer
    proved = record {
      exactly = (
        λ h. (plan_written s q buffer h.0, (h.0.figures, strict-passed h.0 h.1)),
        λ h. succeeds h.0 h.1,
      );
      strict = strict-passed;
      plain = λ w e. strict_then_plain s (plan_written s q buffer w) w.figures (strict-passed w e).strict;
      only = λ w e r h. written-only (settled_by w e) r h ∙ sym (its_plan w e);
      none_passes = λ x e r h.
          let ok = succeeds r h in
          absurd (accepted_is_not-refused ok.0 x (sym ok.1 ∙ e));
    }

-- Demand 3, whole.
pub demand_3 : Demand3
demand_3 s q buffer q-bytes formed tested fits = proved s q q-bytes formed tested buffer fits
