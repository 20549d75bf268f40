-- What a run that succeeds has passed, and what it wrote: the machine's page; and the page that `gridrun` prints: its lines,
-- made of the run's answer and of the buffer that the run leaves, are those of the machine's plan, whatever else stands in
-- the buffer.
-- Assumes nothing.
use Prim.Native.Nat.{ℕ, ◌≤◌, ◌<◌}
use native.Mathlib.Decide.{dec_lt}
use native.Mathlib.Omega.{arith}
use mathlib.Core.List.{List, ◌∷◌, ◌++◌}
use mathlib.Core.Logic.{⊎_elim}
use mathlib.Core.Path.{◌≡◌, refl, sym, subst, ap, ◌∙◌}
use lib.ListN.{length, drop}
use Rattle.schedule.specs.Bounded.{chain}
use Rattle.schedule.specs.Fields.{Bytes}
use Rattle.schedule.specs.Rule.{AllHold}
use Rattle.schedule.specs.Model.{model, model_form}
use Rattle.schedule.specs.Choice.{choice, choice_form}
use Rattle.schedule.specs.Plan.{Plan, plan, plan_bytes}
use Rattle.schedule.specs.Answers.{
  Answer,
  accepted,
  refused,
  Written,
  machine_plan,
  Made,
  length_needed,
  run_rules,
  run_checks,
  run_answer,
  run_buffer,
  MeetsForm,
  PassesTests,
}
use Rattle.schedule.specs.Lines.{shown, tick_line, run_lines}
use Rattle.laws.proofs.FieldLaws.{chain_ext}
use Rattle.laws.proofs.Parts.{stands-whole, stands-first}
use Rattle.laws.proofs.PlanBytes.{ReadsFrom, reads_from}
use Rattle.laws.proofs.FirstBreak.{hold_append}
use Rattle.laws.proofs.VerdictLaws.{accepted_is_not-refused}
use Rattle.demands.specs.Runs.{SuccessHasPassed, PlansAreMade, PageWritten}
use Rattle.demands.proofs.Demand2.{run-input, run-input-refused, run-short-buffer, run-accepted, buffer-accepted}
use Rattle.demands.proofs.Demand3.{machine_fits, made, its_plan}

-- what a run that succeeds has passed
module _ (s q : List ℕ) (room : ℕ) (w : Written) (e : run_answer s q room ≡ accepted w) where
  checked : AllHold (run_checks s q)
  checked =
      ⊎_elim (λ h. h)
      (λ b. absurd (accepted_is_not-refused w b.0 (sym e ∙ run-input-refused s q room b.0 b.1)))
      (run-input s q)

  pub formed : MeetsForm s
  unfolding run_checks
  formed = ((hold_append (model_form s) (choice_form (model s) q)).0 checked).0

  pub tested : PassesTests s q
  unfolding run_checks
  tested = ((hold_append (model_form s) (choice_form (model s) q)).0 checked).1

  pub roomy : length_needed (model s) ≤ room
  roomy =
      elim (dec_lt room (length_needed (model s))) [
        | yes l ↦ absurd (accepted_is_not-refused w _ (sym e ∙ run-short-buffer s q room checked l))
        | no l ↦ omega arith
      ]

  pub settles : AllHold (run_rules (model s) (choice q))
  settles = ((run-accepted s q room w checked roomy).0 e).0

pub success_has_passed : SuccessHasPassed
success_has_passed s q room w e = record {
  formed = formed s q room w e;
  tested = tested s q room w e;
  roomy = roomy s q room w e;
  settles = settles s q room w e;
}

pub written-made : PlansAreMade
written-made s q buffer bytes w e =
    let form = formed s q (length buffer) w e in
    let test = tested s q (length buffer) w e in
    subst (λ (r : List ℕ). Made (model s) (choice q).release (choice q).duration (plan r))
    (sym (its_plan s q bytes form test buffer (roomy s q (length buffer) w e) w e))
    (made s q bytes form test (settles s q (length buffer) w e))

-- the machine's plan is read from the front of the buffer
read_from-buffer : (s q buffer : List ℕ) → Bytes q → (w : Written) → run_answer s q (length buffer) ≡ accepted w
    → ReadsFrom (machine_plan (model s) (choice q)) (plan_bytes (machine_plan (model s) (choice q)) ++ drop w.length buffer)
read_from-buffer s q buffer bytes w e =
    let p : Plan = machine_plan (model s) (choice q) in
    let room : ℕ = length buffer in
    let fits = machine_fits s q bytes (formed s q room w e) (tested s q room w e) (settles s q room w e) in
    reads_from p fits (plan_bytes p ++ drop w.length buffer)
    (stands-first (plan_bytes p ++ drop w.length buffer) 0 (plan_bytes p) (drop w.length buffer)
    (stands-whole (plan_bytes p ++ drop w.length buffer)))

-- the page of a plan is the horizon and the words alone
same-page : (w : Written) (p p' : Plan) → p.horizon ≡ p'.horizon → ((t : ℕ) → t < p'.horizon → p.word t ≡ p'.word t)
    → run_lines (accepted w) p ≡ run_lines (accepted w) p'
unfolding run_lines
same-page w p p' e h =
    ap (λ (lines : List ℕ). lines ++ (114 ∷ 117 ∷ 110 ∷ shown (accepted w.figures)))
    (ap (λ (k : ℕ). chain k (λ t. tick_line t (p.word t))) e
    ∙ chain_ext p'.horizon (λ t. tick_line t (p.word t)) (λ t. tick_line t (p'.word t)) (λ t l. ap (tick_line t) (h t l)))

pub page-written : PageWritten
unfolding run_lines
page-written s q buffer bytes = by (run_answer s q (length buffer)) refl
  where
    by : (a : Answer Written) → run_answer s q (length buffer) ≡ a
        → run_lines a (plan (run_buffer s q buffer)) ≡ run_lines a (machine_plan (model s) (choice q))
    by (refused x) e = refl
    by (accepted w) e =
        let back = read_from-buffer s q buffer bytes w e in
        ap (λ (b : List ℕ). run_lines (accepted w) (plan b)) (buffer-accepted s q buffer w e)
        ∙ same-page w (plan (plan_bytes (machine_plan (model s) (choice q)) ++ drop w.length buffer)) (machine_plan (model s) (choice q))
        back.horizon back.word
