-- What demand 3 says of the run's definitions is what it says of the three answers and of the buffer.
-- Assumes nothing.
use Prim.Native.Nat.{ℕ}
use native.Mathlib.Omega.{arith}
use mathlib.Core.List.{List}
use mathlib.Core.Path.{◌≡◌, sym, ap, subst, ◌∙◌}
use lib.ListN.{length, take}
use Rattle.schedule.specs.Fields.{Bytes}
use Rattle.schedule.specs.Rule.{Refusal}
use Rattle.schedule.specs.Answers.{accepted, refused, Written, plain_verdict, strict_verdict}
use Rattle.schedule.specs.Answers.{run_answer, run_buffer}
use Rattle.schedule.specs.declared.Written as declared
use Rattle.schedule.specs.Numbers.{Verdict, refusal_numbers, verdict_numbers, written_numbers}
use Rattle.laws.proofs.NumbersLaws.{refusal_injective, verdict_injective, run-verdict_injective}
use Rattle.demands.specs.Strict.{PassesWith, plan_written, SingleStrictPlan}
use Rattle.demands.proofs.Demand3.{demand_3}
use Rattle.demands.proofs.Page.{formed, tested, roomy}
use Rattle.std.specs.Prelude.{Ok, Err}
use Rattle.checked_run.specs.declared.Ran.{Ran}
use Rattle.checked_run.specs.Checked.{CheckedRun, Checked, checked_numbers, ran, sent_back, checked_of, checked_run, OnlyPlan, KeepsDemand3}

-- a run is what it answered and the two verdicts
ran_alike : (x y : Ran) → x.written ≡ y.written → x.plain ≡ y.plain → x.strict ≡ y.strict → x ≡ y
ran_alike x y w p t =
    let written : ◌≡◌ {A = Ran} x (record { written = y.written; plain = x.plain; strict = x.strict }) =
    ap (λ (v : declared.Written). record { written = v; plain = x.plain; strict = x.strict }) w in
    written
    ∙ ap (λ (v : Verdict). record { written = y.written; plain = v; strict = x.strict }) p
    ∙ ap (λ (v : Verdict). record { written = y.written; plain = y.plain; strict = v }) t

-- no two answers say the same
pub checked_injective : (x y : Checked) → checked_numbers x ≡ checked_numbers y → x ≡ y
checked_injective (Ok x) (Ok y) e =
    let written : accepted (written_numbers x.written) ≡ accepted (written_numbers y.written) = cc in
    let plain : verdict_numbers x.plain ≡ verdict_numbers y.plain = cc in
    let strict : verdict_numbers x.strict ≡ verdict_numbers y.strict = cc in
    let ran-alike = run-verdict_injective (Ok x.written) (Ok y.written) written in
    ap Ok (ran_alike x y (let same : x.written ≡ y.written = cc in same) (verdict_injective x.plain y.plain plain)
    (verdict_injective x.strict y.strict strict))
checked_injective (Ok x) (Err y) e = let z : ◌≡◌ {A = ℕ} 0 1 = cc in absurd (omega arith)
checked_injective (Err x) (Ok y) e = let z : ◌≡◌ {A = ℕ} 0 1 = cc in absurd (omega arith)
checked_injective (Err x) (Err y) e =
    let same : refusal_numbers x ≡ refusal_numbers y = cc in
    ap Err (refusal_injective x y same)

-- what the call promises: its answer, the buffer, and demand 3 of both
abbrev Promised : List ℕ → List ℕ → List ℕ → List ℕ → CheckedRun → Type 0
Promised s q old new x = ((x ≡ checked_run s q old) × (new ≡ run_buffer s q old)) × KeepsDemand3 s q old new x

module _ (s q old new : List ℕ) (bytes : Bytes q) (left : new ≡ run_buffer s q old) where
  module _ (w : Written) (e : run_answer s q (length old) ≡ accepted w) where
    -- demand 3 of a run that succeeds
    single : SingleStrictPlan s q old
    single =
        let room : ℕ = length old in
        demand_3 s q old bytes (formed s q room w e) (tested s q room w e) (roomy s q room w e)

    wrote : plan_written s q old w ≡ take w.length new
    wrote = ap (take w.length) (sym left)

    only-plan : OnlyPlan s q new w (plain_verdict s (take w.length new)) (strict_verdict s (take w.length new))
    only-plan = record {
      passes = subst (λ (r : List ℕ). PassesWith s q r w.figures) wrote (single.strict w e);
      plain_accepts = ap (plain_verdict s) (sym wrote) ∙ single.plain w e;
      strict_accepts = ap (strict_verdict s) (sym wrote) ∙ (single.strict w e).strict;
      only = λ r h. single.only w e r h ∙ wrote;
    }

    answered : ran w (plain_verdict s (take w.length new)) (strict_verdict s (take w.length new)) ≡ checked_run s q old
    unfolding checked_run checked_of
    answered =
        ap (λ (r : List ℕ). ran w (plain_verdict s r) (strict_verdict s r)) (sym wrote)
        ∙ ap (checked_of s q old) (sym e)

    -- the run succeeded
    pub run-passed : (x : CheckedRun)
        → x ≡ ran w (plain_verdict s (take w.length new)) (strict_verdict s (take w.length new)) → Promised s q old new x
    run-passed x told =
        subst (Promised s q old new) (sym told) ((answered, left), only-plan)

  -- the run refused
  pub run_sent_back : (x : Refusal) → run_answer s q (length old) ≡ refused x → Promised s q old new (sent_back x)
  unfolding checked_run checked_of
  run_sent_back x e = (
    (ap (checked_of s q old) (sym e), left),
    λ formed tested fits r. (demand_3 s q old bytes formed tested fits).none_passes x e r,
  )
