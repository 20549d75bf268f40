-- What follows from the rules and is worth reading by itself: the lengths, the deadline, efe, the makespan, what it is to fail
-- the strict check, and the page through the held view.
-- Assumes nothing.
use Prim.Native.Nat.{ℕ, ◌<◌}
use native.Mathlib.Omega.{arith}
use mathlib.Core.Bool.{Bool, true, false, cond}
use mathlib.Core.List.{List, ◌++◌}
use mathlib.Core.Logic.{⊎_elim}
use mathlib.Core.Option.{Option, none}
use mathlib.Core.Path.{◌≡◌, refl, ap, ◌∙◌}
use lib.Dec.{T, ltb, ltb→lt}
use lib.ListN.{length}
use Rattle.schedule.specs.Rule.{Refusal}
use Rattle.schedule.specs.Model.{model, model_form}
use Rattle.schedule.specs.Timing.{InTime}
use Rattle.schedule.specs.Choice.{choice}
use Rattle.schedule.specs.Plan.{plan, plan_form, plan_bytes}
use Rattle.schedule.specs.Checks.{plain_rules, strict_rules}
use Rattle.schedule.specs.Answers.{
  Figures,
  figures,
  plain_checks,
  machine_plan,
  MeetsForm,
  WellFormed,
}
use Rattle.schedule.specs.Streams.{WordOrPast, word, past, or_past, view_refusal, view_word}
use Rattle.laws.proofs.EfeLaws.{efe_equation, efe-release, efe-temporal, efe_data, efe_bound}
use Rattle.laws.proofs.Formed.{model-says}
use Rattle.laws.proofs.FirstBreak.{none_iff, sound_append, hold_append, hold_or_broken}
use Rattle.laws.proofs.Sound.{model_form_sound, plan_form_sound, strict_rules_sound}
use Rattle.laws.proofs.Sums.{greatest_each, least_each}
use Rattle.demands.specs.Efe.{EfeIsLargest, EfeSolves}
use Rattle.demands.specs.Strict.{plan_written}
use Rattle.demands.specs.Consequences.{LengthsAre, DeadlineIs, MakespanWhole, StrictFails, AllRefused, ViewOfWritten}
use Rattle.demands.proofs.Demand2.{plain-accepted, plain-keeps, strict_breaks_rule, strict-passes-rules}
use Rattle.demands.proofs.Demand3.{demand_3, back, its_plan}
use Rattle.demands.proofs.Page.{formed, tested, roomy, settles}

-- ---- the lengths and the deadline

pub lengths_are : LengthsAre
lengths_are n m H = record { model_1 = refl; model_2 = refl; model_3 = refl; choice = refl; plan = refl }

pub in_time_is : DeadlineIs
unfolding InTime
in_time_is m timing end a = refl

-- ---- efe

pub efe_solves : EfeSolves
efe_solves s r formed a l = efe_equation (model s) (plan r) (model-says s formed).ordered a l

pub efe_largest : EfeIsLargest
efe_largest s r formed a l =
    let ordered = (model-says s formed).ordered in
    record {
      none_above = record {
        release = efe-release (model s) (plan r) ordered a l;
        temporal = λ b lb t. efe-temporal (model s) (plan r) ordered a b l lb t;
        on_data = λ b lb t. efe_data (model s) (plan r) ordered a b l lb t;
      };
      least = λ x h. efe_bound (model s) (plan r) ordered a x l h.release h.temporal h.on_data;
    }

-- ---- the makespan

pub makespan-whole : MakespanWhole
unfolding plain_checks figures
makespan-whole s r f e =
    let pass = (plain-accepted s r f).0 e in
    let forms = (hold_append (model_form s) (plan_form (model s) r ++ plain_rules (model s) (plan r))).0 pass.0 in
    let rules = (hold_append (plan_form (model s) r) (plain_rules (model s) (plan r))).0 forms.1 in
    let keeps = (plain-keeps (model s) (plan r)).0 rules.1 in
    let formed = model-says s forms.0 in
    let first : 0 < (model s).activities = omega (arith, formed.activities.0) in
    omega (
      arith,
      ap (λ (x : Figures). x.makespan) pass.1,
      least_each (model s).threads (plan r).release ((model s).thread 0) (formed.owner 0 first),
      efe-release (model s) (plan r) formed.ordered 0 first,
      keeps.eligible 0 first,
      (keeps.window 0 first).ordered,
      greatest_each (model s).activities (plan r).end 0 first,
    )

-- ---- failing the strict check

pub strict-fails : StrictFails
strict-fails s r formed well fails =
    ⊎_elim
    (λ holds. absurd (fails _ ((strict-passes-rules s r formed well).1 holds)))
    (λ b. (b.0, ((strict_breaks_rule s r b.0 formed well).1 b.1, b.1)))
    (hold_or_broken (strict_rules (model s) (plan r)) (strict_rules_sound (model s) (plan r)))

pub refused_all : AllRefused
refused_all s q buffer q-bytes formed tested fits y e r r-bytes well choices =
    strict-fails s r formed well (λ f pass.
    (demand_3 s q buffer q-bytes formed tested fits).none_passes y e r
    (f, record { bytes = r-bytes; well_formed = well; choices = choices; strict = pass }))

-- ---- the held view

-- what is given below a bound, and past from there on, depends on what stands below the bound
below-same : (t h : ℕ) {x y : WordOrPast} → (t < h → x ≡ y) → cond (ltb t h) x past ≡ cond (ltb t h) y past
below-same t h {x} {y} e = by (ltb t h) (λ b. e (ltb→lt t h b))
  where
    by : (b : Bool) → (T b → x ≡ y) → cond b x past ≡ cond b y past
    by true f = f tt
    by false f = refl

-- two records of right form are not refused
view-whole : (s r : List ℕ) → MeetsForm s → WellFormed s r → view_refusal s r ≡ none
unfolding view_refusal
view-whole s r formed well =
    (none_iff (model_form s ++ plan_form (model s) r)
    ((sound_append (model_form s) (plan_form (model s) r)).1 (model_form_sound s, plan_form_sound (model s) r))).1
    ((hold_append (model_form s) (plan_form (model s) r)).1 (formed, well))

pub written-view : ViewOfWritten
unfolding view_word machine_plan
written-view s q buffer bytes w e t =
    let room : ℕ = length buffer in
    let form = formed s q room w e in
    let test = tested s q room w e in
    let fits = roomy s q room w e in
    let passes = (demand_3 s q buffer bytes form test fits).strict w e in
    let read = back s q bytes form test (settles s q room w e) in
    let same = its_plan s q bytes form test buffer fits w e in
    let wrote : List ℕ = plan_written s q buffer w in
    ap (λ (o : Option Refusal). or_past o (cond (ltb t (plan wrote).horizon) (word ((plan wrote).word t)) past))
    (view-whole s wrote form passes.well_formed)
    ∙ ap (λ (r : List ℕ). cond (ltb t (plan r).horizon) (word ((plan r).word t)) past) same
    ∙ ap (λ (h : ℕ). cond (ltb t h) (word ((plan (plan_bytes (machine_plan (model s) (choice q)))).word t)) past) read.horizon
    ∙ below-same t (model s).horizon (λ l. ap word (read.word t l))
