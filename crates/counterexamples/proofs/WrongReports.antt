-- Reports that what is said of a right one shuts out, each with the answer and the list that it would give on literal records.
-- Assumes nothing.
use Prim.Native.Nat.{ℕ}
use native.Mathlib.Omega.{arith}
use mathlib.Core.List.{List, ◌∷◌}
use mathlib.Core.Path.{◌≡◌, refl, sym, ap}
use lib.IntN.{ℤ, pos, negsuc, nat_abs, pos-ne-negsuc}
use lib.ListN.{get_or, drop, replicate}
use Rattle.schedule.specs.Answers.{Answer, accepted, refused, Written}
use Rattle.schedule.specs.Report.{dash}
use Rattle.schedule.specs.Cases.{every, refuses}
use Rattle.schedule.specs.Starred.{model_s, choice_s, horizon, wider_period, chosen_period}
use Rattle.schedule.specs.Lateness.{lent, answers, apart, chosen}
use Rattle.laws.proofs.VerdictLaws.{accepted_is_not-refused}
use Rattle.demands.specs.Lateness.{RightReport}

-- an answer and a list, of a model's and a choice's bytes and a lent list of 32 rows
abbrev Report : List ℕ → List ℕ → Answer Written → List ℤ → Type 1
Report s q said new = RightReport s q said (lent 32) new

abbrev zeros : List ℤ
zeros = replicate 32 (pos 0)

-- zeros, of a late run and of a good one
pub zeros-late : ¬ Report wider_period (chosen_period 5) (refuses 43 2 0) zeros
unfolding every
zeros-late r = (r.late (record { number = 43; A = 2; B = 0 }) refl refl).1.late.negative.lt

pub zeros-good : ¬ Report model_s choice_s (answers 61 5 8 6) zeros
unfolding every
zeros-good r =
    pos-ne-negsuc 0 2147483647 (((r.good _ refl).0.rows 0 (omega arith)).dashed.1 refl)

-- the dash counted as late
pub dash-late : ¬ Report model_s choice_s (refuses 43 0 0) (dash ∷ pos 4 ∷ pos 2 ∷ drop 3 (lent 32))
unfolding every
dash-late r = (r.late (record { number = 43; A = 0; B = 0 }) refl refl).1.late.no_dash refl

-- rows on 42
pub filled_on_42 : ¬ Report (horizon 5) choice_s (refuses 42 2 0) (dash ∷ pos 4 ∷ pos 8 ∷ drop 3 (lent 32))
unfolding every
filled_on_42 r =
    pos-ne-negsuc 100 2147483647
    (sym (ap (λ (l : List ℤ). get_or l 0 (pos 0)) (r.other (record { number = 42; A = 2; B = 0 }) refl (λ e. omega arith))))

-- no row behind the first late one
pub rows_up_to_A : ¬ Report apart (chosen 1 1 2) (refuses 43 0 0) (negsuc 0 ∷ drop 1 (lent 32))
unfolding every
rows_up_to_A r =
    let wrong = ((r.late (record { number = 43; A = 0; B = 0 }) refl refl).0.rows 1 (omega arith)).figure (λ e. omega arith) in
    omega (arith, ap nat_abs wrong)

-- the right sign with another size
pub wrong_size : ¬ Report model_s choice_s (answers 61 5 8 6) (dash ∷ pos 1 ∷ pos 1 ∷ drop 3 (lent 32))
unfolding every
wrong_size r =
    let wrong = ((r.good _ refl).0.rows 1 (omega arith)).figure (λ e. omega arith) in
    omega (arith, ap nat_abs wrong)

-- a row past the last activity
pub row-past_the_last : ¬ Report model_s choice_s (answers 61 5 8 6) (dash ∷ pos 4 ∷ pos 2 ∷ pos 0 ∷ drop 4 (lent 32))
unfolding every
row-past_the_last r = omega (arith, ap nat_abs ((r.good _ refl).0.untouched 3 (omega arith)))

-- a refusal of every input
pub refuses-all : ¬ Report model_s choice_s (refuses 50 0 0) (lent 32)
unfolding every
refuses-all r = accepted_is_not-refused _ _ (sym (r.as_the_run (omega arith) 61 (omega arith)))

-- the figures of another run
usage_in : Answer Written → ℕ
usage_in (accepted w) = w.figures.usage
usage_in (refused _) = 0

pub wrong_figures : ¬ Report model_s choice_s (answers 61 0 8 6) (dash ∷ pos 4 ∷ pos 2 ∷ drop 3 (lent 32))
unfolding every usage_in
wrong_figures r =
    let wrong : ◌≡◌ {A = ℕ} 0 5 = ap usage_in (r.as_the_run (omega arith) 61 (omega arith)) in
    omega arith
