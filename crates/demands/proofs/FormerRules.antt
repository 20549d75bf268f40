-- At width 1 the sum of active widths is the number of ones in the word, and an activity that waits but does not fit breaks none of
-- rules 29 to 31: so the rules break as the former ones do, of a plan whose words have no bit from m on.
-- Assumes nothing.
use Prim.Native.Nat.{ℕ, ◌+◌, ◌*◌, ◌≤◌, ◌<◌}
use native.Mathlib.Decide.{dec_lt}
use native.Mathlib.Omega.{arith}
use mathlib.Core.Bool.{Bool, true, false, ◌&&◌, not, and-true}
use mathlib.Core.List.{List, [], ◌∷◌}
use mathlib.Core.Logic.Iff
use mathlib.Core.Logic.{⊎_elim}
use mathlib.Core.Path.{◌≡◌, refl, sym, ap, ◌∙◌}
use lib.Dec.{T, eqb, leb, ltb}
use Rattle.schedule.specs.Bounded.{all, ones, ◌⇒◌}
use Rattle.schedule.specs.Rule.{Rule, break, first_break}
use Rattle.schedule.specs.Model.{Model, priority_of}
use Rattle.schedule.specs.Plan.{Plan, active}
use Rattle.schedule.specs.Machine.{before}
use Rattle.schedule.specs.Checks.{waits, ahead, load, contends, plain_rules, strict_rules}
use Rattle.schedule.specs.Checks.{rule21, rule22, rule23, rule25, rule26, rule27, rule28, rule29, rule30, rule31}
use Rattle.schedule.specs.Answers.{figures}
use Rattle.laws.proofs.Counting.{T_true, implies_same, count_less}
use Rattle.laws.proofs.FirstBreak.{AllSound, break-same, append_same, ◌&◌}
use Rattle.laws.proofs.PlanForm.{WordsWithin}
use Rattle.laws.proofs.Rank.{Before, before-says}
use Rattle.laws.proofs.Sound.{waits_sound}
use Rattle.laws.proofs.Sums.{total_ext}
use Rattle.laws.proofs.Tests.{tests, T_and, T_implies, T_not, T_eqb, T_leb, T_ltb, T_all}
use Rattle.laws.proofs.Words.{ones-count}
use Rattle.demands.specs.FormerChecks
use Rattle.demands.specs.Widths.{OfWidthOne}
use Rattle.demands.proofs.BreakAlike.{cons_same}
use Rattle.demands.proofs.FirstCores.{cores-count, cores_mono}

-- the tests of the former rules decided their statements
pub former_sound : (m : Model) (p : Plan) → AllSound (
    FormerChecks.rule28 m p ∷ FormerChecks.rule29 m p ∷ FormerChecks.rule30 m p ∷ FormerChecks.rule31 m p ∷ [])
unfolding FormerChecks.rule28 FormerChecks.rule29 FormerChecks.rule30 FormerChecks.rule31
former_sound m p = simp (tests, waits_sound) (
    (λ _ _. Iff.rfl) & (λ _ _. Iff.rfl) & (λ _ _. Iff.rfl) & (λ _ _. Iff.rfl) & tt)

-- a condition that is passed wherever another fails need not be asked beside that other
beside_same : (w fits then : Bool) → ((¬ T fits) → T then) → (w && fits ⇒ then) ≡ (w ⇒ then)
beside_same false fits then h = refl
beside_same true true then h = refl
beside_same true false then h = sym (T_true then (h (λ x. x)))

module _ (m : Model) (one : OfWidthOne m) (few : m.activities ≤ 32) (p : Plan) (known : WordsWithin m p) where
  load-ones : (t : ℕ) → t < m.horizon → load m p t ≡ ones (p.word t)
  load-ones t l =
      cores-count m one (active p t) ∙ sym (ones-count (p.word t) m.activities few (known t l))

  pub figures-same : figures m p ≡ FormerChecks.figures m p
  unfolding figures FormerChecks.figures
  figures-same = λ at. record {
    usage = total_ext m.horizon (load m p) (λ t. ones (p.word t)) load-ones at;
    capacity = m.cores * m.horizon;
    makespan = (figures m p).makespan;
  }

  module _ (t b : ℕ) (l : b < m.activities) where
    abbrev fits : Bool
    fits = leb (m.width b + ahead m (active p t) b) m.cores

    -- those before it take no more cores than all: one is left for it where not all are taken
    fits-idle : load m p t < m.cores → T fits
    fits-idle h =
        let most = cores_mono m one (λ a. active p t a && before m a b) (active p t) (λ a _ x.
        ((T_and (active p t a) (before m a b)).0 x).0) in
        (T_leb _ m.cores).1 (omega (arith, one b l, most))

    -- and where all are, but one of them by an activity that is not before it
    fits_behind : load m p t ≡ m.cores → (a : ℕ) → a < m.activities → T (active p t a) → (¬ Before m a b) → T fits
    fits_behind full a la x behind =
        let fewer = count_less m.activities (λ a. active p t a && before m a b) (active p t)
        (λ i _ y. ((T_and (active p t i) (before m i b)).0 y).0) a la x
        (λ y. behind (before-says m a b ((T_and (active p t a) (before m a b)).0 y).1)) in
        (T_leb _ m.cores).1 (omega (
          arith,
          one b l,
          fewer,
          full,
          cores-count m one (λ a. active p t a && before m a b),
          cores-count m one (active p t),
        ))

    -- an active one of lower priority than b, or of its priority and with a larger number, is not before it
    not_above : (a : ℕ) → priority_of m a < priority_of m b → ¬ Before m a b
    unfolding Before
    not_above a less h = ⊎_elim (λ x. omega (arith, less, x)) (λ x. omega (arith, less, x.0)) h

    not-level : (a : ℕ) → priority_of m b ≡ priority_of m a → b < a → ¬ Before m a b
    unfolding Before
    not-level a e less h = ⊎_elim (λ x. omega (arith, e, x)) (λ x. omega (arith, less, x.1)) h

    -- so what rules 29 and 31 say of b holds where it does not fit
    never_above : load m p t ≡ m.cores → (¬ T fits)
        → T (all m.activities (λ a. active p t a ⇒ leb (priority_of m b) (priority_of m a)))
    never_above full crowded =
        (T_all m.activities _).1 (λ a la. (T_implies (active p t a) _).1 (λ x.
        elim (dec_lt (priority_of m a) (priority_of m b)) [
          | yes less ↦ absurd (crowded (fits_behind full a la x (not_above a less)))
          | no more ↦ (T_leb (priority_of m b) (priority_of m a)).1 (omega arith)
        ]))

    never_tied : load m p t ≡ m.cores → (¬ T fits)
        → T (all m.activities (λ a. active p t a ⇒ ltb b a ⇒ not (eqb (priority_of m b) (priority_of m a))))
    never_tied full crowded =
        (T_all m.activities _).1 (λ a la. (T_implies (active p t a) _).1 (λ x. (T_implies (ltb b a) _).1 (λ less.
        (T_not (eqb (priority_of m b) (priority_of m a))).1 (λ e.
        crowded (fits_behind full a la x (not-level a ((T_eqb (priority_of m b) (priority_of m a)).0 e) ((T_ltb b a).0 less)))))))

  -- ---- the rules

  same28 : break (rule28 m p) ≡ break (FormerChecks.rule28 m p)
  unfolding rule28 FormerChecks.rule28
  same28 =
      break-same (rule28 m p) (FormerChecks.rule28 m p) refl refl refl (λ t _ l _.
      ap (λ (x : ℕ). leb x m.cores) (load-ones t l))

  same29 : break (rule29 m p) ≡ break (FormerChecks.rule29 m p)
  unfolding rule29 contends FormerChecks.rule29
  same29 =
      break-same (rule29 m p) (FormerChecks.rule29 m p) refl refl refl (λ t b l k.
      implies_same (eqb (load m p t) m.cores) _ _ (λ full.
      beside_same (waits m p t b) (fits t b k) _ (never_above t b k ((T_eqb (load m p t) m.cores).0 full)))
      ∙ ap (λ (x : ℕ). eqb x m.cores ⇒ waits m p t b
      ⇒ all m.activities (λ a. active p t a ⇒ leb (priority_of m b) (priority_of m a))) (load-ones t l))

  same30 : break (rule30 m p) ≡ break (FormerChecks.rule30 m p)
  unfolding rule30 contends FormerChecks.rule30
  same30 =
      break-same (rule30 m p) (FormerChecks.rule30 m p) refl refl refl (λ t b l k.
      implies_same (ltb (load m p t) m.cores) _ _ (λ idle.
      ap (λ (x : Bool). not (waits m p t b && x)) (T_true (fits t b k) (fits-idle t b k ((T_ltb (load m p t) m.cores).0 idle)))
      ∙ ap not (and-true (waits m p t b)))
      ∙ ap (λ (x : ℕ). ltb x m.cores ⇒ not (waits m p t b)) (load-ones t l))

  same31 : break (rule31 m p) ≡ break (FormerChecks.rule31 m p)
  unfolding rule31 contends FormerChecks.rule31
  same31 =
      break-same (rule31 m p) (FormerChecks.rule31 m p) refl refl refl (λ t b l k.
      beside_same (waits m p t b) (fits t b k) _ (λ crowded. (T_implies (eqb (load m p t) m.cores) _).1 (λ full.
      never_tied t b k ((T_eqb (load m p t) m.cores).0 full) crowded))
      ∙ ap (λ (x : ℕ). waits m p t b ⇒ eqb x m.cores
      ⇒ all m.activities (λ a. active p t a ⇒ ltb b a ⇒ not (eqb (priority_of m b) (priority_of m a)))) (load-ones t l))

  -- 21 to 27, before them, are the same rules
  abbrev front : List Rule
  front = rule21 m p ∷ rule22 m p ∷ rule23 m p ∷ rule25 m p ∷ rule26 m p ∷ rule27 m p ∷ []

  pub plain-rules-same : first_break (plain_rules m p) ≡ first_break (FormerChecks.plain_rules m p)
  unfolding plain_rules FormerChecks.plain_rules
  plain-rules-same = append_same front _ _ (cons_same _ _ _ _ same28 (cons_same _ _ _ _ same29 refl))

  pub strict-rules-same : first_break (strict_rules m p) ≡ first_break (FormerChecks.strict_rules m p)
  unfolding strict_rules FormerChecks.plain_rules FormerChecks.strict_rules
  strict-rules-same =
      append_same front _ _ (cons_same _ _ _ _ same28 (cons_same _ _ _ _ same29
      (cons_same _ _ _ _ same30 (cons_same _ _ _ _ same31 refl))))
