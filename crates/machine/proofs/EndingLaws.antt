-- Rules 42 and 43 from tables of what is owed and of the ends.
-- Assumes nothing.
use Prim.Native.Nat.{ℕ, ◌≤◌, ◌<◌}
use native.Mathlib.Omega.{arith}
use mathlib.Core.Bool.{Bool, true, not}
use mathlib.Core.List.{List, []}
use mathlib.Core.Option.{some, none}
use mathlib.Core.Path.{◌≡◌, refl, sym, subst, ap, ap₂, ◌∙◌}
use lib.Dec.{T, eqb}
use lib.ListN.{get_or}
use Rattle.std.specs.Prelude.{None, Some}
use Rattle.schedule.specs.Bounded.{lowest}
use Rattle.schedule.specs.Rule.{Rule, break, first_break}
use Rattle.schedule.specs.Model.{Model}
use Rattle.schedule.specs.Choice.{Choice, choice_timing}
use Rattle.schedule.specs.Machine.{machine_end}
use Rattle.schedule.specs.Timing.{on_time, in_time, deadline_rule}
use Rattle.schedule.specs.Answers.{owed_rule, run_rules}
use Rattle.laws.proofs.Lowest.{Lowest, found_here, found_none, lowest_ext, is_lowest}
use Rattle.laws.proofs.RowLaws.{break_at, break-none_at}
use Rattle.laws.proofs.FirstBreak.{rule_stops, rule_goes_on}
use Rattle.tables.specs.Columns.{TableOf}
use Rattle.machine.specs.Ending.{First, Stopped, in_time_from}

none_left : first_break [] ≡ none
unfolding first_break
none_left = refl

-- what a search finds, and what it says where it finds nothing
pub first_some : (n : ℕ) (p : ℕ → Bool) (a : ℕ) → First n p (Some a) → a ≡ lowest n p
first_some n p a h = found_here n p a true h.0 (λ j l t. subst T (h.2 j l) t) (sym h.1) tt

pub first_none : (n : ℕ) (p : ℕ → Bool) → First n p None → n ≡ lowest n p
first_none n p h = found_none n p n (omega arith) (omega arith) (λ j l t. subst T (h j l) t)

module _ (m : Model) (q : Choice) (owed ends : List ℕ) (stopped : Stopped m q owed ends) (n : ℕ) (en : n ≡ m.activities) where
  -- rule 43
  abbrev deadline : Rule
  deadline = deadline_rule 43 m (choice_timing q) (machine_end m q.release q.duration)

  owing_is : (i : ℕ) → i ≡ lowest n (λ a. not (eqb (get_or owed a 0) 0))
      → Lowest (owed_rule m q).rows (λ a. not ((owed_rule m q).test a 0)) i
  unfolding owed_rule
  owing_is i e =
      is_lowest m.activities _ i
      (e
      ∙ ap (λ (k : ℕ). lowest k (λ a. not (eqb (get_or owed a 0) 0))) en
      ∙ lowest_ext m.activities _ _ (λ a l. ap (λ (x : ℕ). not (eqb x 0)) (stopped.owed_ticks a l)))

  late_is : (i : ℕ) (releases periods : List ℕ) → TableOf m releases (λ a. q.release (m.thread a))
      → TableOf m periods (λ a. q.period (m.thread a))
      → i ≡ lowest n (λ a. not (in_time_from releases periods ends a))
      → Lowest deadline.rows (λ a. not (deadline.test a 0)) i
  unfolding deadline_rule in_time in_time_from
  late_is i releases periods released held e =
      is_lowest m.activities _ i
      (e
      ∙ ap (λ (k : ℕ). lowest k (λ a. not (in_time_from releases periods ends a))) en
      ∙ lowest_ext m.activities _ _ (λ a l.
      ap (λ (release : ℕ). not (on_time release (get_or periods a 0) (get_or ends a 0))) (released a l)
      ∙ ap₂ (λ (period end : ℕ). not (on_time (q.release (m.thread a)) period end)) (held a l) (stopped.end_ticks a l)))

  pub owed-first : (i : ℕ) → i ≡ lowest n (λ a. not (eqb (get_or owed a 0) 0)) → i < n
      → first_break (run_rules m q) ≡ some (record { number = 42; A = i; B = 0 })
  unfolding run_rules owed_rule
  owed-first i e l = rule_stops (owed_rule m q) _ _ (break_at (owed_rule m q) refl i (owing_is i e) (omega arith))

  owed_none : (i : ℕ) → i ≡ lowest n (λ a. not (eqb (get_or owed a 0) 0)) → n ≤ i → break (owed_rule m q) ≡ none
  unfolding owed_rule
  owed_none i e l = break-none_at (owed_rule m q) refl i (owing_is i e) (omega arith)

  module _ (i j : ℕ) (releases periods : List ℕ) (released : TableOf m releases (λ a. q.release (m.thread a)))
      (held : TableOf m periods (λ a. q.period (m.thread a)))
      (ei : i ≡ lowest n (λ a. not (eqb (get_or owed a 0) 0))) (li : n ≤ i)
      (ej : j ≡ lowest n (λ a. not (in_time_from releases periods ends a))) where
    pub late-first : j < n → first_break (run_rules m q) ≡ some (record { number = 43; A = j; B = 0 })
    unfolding run_rules deadline_rule
    late-first l =
        rule_goes_on (owed_rule m q) _ (owed_none i ei li)
        ∙ rule_stops deadline [] _ (break_at deadline refl j (late_is j releases periods released held ej) (omega arith))

    pub none-late : n ≤ j → first_break (run_rules m q) ≡ none
    unfolding run_rules deadline_rule
    none-late l =
        rule_goes_on (owed_rule m q) _ (owed_none i ei li)
        ∙ rule_goes_on deadline [] (break-none_at deadline refl j (late_is j releases periods released held ej) (omega arith))
        ∙ none_left
