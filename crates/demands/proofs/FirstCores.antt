-- Where each activity takes one core, the walk takes the first c of the ready, or all if fewer: so the machine is the former one,
-- in all that it makes.
-- Assumes nothing.
use Prim.Native.Nat.{ℕ, zero, suc, ◌≤◌, ◌<◌}
use native.Mathlib.Decide.{dec_lt}
use native.Mathlib.Nat.{mul-one}
use native.Mathlib.Omega.{arith}
use mathlib.Core.Bool.{Bool, ◌&&◌, cond}
use mathlib.Core.List.{List, [], ◌∷◌}
use mathlib.Core.Logic.{⊎_elim}
use mathlib.Core.Path.{◌≡◌, refl, sym, ap, ap₂, fun_ext, ◌∙◌}
use lib.Dec.{T, eqb, ltb}
use Rattle.schedule.specs.Bounded.{count, bit}
use Rattle.schedule.specs.Rule.{Rule}
use Rattle.schedule.specs.Model.{Model}
use Rattle.schedule.specs.Timing.{deadline_rule}
use Rattle.schedule.specs.Choice.{Choice, choice_timing}
use Rattle.schedule.specs.Machine.{State, owes, end_of, ready, before, word_at, step, state_at}
use Rattle.schedule.specs.Machine.{machine_word, machine_start, machine_end, machine_owes}
use Rattle.schedule.specs.Checks.{cores_of, ahead}
use Rattle.schedule.specs.Answers.{machine_plan, owed_rule, run_rules}
use Rattle.laws.proofs.Counting.{dec_t, T_ext, count_mono}
use Rattle.laws.proofs.Cores.{cost, spared}
use Rattle.laws.proofs.Lowest.{lowest_ext}
use Rattle.laws.proofs.Rank.{before-says, before_is, before_trans}
use Rattle.laws.proofs.Selection.{selected, selected-fits}
use Rattle.laws.proofs.Sums.{total_ext, total_counted, total_less}
use Rattle.laws.proofs.Tests.{T_and, T_ltb}
use Rattle.laws.proofs.Words.{wordOf_ext}
use Rattle.demands.specs.FormerMachine
use Rattle.demands.specs.FormerAnswers
use Rattle.demands.specs.Widths.{OfWidthOne}

module _ (m : Model) (one : OfWidthOne m) where
  -- some activities take as many cores as they are
  pub cores-count : (these : ℕ → Bool) → cores_of m these ≡ count m.activities these
  unfolding cores_of
  cores-count these =
      total_ext m.activities _ _ (λ a l. ap (λ (w : ℕ). cond (these a) w 0) (one a l))
      ∙ total_counted m.activities these 1
      ∙ mul-one (count m.activities these)

  -- so fewer take no more
  pub cores_mono : (Some-of all_of : ℕ → Bool) → ((a : ℕ) → a < m.activities → T (Some-of a) → T (all_of a))
      → cores_of m Some-of ≤ cores_of m all_of
  cores_mono Some-of all_of h =
      omega (arith, count_mono m.activities Some-of all_of h, cores-count Some-of, cores-count all_of)

  -- ---- the choice of a tick

  module _ (rdy : ℕ → Bool) where
    abbrev taken : ℕ → Bool
    taken = selected m rdy

    rank-ahead : (a : ℕ) → FormerMachine.rank m rdy a ≡ ahead m rdy a
    unfolding FormerMachine.rank
    rank-ahead a = sym (cores-count (λ b. rdy b && before m b a))

    -- no more of the taken rank before a than of the ready
    taken-ahead : (a : ℕ) → ahead m taken a ≤ ahead m rdy a
    taken-ahead a =
        cores_mono (λ b. taken b && before m b a) (λ b. rdy b && before m b a) (λ b l t.
        let both = (T_and (taken b) (before m b a)).0 t in
        (T_and (rdy b) (before m b a)).1 ((selected-fits m rdy).is_ready b l both.0, both.1))

    -- what ranks before b ranks before a, where b does
    ahead_grows : (b a : ℕ) → T (before m b a) → ahead m taken b ≤ ahead m taken a
    ahead_grows b a h =
        cores_mono (λ c. taken c && before m c b) (λ c. taken c && before m c a) (λ c _ t.
        let both = (T_and (taken c) (before m c b)).0 t in
        let further = before_trans m c b a (before-says m c b both.1) (before-says m b a h) in
        (T_and (taken c) (before m c a)).1 (both.0, before_is m c a further))

    -- where fewer of the taken rank before a than of the ready, a ready one before it was not taken, so all cores were
    all-ahead : (a : ℕ) → ahead m taken a < ahead m rdy a → m.cores ≤ ahead m taken a
    unfolding cores_of
    all-ahead a h =
        let found = total_less m.activities _ _ h in
        let b : ℕ = found.0 in
        let is_ready : T (rdy b && before m b a) = ⊎_elim (λ x. x)
        (λ x. absurd (omega (arith, found.2, spared (rdy b && before m b a) (m.width b) x))) (dec_t (rdy b && before m b a)) in
        let both = (T_and (rdy b) (before m b a)).0 is_ready in
        let left : ¬ T (taken b) = λ t.
        omega (
          arith,
          found.2,
          cost (taken b && before m b a) (m.width b) ((T_and (taken b) (before m b a)).1 (t, both.1)),
          cost (rdy b && before m b a) (m.width b) is_ready,
        ) in
        elim (dec_lt (ahead m taken b) m.cores) [
          | yes l ↦ absurd (left ((selected-fits m rdy).is_active b found.1 both.0 (omega (arith, one b found.1, l))))
          | no l ↦ omega (arith, ahead_grows b a both.1)
        ]

    pub selected-first : (a : ℕ) → a < m.activities → selected m rdy a ≡ FormerMachine.selected m rdy a
    unfolding FormerMachine.selected
    selected-first a l = T_ext (taken a) (rdy a && ltb (FormerMachine.rank m rdy a) m.cores)
        (λ t. (T_and (rdy a) _).1 ((selected-fits m rdy).is_ready a l t, (T_ltb _ m.cores).1 (few t)))
        (λ t.
        let both = (T_and (rdy a) _).0 t in
        (selected-fits m rdy).is_active a l both.0
        (omega (arith, one a l, (T_ltb _ m.cores).0 both.1, rank-ahead a, taken-ahead a)))
      where
        few : T (taken a) → FormerMachine.rank m rdy a < m.cores
        few t =
            let room = (selected-fits m rdy).has_room a l t in
            elim (dec_lt (ahead m taken a) (ahead m rdy a)) [
              | yes h ↦ absurd (omega (arith, room, one a l, all-ahead a h))
              | no h ↦ omega (arith, room, one a l, rank-ahead a)
            ]

  -- ---- the machine

  module _ (release duration : ℕ → ℕ) where
    word_at_same : (t : ℕ) (s : State) → word_at m release t s ≡ FormerMachine.word_at m release t s
    unfolding word_at selected FormerMachine.word_at
    word_at_same t s = wordOf_ext m.activities _ _ (selected-first (ready m release t s))

    state-same : (t : ℕ) → state_at m release duration t ≡ FormerMachine.state_at m release duration t
    unfolding state_at FormerMachine.state_at
    state-same zero = refl
    state-same (suc t) =
        ap (λ (s : State). step m t (word_at m release t s) s) (state-same t)
        ∙ ap (λ (w : ℕ). step m t w (FormerMachine.state_at m release duration t)) (word_at_same t _)

    pub word_same : (t : ℕ) → machine_word m release duration t ≡ FormerMachine.machine_word m release duration t
    unfolding machine_word FormerMachine.machine_word
    word_same t = ap (word_at m release t) (state-same t) ∙ word_at_same t _

    pub start-same : (a : ℕ) → machine_start m release duration a ≡ FormerMachine.machine_start m release duration a
    unfolding machine_start FormerMachine.machine_start
    start-same a = lowest_ext m.horizon _ _ (λ t _. ap (λ (w : ℕ). bit w a) (word_same t))

    pub end_same : (a : ℕ) → machine_end m release duration a ≡ FormerMachine.machine_end m release duration a
    unfolding machine_end FormerMachine.machine_end
    end_same a = ap (λ (s : State). end_of s a) (state-same m.horizon)

    pub owed_same : (a : ℕ) → machine_owes m release duration a ≡ FormerMachine.machine_owes m release duration a
    unfolding machine_owes FormerMachine.machine_owes
    owed_same a = ap (λ (s : State). owes s a) (state-same m.horizon)

  -- ---- its plan, and 42 and 43

  module _ (q : Choice) where
    ends_same : machine_end m q.release q.duration ≡ FormerMachine.machine_end m q.release q.duration
    ends_same = fun_ext (end_same q.release q.duration)

    pub plan-same : machine_plan m q ≡ FormerAnswers.machine_plan m q
    unfolding machine_plan FormerAnswers.machine_plan
    plan-same =
        let starts = fun_ext (start-same q.release q.duration) in
        let words = fun_ext (word_same q.release q.duration) in
        λ at. record {
          threads = m.threads;
          activities = m.activities;
          horizon = m.horizon;
          release = q.release;
          period = q.period;
          start = starts at;
          end = ends_same at;
          word = words at;
        }

    pub run-rules-same : run_rules m q ≡ FormerAnswers.run_rules m q
    unfolding run_rules owed_rule FormerAnswers.run_rules FormerAnswers.owed_rule
    run-rules-same = ap₂ rules (fun_ext (owed_same q.release q.duration)) ends_same
      where
        rules : (ℕ → ℕ) → (ℕ → ℕ) → List Rule
        rules left end =
            record {
              number = 42;
              rows = m.activities;
              columns = 1;
              Holds = λ a _. left a ≡ 0;
              test = λ a _. eqb (left a) 0;
            }
            ∷ deadline_rule 43 m (choice_timing q) end ∷ []
