-- Two records that say the same page: their rows break the same rule at the same place, and their models are the same.
-- Assumes nothing.
use Prim.Native.Nat.{ℕ, ◌*◌, ◌/◌, ◌%◌, ◌<◌}
use native.Mathlib.Decide.{dec_lt}
use native.Mathlib.Nat.{mod-le}
use native.Mathlib.Omega.{arith}
use mathlib.Core.List.{List}
use mathlib.Core.Path.{◌≡◌, refl, sym, ap₂, fun_ext, ◌∙◌}
use borrow.Author.Tests.{lt-ltb, le-ltb}
use Rattle.schedule.specs.Rule.{first_break}
use Rattle.schedule.specs.Rounds.{in_all, number_in, moved_release, moved_mask, with_loop, below}
use Rattle.schedule.specs.Model.{Model, Page, page, unrolled, model, row_rules, model_form}
use Rattle.schedule.specs.Model.{limits_rule, rounds_rule, thread_rule, period_rule, activity_rule, loop_rule, width_rule, mask_rule}
use Rattle.schedule.specs.Opened.{form_rules}
use Rattle.laws.proofs.FirstBreak.{break-same, break-none}
use Rattle.laws.proofs.Sound.{head_rules_sound}
use Rattle.laws.proofs.RoundLaws.{placed}
use Rattle.demands.specs.Rounds.{SamePage, Sized, SameGiven, VersionsAgree}
use Rattle.demands.proofs.BreakAlike.{cons_same}
use Rattle.demands.proofs.SameAnswers.{answered_alike}

-- two models that say the same are the same
pub model_ext : (x y : Model) → x.cores ≡ y.cores → x.threads ≡ y.threads → x.activities ≡ y.activities
    → x.horizon ≡ y.horizon → x.least_period ≡ y.least_period → x.most_period ≡ y.most_period
    → x.least_release ≡ y.least_release → x.most_release ≡ y.most_release → x.priority ≡ y.priority
    → x.thread ≡ y.thread → x.least_duration ≡ y.least_duration → x.most_duration ≡ y.most_duration
    → x.delay ≡ y.delay → x.temporal_mask ≡ y.temporal_mask → x.data_mask ≡ y.data_mask
    → x.width ≡ y.width → x ≡ y
model_ext x y a b c d e f g h i j k l m n o p = λ at. record {
  cores = a at;
  threads = b at;
  activities = c at;
  horizon = d at;
  least_period = e at;
  most_period = f at;
  least_release = g at;
  most_release = h at;
  priority = i at;
  thread = j at;
  least_duration = k at;
  most_duration = l at;
  delay = m at;
  temporal_mask = n at;
  data_mask = o at;
  width = p at;
}

-- a field of i rounds of n rows each, from row x of round k
abbrev pub rows_of : ℕ → ℕ → (ℕ → ℕ → ℕ) → ℕ → ℕ
rows_of i n f j = below (in_all i n) (λ x. f (x / n) (x % n)) j

-- it depends on the n rows alone
rows_same : (i i' n n' : ℕ) (f g : ℕ → ℕ → ℕ) → i ≡ i' → n ≡ n' → ((k x : ℕ) → x < n → f k x ≡ g k x)
    → rows_of i n f ≡ rows_of i' n' g
rows_same i i' n n' f g rounds rows each =
    fun_ext one ∙ ap₂ (λ (i n : ℕ). rows_of i n g) rounds rows
  where
    one : (j : ℕ) → rows_of i n f j ≡ rows_of i n g j
    one j =
        elim (dec_lt j (in_all i n)) [
          | yes l ↦
              let at = placed i n j (omega (arith, mod-le (i * n) 256)) in
              rw (lt-ltb j (in_all i n) l) (each (j / n) (j % n) at.place)
          | no l ↦ rw (le-ltb j (in_all i n) (omega arith)) refl
        ]

module _ (p q : Page) (same : SamePage p q) where
  -- each rule of the rows reads fields of its row, and the counts
  pub rows-break : first_break (row_rules p) ≡ first_break (row_rules q)
  unfolding form_rules
  rows-break =
      cons_same _ _ _ _
      (break-same (thread_rule p.plain) (thread_rule q.plain) refl same.threads refl
      (λ j _ l _. rw (same.least_period j l, same.most_period j l, same.least_release j l, same.most_release j l) refl))
      (cons_same _ _ _ _
      (break-same (period_rule p) (period_rule q) refl same.threads refl
      (λ j _ l _. rw (same.rounds, same.least_period j l, same.most_period j l, same.most_release j l) refl))
      (cons_same _ _ _ _
      (break-same (activity_rule p.plain) (activity_rule q.plain) refl same.activities refl
      (λ a _ l _. rw (same.thread a l, same.threads, same.least_duration a l, same.most_duration a l) refl))
      (cons_same _ _ _ _
      (break-same (loop_rule p) (loop_rule q) refl same.activities refl
      (λ a _ l _. rw (same.loop a l, same.activities) refl))
      (cons_same _ _ _ _
      (break-same (width_rule p.plain) (width_rule q.plain) refl same.activities refl
      (λ a _ l _. rw (same.width a l, same.cores) refl))
      (cons_same _ _ _ _
      (break-same (mask_rule p.plain) (mask_rule q.plain) refl same.activities refl
      (λ a _ l _. rw (same.temporal_mask a l, same.data_mask a l) refl))
      refl)))))

  -- each field of the unrolled model reads fields of one row, and the counts
  pub models_same : unrolled p ≡ unrolled q
  unfolding unrolled
  models_same =
      let n : ℕ = p.plain.threads in
      let m : ℕ = p.plain.activities in
      model_ext (unrolled p) (unrolled q)
      same.cores
      (ap₂ in_all same.rounds same.threads)
      (ap₂ in_all same.rounds same.activities)
      same.horizon
      (rows_same _ _ _ _ (λ _ x. p.plain.least_period x) (λ _ x. q.plain.least_period x)
      same.rounds same.threads (λ _ x l. same.least_period x l))
      (rows_same _ _ _ _ (λ _ x. p.plain.most_period x) (λ _ x. q.plain.most_period x)
      same.rounds same.threads (λ _ x l. same.most_period x l))
      (rows_same _ _ _ _ (λ k x. moved_release k (p.plain.least_period x) (p.plain.least_release x))
      (λ k x. moved_release k (q.plain.least_period x) (q.plain.least_release x))
      same.rounds same.threads (λ k x l. ap₂ (moved_release k) (same.least_period x l) (same.least_release x l)))
      (rows_same _ _ _ _ (λ k x. moved_release k (p.plain.least_period x) (p.plain.most_release x))
      (λ k x. moved_release k (q.plain.least_period x) (q.plain.most_release x))
      same.rounds same.threads (λ k x l. ap₂ (moved_release k) (same.least_period x l) (same.most_release x l)))
      (rows_same _ _ _ _ (λ _ x. p.plain.priority x) (λ _ x. q.plain.priority x)
      same.rounds same.threads (λ _ x l. same.priority x l))
      (rows_same _ _ _ _ (λ k x. number_in k p.plain.threads (p.plain.thread x))
      (λ k x. number_in k q.plain.threads (q.plain.thread x))
      same.rounds same.activities (λ k x l. ap₂ (number_in k) same.threads (same.thread x l)))
      (rows_same _ _ _ _ (λ _ x. p.plain.least_duration x) (λ _ x. q.plain.least_duration x)
      same.rounds same.activities (λ _ x l. same.least_duration x l))
      (rows_same _ _ _ _ (λ _ x. p.plain.most_duration x) (λ _ x. q.plain.most_duration x)
      same.rounds same.activities (λ _ x l. same.most_duration x l))
      (rows_same _ _ _ _ (λ _ x. p.plain.delay x) (λ _ x. q.plain.delay x)
      same.rounds same.activities (λ _ x l. same.delay x l))
      (rows_same _ _ _ _
      (λ k x. with_loop k p.plain.activities (p.loop x) (moved_mask k p.plain.activities (p.plain.temporal_mask x)))
      (λ k x. with_loop k q.plain.activities (q.loop x) (moved_mask k q.plain.activities (q.plain.temporal_mask x)))
      same.rounds same.activities (λ k x l. rw (same.activities, same.loop x l, same.temporal_mask x l) refl))
      (rows_same _ _ _ _ (λ k x. moved_mask k p.plain.activities (p.plain.data_mask x))
      (λ k x. moved_mask k q.plain.activities (q.plain.data_mask x))
      same.rounds same.activities (λ k x l. ap₂ (moved_mask k) same.activities (same.data_mask x l)))
      (rows_same _ _ _ _ (λ _ x. p.plain.width x) (λ _ x. q.plain.width x)
      same.rounds same.activities (λ _ x l. same.width x l))

-- the papers' versions of one page: 1, 2 and 4 hold of both records, and the other rules break alike
module _ (s u : List ℕ) (hs : Sized s) (hu : Sized u) (same : SamePage (page s) (page u)) where
  forms-break : first_break (model_form s) ≡ first_break (model_form u)
  unfolding model_form form_rules
  forms-break =
      let ss = head_rules_sound s in
      let us = head_rules_sound u in
      cons_same _ _ _ _ ((break-none _ ss.0).1 hs.0 ∙ sym ((break-none _ us.0).1 hu.0))
      (cons_same _ _ _ _ ((break-none _ ss.1.0).1 hs.1.0 ∙ sym ((break-none _ us.1.0).1 hu.1.0))
      (cons_same _ _ _ _
      (break-same (limits_rule (page s).plain) (limits_rule (page u).plain) refl refl refl
      (λ _ _ _ _. rw (same.cores, same.threads, same.activities, same.horizon) refl))
      (cons_same _ _ _ _
      ((break-none _ ss.1.1.1.0).1 hs.1.1.0 ∙ sym ((break-none _ us.1.1.1.0).1 hu.1.1.0))
      (cons_same _ _ _ _
      (break-same (rounds_rule (page s)) (rounds_rule (page u)) refl refl refl
      (λ _ _ _ _. rw (same.rounds, same.threads, same.activities) refl))
      (rows-break (page s) (page u) same)))))

  given : SameGiven s u
  unfolding model
  given = record { form = forms-break; says = models_same (page s) (page u) same }

pub versions_agree : VersionsAgree
versions_agree s u hs hu same =
    let both = given s u hs hu same in
    (both, answered_alike s u both)
