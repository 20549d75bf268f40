-- A model is read back from the record of one round of it, where its parts fit and it says 0 past its counts.
-- Assumes nothing.
use Prim.Native.Nat.{ℕ, ◌+◌, ◌*◌, ◌%◌, ◌≤◌, ◌<◌}
use native.Mathlib.Decide.{dec_lt}
use native.Mathlib.Nat.{one-mul, mod-eq_of_lt}
use native.Mathlib.Omega.{arith}
use mathlib.Core.Path.{◌≡◌, refl, sym, ap, fun_ext, ◌∙◌}
use borrow.Author.Tests.{le-ltb}
use Rattle.schedule.specs.Rounds.{no_loop, number_in, moved_release, moved_mask, with_loop}
use Rattle.schedule.specs.Model.{Model, Page, page, unrolled, model}
use Rattle.schedule.specs.ModelBytes.{model_bytes}
use Rattle.laws.proofs.RoundLaws.{row-of, number-first, release-first, mask_first}
use Rattle.demands.specs.Rounds.{SamePage}
use Rattle.demands.proofs.SamePage.{rows_of, model_ext, models_same}
use Rattle.demands.proofs.ModelBytes.{Fits, reads_back}

-- nothing is said past the counts
pub record Ends (m : Model) : Type 0 where
  pub least_period : (j : ℕ) → m.threads ≤ j → m.least_period j ≡ 0
  pub most_period : (j : ℕ) → m.threads ≤ j → m.most_period j ≡ 0
  pub least_release : (j : ℕ) → m.threads ≤ j → m.least_release j ≡ 0
  pub most_release : (j : ℕ) → m.threads ≤ j → m.most_release j ≡ 0
  pub priority : (j : ℕ) → m.threads ≤ j → m.priority j ≡ 0
  pub thread : (a : ℕ) → m.activities ≤ a → m.thread a ≡ 0
  pub least_duration : (a : ℕ) → m.activities ≤ a → m.least_duration a ≡ 0
  pub most_duration : (a : ℕ) → m.activities ≤ a → m.most_duration a ≡ 0
  pub delay : (a : ℕ) → m.activities ≤ a → m.delay a ≡ 0
  pub temporal_mask : (a : ℕ) → m.activities ≤ a → m.temporal_mask a ≡ 0
  pub data_mask : (a : ℕ) → m.activities ≤ a → m.data_mask a ≡ 0
  pub width : (a : ℕ) → m.activities ≤ a → m.width a ≡ 0

-- a field of one round of n rows, from what it is in round 0
one_round : (n : ℕ) (f : ℕ → ℕ) (g : ℕ → ℕ → ℕ) → n < 256 → ((j : ℕ) → j < n → g 0 j ≡ f j) → ((j : ℕ) → n ≤ j → f j ≡ 0)
    → (j : ℕ) → rows_of 1 n g j ≡ f j
one_round n f g fits each past j =
    elim (dec_lt j n) [
      | yes l ↦
          let e : j ≡ 0 * n + j = omega arith in
          ap (rows_of 1 n g) e ∙ row-of 1 n 0 j g (omega arith) (omega arith) l ∙ each j l
      | no l ↦
          let e : 1 * n % 256 ≡ n = mod-eq_of_lt (omega arith) ∙ one-mul n in
          rw (e, le-ltb j n (omega arith)) (sym (past j (omega arith)))
    ]

-- a model as a page of one round without loops
abbrev pub single : Model → Page
single m = record { plain = m; rounds = 1; loop = λ _. no_loop }

module _ (m : Model) (fits : Fits m) where
  -- its record says that page
  pub reads_page : SamePage (single m) (page (model_bytes m))
  unfolding page
  reads_page =
      let back = reads_back m fits in
      record {
        cores = sym back.cores;
        threads = sym back.threads;
        activities = sym back.activities;
        horizon = sym back.horizon;
        rounds = rw back.version (sym back.rounds);
        least_period = λ j l. rw back.version (sym (back.thread j l).least_period);
        most_period = λ j l. rw back.version (sym (back.thread j l).most_period);
        least_release = λ j l. rw back.version (sym (back.thread j l).least_release);
        most_release = λ j l. rw back.version (sym (back.thread j l).most_release);
        priority = λ j l. rw back.version (sym (back.thread j l).priority);
        thread = λ a l. rw (back.version, back.threads) (sym (back.activity a l).thread);
        least_duration = λ a l. rw (back.version, back.threads) (sym (back.activity a l).least_duration);
        most_duration = λ a l. rw (back.version, back.threads) (sym (back.activity a l).most_duration);
        delay = λ a l. rw (back.version, back.threads) (sym (back.activity a l).delay);
        temporal_mask = λ a l. rw (back.version, back.threads) (sym (back.activity a l).temporal_mask);
        data_mask = λ a l. rw (back.version, back.threads) (sym (back.activity a l).data_mask);
        loop = λ a l. rw (back.version, back.threads) (sym (back.activity a l).loop);
        width = λ a l. rw (back.version, back.threads) (sym (back.activity a l).width);
      }

  -- which is itself unrolled
  pub single_unrolled : Ends m → unrolled (single m) ≡ m
  unfolding unrolled
  single_unrolled ends =
      let thread : (f : ℕ → ℕ) (g : ℕ → ℕ → ℕ) → ((j : ℕ) → g 0 j ≡ f j) → ((j : ℕ) → m.threads ≤ j → f j ≡ 0)
      → rows_of 1 m.threads g ≡ f =
      λ f g each past. fun_ext (one_round m.threads f g fits.threads (λ j _. each j) past) in
      let activity : (f : ℕ → ℕ) (g : ℕ → ℕ → ℕ) → ((a : ℕ) → g 0 a ≡ f a) → ((a : ℕ) → m.activities ≤ a → f a ≡ 0)
      → rows_of 1 m.activities g ≡ f =
      λ f g each past. fun_ext (one_round m.activities f g fits.activities (λ a _. each a) past) in
      model_ext (unrolled (single m)) m
      refl
      (rw (one-mul m.threads) (mod-eq_of_lt fits.threads))
      (rw (one-mul m.activities) (mod-eq_of_lt fits.activities))
      refl
      (thread m.least_period (λ _ x. m.least_period x) (λ _. refl) ends.least_period)
      (thread m.most_period (λ _ x. m.most_period x) (λ _. refl) ends.most_period)
      (thread m.least_release (λ k x. moved_release k (m.least_period x) (m.least_release x))
      (λ j. release-first (m.least_period j) (m.least_release j) (fits.least_release j)) ends.least_release)
      (thread m.most_release (λ k x. moved_release k (m.least_period x) (m.most_release x))
      (λ j. release-first (m.least_period j) (m.most_release j) (fits.most_release j)) ends.most_release)
      (thread m.priority (λ _ x. m.priority x) (λ _. refl) ends.priority)
      (activity m.thread (λ k x. number_in k m.threads (m.thread x))
      (λ a. number-first m.threads (m.thread a) (fits.thread a)) ends.thread)
      (activity m.least_duration (λ _ x. m.least_duration x) (λ _. refl) ends.least_duration)
      (activity m.most_duration (λ _ x. m.most_duration x) (λ _. refl) ends.most_duration)
      (activity m.delay (λ _ x. m.delay x) (λ _. refl) ends.delay)
      (activity m.temporal_mask (λ k x. with_loop k m.activities no_loop (moved_mask k m.activities (m.temporal_mask x)))
      (λ a. mask_first m.activities (m.temporal_mask a) (fits.temporal_mask a)) ends.temporal_mask)
      (activity m.data_mask (λ k x. moved_mask k m.activities (m.data_mask x))
      (λ a. mask_first m.activities (m.data_mask a) (fits.data_mask a)) ends.data_mask)
      (activity m.width (λ _ x. m.width x) (λ _. refl) ends.width)

  pub model_back : Ends m → model (model_bytes m) ≡ m
  unfolding model
  model_back ends = sym (models_same (single m) (page (model_bytes m)) reads_page) ∙ single_unrolled ends
