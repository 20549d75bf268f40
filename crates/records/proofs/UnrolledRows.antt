-- A row of the unrolled model is a row of the page, moved on to its round; past the last there is none.
-- Assumes nothing.
use Prim.Native.Nat.{ℕ, ◌+◌, ◌/◌, ◌%◌, ◌≤◌, ◌<◌}
use native.Mathlib.Nat.{div-eq_of_lt, mod-eq_of_lt}
use mathlib.Core.List.{List}
use mathlib.Core.Path.{◌≡◌, refl, ap₂, ◌∙◌}
use borrow.Author.Tests.{lt-ltb, le-ltb}
use Rattle.schedule.specs.Fields.{field, Bytes}
use Rattle.schedule.specs.Rounds.{in_all, number_in}
use Rattle.schedule.specs.Model.{page, unrolled, model, thread_row, activity_row}
use Rattle.laws.proofs.FieldLaws.{field_lt}
use Rattle.laws.proofs.RoundLaws.{number-first, release-first, mask_first}
use Rattle.records.specs.declared.model.Sizes.{Sizes}
use Rattle.records.specs.declared.model.ThreadRow.{ThreadRow}
use Rattle.records.specs.declared.model.ActivityRow.{ActivityRow}
use Rattle.records.specs.Rows.{sizes_of, thread_row_of, thread_fields, activity_row_of, activity_fields}
use Rattle.records.specs.Unrolled.{unrolled_sizes, moved_thread, moved_activity}

-- the counts of all rounds, from those of one and the number of rounds
pub all-counts : (s : List ℕ) (one : Sizes) (rounds : ℕ) → one ≡ sizes_of (page s).plain → rounds ≡ (page s).rounds
    → unrolled_sizes one rounds ≡ sizes_of (model s)
unfolding unrolled_sizes sizes_of model unrolled
all-counts s one rounds e r = ap₂ unrolled_sizes e r

-- what was read of the page before a row: how many a round has, and how many all rounds have together
module _ (s : List ℕ) (n rounds all : ℕ) (r : rounds ≡ (page s).rounds) (a : all ≡ in_all rounds n) where
  module _ (e : n ≡ (page s).plain.threads) where
    all-threads : all ≡ (model s).threads
    unfolding model unrolled
    all-threads = a ∙ ap₂ in_all r e

    pub thread-past : (j : ℕ) → all ≤ j
        → record { least_period = 0; most_period = 0; least_release = 0; most_release = 0; priority = 0 }
        ≡ thread_row_of (model s) j
    unfolding thread_row_of model unrolled
    thread-past j past = rw (le-ltb j _ (rw all-threads at past)) refl

    -- a row of round 0, read at its place
    pub thread-first : Bytes s → (j at : ℕ) (row : ThreadRow) → j < all → j < n → at ≡ thread_row (field s 4 1) j
        → row ≡ thread_fields s at → row ≡ thread_row_of (model s) j
    unfolding thread_row_of thread_fields model unrolled page
    thread-first b j at row here first place_at read =
        let place = rw e at first in
        rw (
          lt-ltb j _ (rw all-threads at here),
          div-eq_of_lt place,
          mod-eq_of_lt place,
          release-first _ _ (field_lt s b (thread_row (field s 4 1) j + 4) 2),
          release-first _ _ (field_lt s b (thread_row (field s 4 1) j + 6) 2),
          ← place_at,
        ) read

    pub thread_here : (j k place : ℕ) (row moved : ThreadRow) → j < all → k ≡ j / n → place ≡ j % n
        → row ≡ thread_row_of (page s).plain place → moved ≡ moved_thread k row → moved ≡ thread_row_of (model s) j
    unfolding thread_row_of model unrolled moved_thread
    thread_here j k place row moved here round row_at read made =
        rw (lt-ltb j _ (rw all-threads at here)) (rw (made, read, row_at, round, e) refl)

  module _ (e : n ≡ (page s).plain.activities) where
    all-activities : all ≡ (model s).activities
    unfolding model unrolled
    all-activities = a ∙ ap₂ in_all r e

    pub activity-past : (x : ℕ) → all ≤ x
        → record {
          thread = record { 0 = 0 };
          least_duration = 0;
          most_duration = 0;
          delay = 0;
          temporal_mask = 0;
          data_mask = 0;
        } ≡ activity_row_of (model s) x
    unfolding activity_row_of model unrolled
    activity-past x past = rw (le-ltb x _ (rw all-activities at past)) refl

    pub activity-first : Bytes s → (x at : ℕ) (row : ActivityRow) → x < all → x < n
        → at ≡ activity_row (field s 4 1) (page s).plain.threads x → row ≡ activity_fields s at
        → row ≡ activity_row_of (model s) x
    unfolding activity_row_of activity_fields model unrolled page
    activity-first b x at row here first place_at read =
        let place = rw e at first in
        let begin : ℕ = activity_row (field s 4 1) (field s 6 1) x in
        rw (
          lt-ltb x _ (rw all-activities at here),
          div-eq_of_lt place,
          mod-eq_of_lt place,
          number-first (field s 6 1) _ (field_lt s b begin 1),
          mask_first (field s 7 1) _ (field_lt s b (begin + 7) 4),
          mask_first (field s 7 1) _ (field_lt s b (begin + 11) 4),
          ← place_at,
        ) read

    pub activity_here : (x k place q threads : ℕ) (row moved : ActivityRow) → x < all → k ≡ x / n → place ≡ x % n
        → row ≡ activity_row_of (page s).plain place → q ≡ (page s).loop place → threads ≡ (page s).plain.threads
        → moved ≡ moved_activity threads n k q row → moved ≡ activity_row_of (model s) x
    unfolding activity_row_of model unrolled moved_activity
    activity_here x k place q threads row moved here round row_at read loop owners made =
        rw (lt-ltb x _ (rw all-activities at here)) (rw (made, loop, read, row_at, round, owners, e) refl)

    pub owner-past : (x : ℕ) → all ≤ x → 0 ≡ (model s).thread x
    unfolding model unrolled
    owner-past x past = rw (le-ltb x _ (rw all-activities at past)) refl

    pub owner_here : (x k place threads one own : ℕ) → x < all → k ≡ x / n → place ≡ x % n
        → one ≡ (page s).plain.thread place → threads ≡ (page s).plain.threads → own ≡ number_in k threads one
        → own ≡ (model s).thread x
    unfolding model unrolled
    owner_here x k place threads one own here round row_at read owners made =
        rw (lt-ltb x _ (rw all-activities at here)) (rw (made, read, row_at, round, owners, e) refl)

    pub width-past : (x : ℕ) → all ≤ x → 0 ≡ (model s).width x
    unfolding model unrolled
    width-past x past = rw (le-ltb x _ (rw all-activities at past)) refl

    pub width_here : (x place width : ℕ) → x < all → place ≡ x % n → width ≡ (page s).plain.width place
        → width ≡ (model s).width x
    unfolding model unrolled
    width_here x place width here row_at read =
        rw (lt-ltb x _ (rw all-activities at here)) (rw (read, row_at, e) refl)
