-- A page that meets its form rules: what they say of it, each field of its unrolled model by round and row, and that the
-- unrolled model keeps the rules of a plain one.
-- Assumes nothing.
use Prim.Native.Nat.{ℕ, suc, ◌+◌, ◌-◌, ◌*◌, ◌/◌, ◌%◌, ◌≤◌, ◌<◌}
use native.Mathlib.Decide.{dec_lt}
use native.Mathlib.Nat.{mul-pos, mul-le-mul_right, zero-mul, suc-mul, mod-eq_of_lt}
use native.Mathlib.Omega.{arith}
use mathlib.Core.Bool.{Bool, ◌&&◌, ◌||◌, not}
use mathlib.Core.List.{List}
use mathlib.Core.Logic.{◌⊎◌, inl, inr, ⊎_elim, ◌↔◌}
use mathlib.Core.Path.{◌≡◌, refl, sym, subst, ap, ◌∙◌}
use lib.Arith.{digits_lt, digits_div, digits_mod}
use lib.Dec.{T, eqb, leb, leb→le, le→leb}
use Rattle.schedule.specs.declared.RowRule.{RowRule}
use Rattle.schedule.specs.declared.FormRefusal.{FormRefusal}
use Rattle.schedule.specs.Bounded.{bit}
use Rattle.schedule.specs.Rule.{AllHold}
use Rattle.schedule.specs.Records.{Within}
use Rattle.schedule.specs.Rounds.{no_loop, moved_mask, with_loop, moved_release, number_in}
use Rattle.schedule.specs.Model.{Page, page, unrolled, model_form, temporally, by_data}
use Rattle.schedule.specs.Model.{limits_rule, rounds_rule, thread_rule, period_rule, activity_rule, loop_rule, width_rule, mask_rule}
use Rattle.schedule.specs.Unrolls.{ThreadMoved, ActivityMoved, Unrolls}
use Rattle.schedule.specs.Numbers.{form_number}
use Rattle.schedule.specs.Opened.{form_rules}
use Rattle.laws.proofs.Tests.{T_and, T_or, T_not, T_eqb}
use Rattle.laws.proofs.FirstBreak.{says}
use Rattle.laws.proofs.RoundLaws.{placed, row-of, bit_moved, bit-loop, loop_lt}

-- what the form rules say of a page
pub record Formal (p : Page) : Type 0 where
  pub limits : (limits_rule p.plain).Holds 0 0
  pub rounds : (rounds_rule p).Holds 0 0
  pub ranges : (j : ℕ) → j < p.plain.threads → (thread_rule p.plain).Holds j 0
  pub periods : (j : ℕ) → j < p.plain.threads → (period_rule p).Holds j 0
  pub owners : (a : ℕ) → a < p.plain.activities → (activity_rule p.plain).Holds a 0
  pub loops : (a : ℕ) → a < p.plain.activities → (loop_rule p).Holds a 0
  pub widths : (a : ℕ) → a < p.plain.activities → (width_rule p.plain).Holds a 0
  pub masks : (a : ℕ) → a < p.plain.activities → (mask_rule p.plain).Holds a 0

pub page-says : (s : List ℕ) → AllHold (model_form s) → Formal (page s)
unfolding model_form form_rules
page-says s h =
    record {
      limits = says (form_number FormRefusal.ModelLimits) (model_form s) h 0 0 (omega arith) (omega arith);
      rounds = says (form_number FormRefusal.Rounds) (model_form s) h 0 0 (omega arith) (omega arith);
      ranges = λ j l. says (form_number (FormRefusal.ModelRow RowRule.Thread)) (model_form s) h j 0 l (omega arith);
      periods = λ j l. says (form_number (FormRefusal.ModelRow RowRule.Period)) (model_form s) h j 0 l (omega arith);
      owners = λ a l. says (form_number (FormRefusal.ModelRow RowRule.Activity)) (model_form s) h a 0 l (omega arith);
      loops = λ a l. says (form_number (FormRefusal.ModelRow RowRule.Loop)) (model_form s) h a 0 l (omega arith);
      widths = λ a l. says (form_number (FormRefusal.ModelRow RowRule.Width)) (model_form s) h a 0 l (omega arith);
      masks = λ a l. says (form_number (FormRefusal.ModelRow RowRule.Masks)) (model_form s) h a 0 l (omega arith);
    }

-- a test that is one of two, and what each of them says
either : (t x y : Bool) {P Q : Type 0} → t ≡ (x || y) → T x ↔ P → T y ↔ Q → T t ↔ (P ⊎ Q)
either t x y e one two = (
  λ s. ⊎_elim (λ (u : T x). inl (one.0 u)) (λ (u : T y). inr (two.0 u)) ((T_or x y).0 (subst (λ c. T c) e s)),
  λ w. subst (λ c. T c) (sym e) ((T_or x y).1 (⊎_elim (λ u. inl (one.1 u)) (λ u. inr (two.1 u)) w)),
)

-- two equations, neither of which holds
neither : (x y u v : ℕ) → T (not (eqb x y || eqb u v)) → (¬ (x ≡ y)) × (¬ (u ≡ v))
neither x y u v t =
    let none = (T_not (eqb x y || eqb u v)).0 t in (
      λ e. none ((T_or (eqb x y) (eqb u v)).1 (inl ((T_eqb x y).1 e))),
      λ e. none ((T_or (eqb x y) (eqb u v)).1 (inr ((T_eqb u v).1 e))),
    )

module _ (p : Page) (h : Formal p) where
  abbrev i : ℕ
  i = p.rounds

  abbrev n : ℕ
  n = p.plain.threads

  abbrev m : ℕ
  m = p.plain.activities

  -- 51, by its parts
  some-rounds : Within 1 4 i
  unfolding rounds_rule
  some-rounds = h.rounds.0.0

  few-threads : i * n ≤ 8
  unfolding rounds_rule
  few-threads = h.rounds.0.1

  few-activities : i * m ≤ 32
  unfolding rounds_rule
  few-activities = h.rounds.1

  threads-all : (unrolled p).threads ≡ i * n
  unfolding unrolled
  threads-all = mod-eq_of_lt (omega (arith, few-threads))

  activities-all : (unrolled p).activities ≡ i * m
  unfolding unrolled
  activities-all = mod-eq_of_lt (omega (arith, few-activities))

  -- both fit a byte
  threads_fit : i * n < 256
  threads_fit = omega (arith, few-threads)

  activities_fit : i * m < 256
  activities_fit = omega (arith, few-activities)

  -- ---- threads

  -- a release of round k, moved by the period, is a release still
  release-fits : (k j release : ℕ) → k < i → j < n → release ≤ p.plain.most_release j → release < 65536
      → release + k * p.plain.least_period j < 65536
  unfolding period_rule
  release-fits k j release round place less fits =
      elim (dec_lt 1 i) [
        | yes several ↦
            let last : k * p.plain.least_period j ≤ (i - 1) * p.plain.least_period j =
            mul-le-mul_right (p.plain.least_period j) (omega arith) in
            omega (arith, last, (h.periods j place several).1)
        | no single ↦
            let first : k ≡ 0 = omega arith in
            rw (first, zero-mul) (omega arith)
      ]

  -- and any period of the range moves it so far: there is one only, or none is added
  same_move : (k j period : ℕ) → k < i → j < n → Within (p.plain.least_period j) (p.plain.most_period j) period
      → k * p.plain.least_period j ≡ k * period
  unfolding period_rule
  same_move k j period round place range =
      elim (dec_lt 1 i) [
        | yes several ↦
            let only : p.plain.least_period j ≡ period = omega (arith, (h.periods j place several).0) in
            ap (λ (x : ℕ). k * x) only
        | no single ↦
            let first : k ≡ 0 = omega arith in
            rw first (zero-mul (p.plain.least_period j) ∙ sym (zero-mul period))
      ]

  thread-moved : (k j : ℕ) → k < i → j < n → p.plain.most_release j < 65536
      → ThreadMoved p (unrolled p) k j (k * n + j)
  unfolding unrolled thread_rule
  thread-moved k j round place fits =
      let moved : (release period : ℕ) → release ≤ p.plain.most_release j
      → Within (p.plain.least_period j) (p.plain.most_period j) period
      → moved_release k (p.plain.least_period j) release ≡ release + k * period =
      λ release period less range.
      mod-eq_of_lt (release-fits k j release round place less (omega arith))
      ∙ ap (λ (x : ℕ). release + x) (same_move k j period round place range) in
      record {
        least_period = row-of i n k j (λ _ x. p.plain.least_period x) threads_fit round place;
        most_period = row-of i n k j (λ _ x. p.plain.most_period x) threads_fit round place;
        least_release = λ period range.
            row-of i n k j (λ r x. moved_release r (p.plain.least_period x) (p.plain.least_release x)) threads_fit round place
            ∙ moved (p.plain.least_release j) period (h.ranges j place).0.1 range;
        most_release = λ period range.
            row-of i n k j (λ r x. moved_release r (p.plain.least_period x) (p.plain.most_release x)) threads_fit round place
            ∙ moved (p.plain.most_release j) period (omega arith) range;
        priority = row-of i n k j (λ _ x. p.plain.priority x) threads_fit round place;
      }

  -- ---- activities

  -- bit x of a mask moved on to round k, and the bit of row a's loop there
  abbrev moved_bit : ℕ → ℕ → ℕ → Bool
  moved_bit k w x = leb (k * m) x && bit w (x - k * m)

  abbrev loop_bit : ℕ → ℕ → ℕ → Bool
  loop_bit k a x = not (eqb k 0 || eqb (p.loop a) no_loop) && eqb x ((k - 1) * m + p.loop a)

  owner-moved : (k a : ℕ) → k < i → a < m → (unrolled p).thread (k * m + a) ≡ k * n + p.plain.thread a
  unfolding unrolled activity_rule
  owner-moved k a round place =
      row-of i m k a (λ r x. number_in r n (p.plain.thread x)) activities_fit round place
      ∙ mod-eq_of_lt (omega (arith, threads_fit, digits_lt {q = k} {m = i} round (h.owners a place).0.0))

  -- the bits of a moved mask, and of one with its loop
  data_bit : (k a x : ℕ) → k < i → a < m → x < 32
      → by_data (unrolled p) x (k * m + a) ≡ moved_bit k (p.plain.data_mask a) x
  unfolding unrolled
  data_bit k a x round place less =
      ap (λ (w : ℕ). bit w x) (row-of i m k a (λ r y. moved_mask r m (p.plain.data_mask y)) activities_fit round place)
      ∙ bit_moved k m (p.plain.data_mask a) x less

  temporal-bit : (k a x : ℕ) → k < i → a < m → x < 32
      → temporally (unrolled p) x (k * m + a)
      ≡ (moved_bit k (p.plain.temporal_mask a) x || loop_bit k a x)
  unfolding loop_rule unrolled
  temporal-bit k a x round place less =
      ap (λ (w : ℕ). bit w x)
      (row-of i m k a (λ r y. with_loop r m (p.loop y) (moved_mask r m (p.plain.temporal_mask y))) activities_fit round place)
      ∙ bit-loop k m (p.loop a) _ x
      (λ later loops. loop_lt i m k (p.loop a) (few-activities) round later (h.loops a place loops))
      ∙ ap (λ (t : Bool). t || loop_bit k a x)
      (bit_moved k m (p.plain.temporal_mask a) x less)

  -- a moved bit of row a that stands at row b of round l is of round l = k: those of later rounds are at or above a
  same_round : (k a w l b : ℕ) → a < m → l < i → b < m → ((x : ℕ) → x < 32 → a ≤ x → ¬ T (bit w x))
      → T (moved_bit k w (l * m + b)) ↔ ((l ≡ k) × T (bit w b))
  same_round k a w l b place round below clear = (there, back)
    where
      at : l * m + b < i * m
      at = digits_lt round below

      there : T (moved_bit k w (l * m + b)) → (l ≡ k) × T (bit w b)
      there t =
          let (reached, set) = (T_and (leb (k * m) (l * m + b)) (bit w (l * m + b - k * m))).0 t in
          let reached : k * m ≤ l * m + b = leb→le (k * m) (l * m + b) reached in
          elim (dec_lt l k) [
            | yes before ↦ absurd (omega (arith, reached, mul-le-mul_right m before, suc-mul l m))
            | no unless ↦ elim (dec_lt k l) [
              | yes behind ↦
                  absurd (clear (l * m + b - k * m) (omega (arith, few-activities, at))
                  (omega (arith, mul-le-mul_right m behind, suc-mul k m)) set)
              | no nor ↦
                  let same : l ≡ k = omega arith in
                  let e : l * m + b - k * m ≡ b = rw same (omega arith) in
                  (same, subst (λ (x : ℕ). T (bit w x)) e set)
            ]
          ]

      back : (l ≡ k) × T (bit w b) → T (moved_bit k w (l * m + b))
      back (same, set) =
          let e : l * m + b - k * m ≡ b = rw same (omega arith) in
          (T_and (leb (k * m) (l * m + b)) (bit w (l * m + b - k * m))).1
          (le→leb (k * m) (l * m + b) (rw same (omega arith)), subst (λ (x : ℕ). T (bit w x)) (sym e) set)

  -- the loop bit stands at row q of the round before
  loop_round : (k a l b : ℕ) → a < m → b < m
      → T (loop_bit k a (l * m + b)) ↔ ((suc l ≡ k) × (p.loop a ≡ b))
  unfolding loop_rule limits_rule
  loop_round k a l b place below = (there, back)
    where
      here : Bool
      here = not (eqb k 0 || eqb (p.loop a) no_loop)

      there : T (here && eqb (l * m + b) ((k - 1) * m + p.loop a)) → (suc l ≡ k) × (p.loop a ≡ b)
      there t =
          let (later, same) = (T_and here (eqb (l * m + b) ((k - 1) * m + p.loop a))).0 t in
          let (not_first, loops) = neither k 0 (p.loop a) no_loop later in
          let same = (T_eqb (l * m + b) ((k - 1) * m + p.loop a)).0 same in
          let q = h.loops a place loops in
          let round : l ≡ k - 1 =
          sym (digits_div l {r = b} below) ∙ ap (λ (x : ℕ). x / m) same ∙ digits_div (k - 1) {r = p.loop a} q in
          let row : p.loop a ≡ b =
          sym (digits_mod (k - 1) {r = p.loop a} q) ∙ ap (λ (x : ℕ). x % m) (sym same) ∙ digits_mod l {r = b} below in
          (omega (arith, round, not_first), row)

      back : (suc l ≡ k) × (p.loop a ≡ b) → T (here && eqb (l * m + b) ((k - 1) * m + p.loop a))
      back (next, row) =
          let e : k - 1 ≡ l = omega arith in
          (T_and here (eqb (l * m + b) ((k - 1) * m + p.loop a))).1 (
            (T_not (eqb k 0 || eqb (p.loop a) no_loop)).1
                (λ t. ⊎_elim
                (λ (first : T (eqb k 0)). omega (arith, next, (T_eqb k 0).0 first))
                (λ (none : T (eqb (p.loop a) no_loop)).
                omega (arith, row, below, h.limits.1.0, (T_eqb (p.loop a) no_loop).0 none))
                ((T_or (eqb k 0) (eqb (p.loop a) no_loop)).0 t)),
            (T_eqb (l * m + b) ((k - 1) * m + p.loop a)).1 (rw (e, row) refl),
          )

  -- a row's number among all is below 32
  row_below : (l b : ℕ) → l < i → b < m → l * m + b < 32
  row_below l b round below = omega (arith, few-activities, digits_lt {q = l} {m = i} {r = b} {c = m} round below)

  pub activity-moved : (k a : ℕ) → k < i → a < m → ActivityMoved p (unrolled p) k a (k * m + a)
  unfolding unrolled mask_rule
  activity-moved k a round place = record {
    thread = owner-moved k a round place;
    least_duration = row-of i m k a (λ _ x. p.plain.least_duration x) activities_fit round place;
    most_duration = row-of i m k a (λ _ x. p.plain.most_duration x) activities_fit round place;
    delay = row-of i m k a (λ _ x. p.plain.delay x) activities_fit round place;
    temporal = λ l b other below.
        either _ (moved_bit k (p.plain.temporal_mask a) (l * m + b)) (loop_bit k a (l * m + b))
        (temporal-bit k a (l * m + b) round place (row_below l b other below))
        (same_round k a (p.plain.temporal_mask a) l b place other below (λ x less above. (h.masks a place x less above).0))
        (loop_round k a l b place below);
    on_data = λ l b other below.
        let e = data_bit k a (l * m + b) round place (row_below l b other below) in
        let same = same_round k a (p.plain.data_mask a) l b place other below
        (λ x less above. (h.masks a place x less above).1) in
        (λ t. same.0 (subst (λ c. T c) e t), λ w. subst (λ c. T c) (sym e) (same.1 w));
    width = row-of i m k a (λ _ x. p.plain.width x) activities_fit round place;
  }

  pub unrolls : ((j : ℕ) → j < n → p.plain.most_release j < 65536) → Unrolls p (unrolled p)
  unfolding unrolled
  unrolls fits = record {
    cores = refl;
    horizon = refl;
    threads = threads-all;
    activities = activities-all;
    thread = λ k j round place. thread-moved k j round place (fits j place);
    activity = activity-moved;
  }

  -- ---- the rules of a plain model

  -- what holds of each row of each round holds of each thread, or activity, of all
  every-thread : (P : ℕ → Type 0) → ((k j : ℕ) → k < i → j < n → P (k * n + j))
      → (x : ℕ) → x < (unrolled p).threads → P x
  every-thread P each x l =
      let at = placed i n x (rw (← threads-all) l) in
      subst P at.whole (each (x / n) (x % n) at.round at.place)

  every-activity : (P : ℕ → Type 0) → ((k a : ℕ) → k < i → a < m → P (k * m + a))
      → (x : ℕ) → x < (unrolled p).activities → P x
  every-activity P each x l =
      let at = placed i m x (rw (← activities-all) l) in
      subst P at.whole (each (x / m) (x % m) at.round at.place)

  pub limits_kept : (limits_rule (unrolled p)).Holds 0 0
  unfolding limits_rule unrolled
  limits_kept =
      let threads = mul-pos {m = i} {n = n} (omega (arith, some-rounds)) (omega (arith, h.limits)) in
      let activities = mul-pos {m = i} {n = m} (omega (arith, some-rounds)) (omega (arith, h.limits)) in
      rw (mod-eq_of_lt threads_fit, mod-eq_of_lt activities_fit)
      (((h.limits.0.0, (threads, few-threads)), ((activities, few-activities), h.limits.1.1)))

  pub ranges_kept : ((j : ℕ) → j < n → p.plain.most_release j < 65536)
      → (x : ℕ) → x < (unrolled p).threads → (thread_rule (unrolled p)).Holds x 0
  unfolding thread_rule
  ranges_kept fits =
      every-thread (λ x. (thread_rule (unrolled p)).Holds x 0)
      (λ k j round place.
      let range = h.ranges j place in
      let moved = thread-moved k j round place (fits j place) in
      let least : Within (p.plain.least_period j) (p.plain.most_period j) (p.plain.least_period j) =
      (omega arith, range.0.0) in
      rw (moved.least_period, moved.most_period, moved.least_release _ least, moved.most_release _ least)
      ((range.0.0, omega (arith, range.0.1)), range.1))

  pub owners_kept : (x : ℕ) → x < (unrolled p).activities → (activity_rule (unrolled p)).Holds x 0
  unfolding activity_rule
  owners_kept =
      every-activity (λ x. (activity_rule (unrolled p)).Holds x 0)
      (λ k a round place.
      let owner = h.owners a place in
      let moved = activity-moved k a round place in
      rw (moved.thread, moved.least_duration, moved.most_duration, threads-all)
      ((digits_lt {q = k} {m = i} round owner.0.0, owner.0.1), owner.1))

  pub widths-kept : (x : ℕ) → x < (unrolled p).activities → (width_rule (unrolled p)).Holds x 0
  unfolding unrolled width_rule
  widths-kept =
      every-activity (λ x. (width_rule (unrolled p)).Holds x 0)
      (λ k a round place. rw (activity-moved k a round place).width (h.widths a place))

  -- no moved bit, and no loop's, is at the row's own number or above
  pub masks_kept : (x : ℕ) → x < (unrolled p).activities → (mask_rule (unrolled p)).Holds x 0
  unfolding loop_rule mask_rule
  masks_kept =
      every-activity (λ x. (mask_rule (unrolled p)).Holds x 0)
      (λ k a round place x less above. (
        λ t. ⊎_elim
            (moved (p.plain.temporal_mask a) k a x above less place (λ y less above. (h.masks a place y less above).0))
            (loop k a x round place above)
            ((T_or (moved_bit k (p.plain.temporal_mask a) x) (loop_bit k a x)).0
            (subst (λ c. T c) (temporal-bit k a x round place less) t)),
        λ t. moved (p.plain.data_mask a) k a x above less place (λ y less above. (h.masks a place y less above).1)
            (subst (λ c. T c) (data_bit k a x round place less) t),
      ))
    where
      moved : (w k a x : ℕ) → k * m + a ≤ x → x < 32 → a < m
          → ((y : ℕ) → y < 32 → a ≤ y → ¬ T (bit w y)) → ¬ T (moved_bit k w x)
      moved w k a x above less place clear t =
          clear (x - k * m) (omega arith) (omega arith) ((T_and (leb (k * m) x) (bit w (x - k * m))).0 t).1

      loop : (k a x : ℕ) → k < i → a < m → k * m + a ≤ x → ¬ T (loop_bit k a x)
      loop k a x round place above t =
          let told = (T_and (not (eqb k 0 || eqb (p.loop a) no_loop)) (eqb x ((k - 1) * m + p.loop a))).0 t in
          let (later, loops) = neither k 0 (p.loop a) no_loop told.0 in
          let at = digits_lt {q = k - 1} {m = k} {r = p.loop a} {c = m} (omega (arith, later)) (h.loops a place loops) in
          omega (arith, at, above, (T_eqb x ((k - 1) * m + p.loop a)).0 told.1)
