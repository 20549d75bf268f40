-- The model record: its bytes, what they mean, and its form rules: 1 to 7, with 51 to 53 and 57 among them.
-- Assumes nothing.
use Rattle.std.specs.Prelude.{ℕ, ◌+◌, ◌-◌, ◌*◌, ◌/◌, ◌%◌, ◌≤◌, ◌<◌, Bool, ◌&&◌, ◌||◌, not, cond, List, [], ◌∷◌, ◌++◌, ◌≡◌, T, eqb, leb, ltb}
use Rattle.schedule.specs.declared.RowRule.{RowRule}
use Rattle.schedule.specs.Bounded.{all, bit, ◌⇒◌}
use Rattle.schedule.specs.Fields.{field}
use Rattle.schedule.specs.Rule.{Rule, rules_named}
use Rattle.schedule.specs.Rounds.{no_loop, in_all, number_in, moved_release, moved_mask, with_loop, below}
use Rattle.schedule.specs.Records.{Within, within, length_rule, version_rule, formula_rule}

-- What a model says. A thread number and an activity number are separate countings: the first five fields are looked
-- up by a thread's number, the others by an activity's.
pub record Model : Type 0 where
  pub cores : ℕ
  pub threads : ℕ
  pub activities : ℕ
  pub horizon : ℕ
  pub least_period : ℕ → ℕ
  pub most_period : ℕ → ℕ
  pub least_release : ℕ → ℕ
  pub most_release : ℕ → ℕ
  pub priority : ℕ → ℕ
  pub thread : ℕ → ℕ
  pub least_duration : ℕ → ℕ
  pub most_duration : ℕ → ℕ
  pub delay : ℕ → ℕ
  pub temporal_mask : ℕ → ℕ
  pub data_mask : ℕ → ℕ
  pub width : ℕ → ℕ

-- "priority is looked up by an activity's thread"
abbrev pub priority_of : Model → ℕ → ℕ
priority_of m a = m.priority (m.thread a)

-- activity b is a temporal predecessor of a: bit b of a's mask
abbrev pub temporally : Model → ℕ → ℕ → Bool
temporally m b a = bit (m.temporal_mask a) b

-- activity b is a data predecessor of a
abbrev pub by_data : Model → ℕ → ℕ → Bool
by_data m b a = bit (m.data_mask a) b

-- ---- a page: what the record says, round by round

-- A page has several rounds of one plain model (U4 of 02): the plain model, "a byte i (1..4)", and for each activity row "a
-- loop byte: 255 for none, else an activity number q". "Version 1 is one round without loops."
pub record Page : Type 0 where
  pub plain : Model
  pub rounds : ℕ
  pub loop : ℕ → ℕ

-- The thread rows of 10 bytes begin behind H, and from version 2 on behind i.
abbrev pub thread_row : ℕ → ℕ → ℕ
thread_row version j = cond (eqb version 1) 10 11 + 10 * j

-- The activity rows follow them, of 15 bytes; in version 2 of one more, the loop byte; and from version 3 on of two more, the
-- loop byte and the width.
abbrev pub activity_row : ℕ → ℕ → ℕ → ℕ
activity_row version n a =
    thread_row version n + cond (eqb version 1) (15 * a) (cond (eqb version 2) (16 * a) (17 * a))

-- "Length 10 + 10n + 15m", 11 + 10n + 16m, and 11 + 10n + 17m: where one more activity row would begin
abbrev pub model_length : ℕ → ℕ → ℕ → ℕ
model_length version n m = activity_row version n m

-- "Model version 3 is version 2 with a last byte in each activity row, its width 1..8; older models have width 1" (U7 of 02):
-- the width of the row that begins at a position
abbrev pub width_at : List ℕ → ℕ → ℕ
width_at s at = cond (eqb (field s 4 1) 1 || eqb (field s 4 1) 2) 1 (field s (at + 16) 1)

-- the page that a record's bytes say
unfoldable pub page : List ℕ → Page
page s =
    let version : ℕ = field s 4 1 in
    let n : ℕ = field s 6 1 in
    record {
      plain = record {
        cores = field s 5 1;
        threads = n;
        activities = field s 7 1;
        horizon = field s 8 2;
        least_period = λ j. field s (thread_row version j) 2;
        most_period = λ j. field s (thread_row version j + 2) 2;
        least_release = λ j. field s (thread_row version j + 4) 2;
        most_release = λ j. field s (thread_row version j + 6) 2;
        priority = λ j. field s (thread_row version j + 8) 2;
        thread = λ a. field s (activity_row version n a) 1;
        least_duration = λ a. field s (activity_row version n a + 1) 2;
        most_duration = λ a. field s (activity_row version n a + 3) 2;
        delay = λ a. field s (activity_row version n a + 5) 2;
        temporal_mask = λ a. field s (activity_row version n a + 7) 4;
        data_mask = λ a. field s (activity_row version n a + 11) 4;
        width = λ a. width_at s (activity_row version n a);
      };
      rounds = cond (eqb version 1) 1 (field s 10 1);
      loop = λ a. cond (eqb version 1) no_loop (field s (activity_row version n a + 15) 1);
    }

-- ---- what a page means: "the plain model unrolled"

-- Its fields have the sizes of a plain record's, of any bytes whatever (Rounds).

-- the plain model of a page's rounds, one after the other: thread j is thread j % n of round j / n, and activity a is
-- activity a % m of round a / m
unfoldable pub unrolled : Page → Model
unrolled p =
    let one : Model = p.plain in
    let n : ℕ = one.threads in
    let m : ℕ = one.activities in
    let N : ℕ = in_all p.rounds n in
    let M : ℕ = in_all p.rounds m in
    record {
      cores = one.cores;
      threads = N;
      activities = M;
      horizon = one.horizon;
      least_period = below N (λ j. one.least_period (j % n));
      most_period = below N (λ j. one.most_period (j % n));
      least_release = below N (λ j. moved_release (j / n) (one.least_period (j % n)) (one.least_release (j % n)));
      most_release = below N (λ j. moved_release (j / n) (one.least_period (j % n)) (one.most_release (j % n)));
      priority = below N (λ j. one.priority (j % n));
      thread = below M (λ a. number_in (a / m) n (one.thread (a % m)));
      least_duration = below M (λ a. one.least_duration (a % m));
      most_duration = below M (λ a. one.most_duration (a % m));
      delay = below M (λ a. one.delay (a % m));
      temporal_mask = below M (λ a.
          with_loop (a / m) m (p.loop (a % m)) (moved_mask (a / m) m (one.temporal_mask (a % m))));
      data_mask = below M (λ a. moved_mask (a / m) m (one.data_mask (a % m)));
      width = below M (λ a. one.width (a % m));
    }

-- the model that a record's bytes say
unfoldable pub model : List ℕ → Model
model s = unrolled (page s)

-- ---- the form rules: 3, 5, 6, 7 and 57 speak of the plain model of one round, and A is a row of the page

-- 3: c, n, m or H outside its limits
unfoldable pub limits_rule : Model → Rule
limits_rule m = record {
  number = 3;
  rows = 1;
  columns = 1;
  Holds = λ _ _.
      (Within 1 8 m.cores × Within 1 8 m.threads) × (Within 1 32 m.activities × Within 1 4096 m.horizon);
  test = λ _ _.
      (within 1 8 m.cores && within 1 8 m.threads) && (within 1 32 m.activities && within 1 4096 m.horizon);
}

-- 5, thread row A: a least above its most, or least period 0 with most above 0
unfoldable pub thread_rule : Model → Rule
thread_rule m = record {
  number = 5;
  rows = m.threads;
  columns = 1;
  Holds = λ j _.
      ((m.least_period j ≤ m.most_period j) × (m.least_release j ≤ m.most_release j))
      × (m.least_period j ≡ 0 → m.most_period j ≡ 0);
  test = λ j _.
      (leb (m.least_period j) (m.most_period j) && leb (m.least_release j) (m.most_release j))
      && (eqb (m.least_period j) 0 ⇒ eqb (m.most_period j) 0);
}

-- 6, activity row A: thread ≥ n, least duration 0, or least above most
unfoldable pub activity_rule : Model → Rule
activity_rule m = record {
  number = 6;
  rows = m.activities;
  columns = 1;
  Holds = λ a _.
      ((m.thread a < m.threads) × (1 ≤ m.least_duration a)) × (m.least_duration a ≤ m.most_duration a);
  test = λ a _.
      (ltb (m.thread a) m.threads && leb 1 (m.least_duration a)) && leb (m.least_duration a) (m.most_duration a);
}

-- 7, row A: a bit at or above its own number in either mask
unfoldable pub mask_rule : Model → Rule
mask_rule m = record {
  number = 7;
  rows = m.activities;
  columns = 1;
  Holds = λ a _. (b : ℕ) → b < 32 → a ≤ b → (¬ T (temporally m b a)) × (¬ T (by_data m b a));
  test = λ a _. all 32 (λ b. leb a b ⇒ (not (temporally m b a) && not (by_data m b a)));
}

-- 51: i outside 1..4, i times n above 8 or i times m above 32
unfoldable pub rounds_rule : Page → Rule
rounds_rule p = record {
  number = 51;
  rows = 1;
  columns = 1;
  Holds = λ _ _.
      (Within 1 4 p.rounds × (p.rounds * p.plain.threads ≤ 8)) × (p.rounds * p.plain.activities ≤ 32);
  test = λ _ _.
      (within 1 4 p.rounds && leb (p.rounds * p.plain.threads) 8) && leb (p.rounds * p.plain.activities) 32;
}

-- 52, thread row A: i above 1 and unequal period ends, or a moved release above 65535
unfoldable pub period_rule : Page → Rule
period_rule p = record {
  number = 52;
  rows = p.plain.threads;
  columns = 1;
  Holds = λ j _. 1 < p.rounds
      → (p.plain.least_period j ≡ p.plain.most_period j)
      × (p.plain.most_release j + (p.rounds - 1) * p.plain.least_period j ≤ 65535);
  test = λ j _. ltb 1 p.rounds
      ⇒ (eqb (p.plain.least_period j) (p.plain.most_period j)
      && leb (p.plain.most_release j + (p.rounds - 1) * p.plain.least_period j) 65535);
}

-- 53, activity row A: its q is m or more but not 255
unfoldable pub loop_rule : Page → Rule
loop_rule p = record {
  number = 53;
  rows = p.plain.activities;
  columns = 1;
  Holds = λ a _. ¬ (p.loop a ≡ no_loop) → p.loop a < p.plain.activities;
  test = λ a _. not (eqb (p.loop a) no_loop) ⇒ ltb (p.loop a) p.plain.activities;
}

-- 57, activity row A: "a width of 0 or above c"
unfoldable pub width_rule : Model → Rule
width_rule m = record {
  number = 57;
  rows = m.activities;
  columns = 1;
  Holds = λ a _. Within 1 m.cores (m.width a);
  test = λ a _. within 1 m.cores (m.width a);
}

-- the rules of a page's rows by name, and their order: "after 5, 52 .. after 6, 53 .. 57, after 53"
abbrev pub row_rule : RowRule → Page → Rule
row_rule RowRule.Thread p = thread_rule p.plain
row_rule RowRule.Period p = period_rule p
row_rule RowRule.Activity p = activity_rule p.plain
row_rule RowRule.Loop p = loop_rule p
row_rule RowRule.Width p = width_rule p.plain
row_rule RowRule.Masks p = mask_rule p.plain

abbrev pub row_order : List RowRule
row_order =
    RowRule.Thread ∷ RowRule.Period ∷ RowRule.Activity ∷ RowRule.Loop ∷ RowRule.Width ∷ RowRule.Masks ∷ []

abbrev pub row_rules : Page → List Rule
row_rules p = rules_named (λ rule. row_rule rule p) row_order

-- the newest version of a model
abbrev pub newest_model : ℕ
newest_model = 3

-- the rules that name no row: "after 4, 51"
abbrev pub head_rules : List ℕ → List Rule
head_rules s =
    let p : Page = page s in
    length_rule 1 10 s
    ∷ version_rule 2 newest_model s
    ∷ limits_rule p.plain
    ∷ formula_rule 4 (model_length (field s 4 1) p.plain.threads p.plain.activities) s
    ∷ rounds_rule p
    ∷ []

-- the model's form rules, in the paper's order
unfoldable pub model_form : List ℕ → List Rule
model_form s = head_rules s ++ row_rules (page s)

-- ---- what the later rules may rely on

-- "b must be below the row's own number": every predecessor has a lower number
pub record Ordered (m : Model) : Type 0 where
  pub temporal : (a b : ℕ) → a < m.activities → b < m.activities → T (temporally m b a) → b < a
  pub on_data : (a b : ℕ) → a < m.activities → b < m.activities → T (by_data m b a) → b < a

-- of a model whose record meets its form rules
pub record Formed (m : Model) : Type 0 where
  pub threads : Within 1 8 m.threads
  pub activities : Within 1 32 m.activities
  pub horizon : Within 1 4096 m.horizon
  pub owner : (a : ℕ) → a < m.activities → m.thread a < m.threads
  pub lasting : (a : ℕ) → a < m.activities → 1 ≤ m.least_duration a
  pub wide : (a : ℕ) → a < m.activities → Within 1 m.cores (m.width a)
  pub ordered : Ordered m
