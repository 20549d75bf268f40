-- The plan record: its bytes, what they mean, rules 8 to 12 and 14, and the bytes written from a plan's parts.
-- Assumes nothing.
use Rattle.std.specs.Prelude.{ℕ, ◌+◌, ◌*◌, ◌/◌, ◌≤◌, ◌<◌, min, Bool, ◌&&◌, not, List, [], ◌∷◌, ◌++◌, ◌≡◌, T, eqb, leb, length, drop}
use Rattle.schedule.specs.Bounded.{all, bit, chain, ◌⇒◌}
use Rattle.schedule.specs.Fields.{field, bytes, pair, pair_row}
use Rattle.schedule.specs.Rule.{Rule}
use Rattle.schedule.specs.Records.{length_rule, version_rule, formula_rule}
use Rattle.schedule.specs.Model.{Model}
use Rattle.schedule.specs.Timing.{Timing}
use Rattle.schedule.specs.Choice.{range_rule}

-- What a plan says: release and period by thread, start and end by activity, the word of active activities by tick.
pub record Plan : Type 0 where
  pub threads : ℕ
  pub activities : ℕ
  pub horizon : ℕ
  pub release : ℕ → ℕ
  pub period : ℕ → ℕ
  pub start : ℕ → ℕ
  pub end : ℕ → ℕ
  pub word : ℕ → ℕ

-- its releases and periods
abbrev pub plan_timing : Plan → Timing
plan_timing p = record { release = p.release; period = p.period }

-- "Bit a of a tick's word says that activity a is active"
abbrev pub active : Plan → ℕ → ℕ → Bool
active p t a = bit (p.word t) a

-- a plan's thread rows begin at 9, its activity rows follow them, and behind both stands the grid
abbrev pub plan_thread_row : ℕ → ℕ
plan_thread_row j = pair_row 9 j

abbrev pub plan_activity_row : ℕ → ℕ → ℕ
plan_activity_row n a = pair_row (plan_thread_row n) a

abbrev pub grid_at : ℕ → ℕ → ℕ
grid_at n m = plan_activity_row n m

-- "H words of 4 bytes": where the word of tick t stands in the grid
abbrev pub tick_at : ℕ → ℕ
tick_at t = 4 * t

-- "Length 9 + 4n + 4m + 4H": the plan ends where the word of tick H would stand
abbrev pub plan_length : ℕ → ℕ → ℕ → ℕ
plan_length n m H = grid_at n m + tick_at H

-- of a grid by itself, the part behind the rows: the word of tick t, and how many ticks have a whole word
abbrev pub word_in : List ℕ → ℕ → ℕ
word_in g t = field g (tick_at t) 4

abbrev pub ticks_in : List ℕ → ℕ
ticks_in g = length g / 4

unfoldable pub plan : List ℕ → Plan
plan s =
    let n : ℕ = field s 5 1 in
    let m : ℕ = field s 6 1 in
    record {
      threads = n;
      activities = m;
      horizon = field s 7 2;
      release = λ j. field s (plan_thread_row j) 2;
      period = λ j. field s (plan_thread_row j + 2) 2;
      start = λ a. field s (plan_activity_row n a) 2;
      end = λ a. field s (plan_activity_row n a + 2) 2;
      word = λ t. field s (grid_at n m + tick_at t) 4;
    }

-- its grid, the words of all ticks: the part behind the rows
abbrev pub plan_grid : List ℕ → List ℕ
plan_grid s = drop (grid_at (plan s).threads (plan s).activities) s

-- where it begins: behind the rows, or at the end of bytes that do not reach so far
abbrev pub plan_grid_at : List ℕ → ℕ
plan_grid_at s = min (grid_at (plan s).threads (plan s).activities) (length s)

-- n rows of two fields: release and period by thread, start and end by activity
abbrev pub pair_rows : ℕ → (ℕ → ℕ) → (ℕ → ℕ) → List ℕ
pair_rows n f g = chain n (λ j. pair (f j) (g j))

-- a plan's bytes, written from its parts
unfoldable pub plan_bytes : Plan → List ℕ
plan_bytes p =
    bytes 4 (plan_length p.threads p.activities p.horizon)
    ++ (bytes 1 1
    ++ (bytes 1 p.threads
    ++ (bytes 1 p.activities
    ++ (bytes 2 p.horizon
    ++ (pair_rows p.threads p.release p.period
    ++ (pair_rows p.activities p.start p.end
    ++ chain p.horizon (λ t. bytes 4 (p.word t))))))))

-- 10: its n, m or H differs from the model's
unfoldable pub plan_counts : Model → Plan → Rule
plan_counts m p = record {
  number = 10;
  rows = 1;
  columns = 1;
  Holds = λ _ _.
      ((p.threads ≡ m.threads) × (p.activities ≡ m.activities)) × (p.horizon ≡ m.horizon);
  test = λ _ _.
      (eqb p.threads m.threads && eqb p.activities m.activities) && eqb p.horizon m.horizon;
}

-- 14, tick A: a bit at or above m
unfoldable pub word_rule : Model → Plan → Rule
word_rule m p = record {
  number = 14;
  rows = m.horizon;
  columns = 1;
  Holds = λ t _. (b : ℕ) → b < 32 → m.activities ≤ b → ¬ T (active p t b);
  test = λ t _. all 32 (λ b. leb m.activities b ⇒ not (active p t b));
}

-- the plan record's rules beside a model, in the paper's order
unfoldable pub plan_form : Model → List ℕ → List Rule
plan_form m s =
    let p : Plan = plan s in
    length_rule 8 9 s
    ∷ version_rule 9 1 s
    ∷ plan_counts m p
    ∷ formula_rule 11 (plan_length p.threads p.activities p.horizon) s
    ∷ range_rule m p.release p.period
    ∷ word_rule m p
    ∷ []
