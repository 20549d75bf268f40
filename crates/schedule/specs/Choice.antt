-- The choice record: its bytes, what they mean, and rules 8 to 13.
-- Assumes nothing.
use Rattle.std.specs.Prelude.{ℕ, ◌+◌, ◌*◌, ◌&&◌, List, [], ◌∷◌, ◌≡◌, eqb}
use Rattle.schedule.specs.Fields.{field, pair_row}
use Rattle.schedule.specs.Rule.{Rule}
use Rattle.schedule.specs.Records.{length_rule, version_rule, formula_rule, Within, within}
use Rattle.schedule.specs.Model.{Model}
use Rattle.schedule.specs.Timing.{Timing}

-- What a choice says: release and period by thread, duration by activity.
pub record Choice : Type 0 where
  pub threads : ℕ
  pub activities : ℕ
  pub release : ℕ → ℕ
  pub period : ℕ → ℕ
  pub duration : ℕ → ℕ

-- its releases and periods
abbrev pub choice_timing : Choice → Timing
choice_timing q = record { release = q.release; period = q.period }

-- a choice's thread rows begin at 7, and its durations follow them
abbrev pub choice_thread_row : ℕ → ℕ
choice_thread_row j = pair_row 7 j

abbrev pub duration_at : ℕ → ℕ → ℕ
duration_at n a = choice_thread_row n + 2 * a

-- "Length 7 + 4n + 2m": where one more duration would stand
abbrev pub choice_length : ℕ → ℕ → ℕ
choice_length n m = duration_at n m

unfoldable pub choice : List ℕ → Choice
choice q =
    let n : ℕ = field q 5 1 in
    record {
      threads = n;
      activities = field q 6 1;
      release = λ j. field q (choice_thread_row j) 2;
      period = λ j. field q (choice_thread_row j + 2) 2;
      duration = λ a. field q (duration_at n a) 2;
    }

-- 10: its n or m differs from the model's
unfoldable pub choice_counts : Model → Choice → Rule
choice_counts m q = record {
  number = 10;
  rows = 1;
  columns = 1;
  Holds = λ _ _. (q.threads ≡ m.threads) × (q.activities ≡ m.activities);
  test = λ _ _. eqb q.threads m.threads && eqb q.activities m.activities;
}

-- 12, thread A: release or period outside the model's range; of a choice and of a plan
unfoldable pub range_rule : Model → (ℕ → ℕ) → (ℕ → ℕ) → Rule
range_rule m release period = record {
  number = 12;
  rows = m.threads;
  columns = 1;
  Holds = λ j _.
      Within (m.least_release j) (m.most_release j) (release j)
      × Within (m.least_period j) (m.most_period j) (period j);
  test = λ j _.
      within (m.least_release j) (m.most_release j) (release j)
      && within (m.least_period j) (m.most_period j) (period j);
}

-- 13, activity A: duration outside its range
unfoldable pub duration_rule : Model → Choice → Rule
duration_rule m q = record {
  number = 13;
  rows = m.activities;
  columns = 1;
  Holds = λ a _. Within (m.least_duration a) (m.most_duration a) (q.duration a);
  test = λ a _. within (m.least_duration a) (m.most_duration a) (q.duration a);
}

-- the choice record's rules beside a model, in the paper's order
unfoldable pub choice_form : Model → List ℕ → List Rule
choice_form m s =
    let q : Choice = choice s in
    length_rule 8 7 s
    ∷ version_rule 9 1 s
    ∷ choice_counts m q
    ∷ formula_rule 11 (choice_length q.threads q.activities) s
    ∷ range_rule m q.release q.period
    ∷ duration_rule m q
    ∷ []
