-- A model's record as it was read before U7 of 02, and its form rules as they were: there were versions 1 and 2, no byte for a width,
-- and no rule 57. What a page means, round by round, and the other rules are today's.
-- Assumes nothing.
use Rattle.std.specs.Prelude.{ℕ, ◌+◌, ◌*◌, cond, List, [], ◌∷◌, eqb}
use Rattle.schedule.specs.Fields.{field}
use Rattle.schedule.specs.Rule.{Rule}
use Rattle.schedule.specs.Rounds.{no_loop}
use Rattle.schedule.specs.Records.{length_rule, version_rule, formula_rule}
use Rattle.schedule.specs.Model.{Model, Page, unrolled}
use Rattle.schedule.specs.Model.{limits_rule, rounds_rule, thread_rule, period_rule, activity_rule, loop_rule, mask_rule}

-- The thread rows of 10 bytes begin behind H, and from version 2 on behind i.
abbrev pub thread_row : ℕ → ℕ → ℕ
thread_row version j = cond (eqb version 1) 10 11 + 10 * j

-- The activity rows follow them, of 15 bytes, and from version 2 on of one more, the loop byte.
abbrev pub activity_row : ℕ → ℕ → ℕ → ℕ
activity_row version n a = thread_row version n + cond (eqb version 1) (15 * a) (16 * a)

-- "Length 10 + 10n + 15m", and 11 + 10n + 16m: where one more activity row would begin
abbrev pub model_length : ℕ → ℕ → ℕ → ℕ
model_length version n m = activity_row version n m

-- the page that a record's bytes say; it had no widths, and "older models have width 1"
unfoldable pub page : List ℕ → Page
page s =
    let version : ℕ = field s 4 1 in
    let n : ℕ = field s 6 1 in
    record {
      plain = record {
        cores = field s 5 1;
        threads = n;
        activities = field s 7 1;
        horizon = field s 8 2;
        least_period = λ j. field s (thread_row version j) 2;
        most_period = λ j. field s (thread_row version j + 2) 2;
        least_release = λ j. field s (thread_row version j + 4) 2;
        most_release = λ j. field s (thread_row version j + 6) 2;
        priority = λ j. field s (thread_row version j + 8) 2;
        thread = λ a. field s (activity_row version n a) 1;
        least_duration = λ a. field s (activity_row version n a + 1) 2;
        most_duration = λ a. field s (activity_row version n a + 3) 2;
        delay = λ a. field s (activity_row version n a + 5) 2;
        temporal_mask = λ a. field s (activity_row version n a + 7) 4;
        data_mask = λ a. field s (activity_row version n a + 11) 4;
        width = λ _. 1;
      };
      rounds = cond (eqb version 1) 1 (field s 10 1);
      loop = λ a. cond (eqb version 1) no_loop (field s (activity_row version n a + 15) 1);
    }

-- the model that they say
abbrev pub model : List ℕ → Model
model s = unrolled (page s)

unfoldable pub model_form : List ℕ → List Rule
model_form s =
    let p : Page = page s in
    length_rule 1 10 s
    ∷ version_rule 2 2 s
    ∷ limits_rule p.plain
    ∷ formula_rule 4 (model_length (field s 4 1) p.plain.threads p.plain.activities) s
    ∷ rounds_rule p
    ∷ thread_rule p.plain
    ∷ period_rule p
    ∷ activity_rule p.plain
    ∷ loop_rule p
    ∷ mask_rule p.plain
    ∷ []
