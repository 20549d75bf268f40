-- That efe(a) is the largest of what the paper lists, with quantifiers. efe itself is that of crate schedule, Checks.
-- Assumes nothing.
use Rattle.std.specs.Prelude.{ℕ, ◌+◌, ◌≤◌, ◌<◌, List, ◌≡◌, T}
use Rattle.schedule.specs.Model.{Model, model, temporally, by_data}
use Rattle.schedule.specs.Plan.{Plan, plan}
use Rattle.schedule.specs.Checks.{count_of, efe_from, efe}
use Rattle.schedule.specs.Answers.{MeetsForm}

-- none of the numbers that efe(a) is the largest of is above x
pub record NoneAbove (m : Model) (p : Plan) (a x : ℕ) : Type 0 where
  -- "the thread's release"
  pub release : p.release (m.thread a) ≤ x
  -- "efe(b) + count(b) + delay(b) over temporal predecessors b"
  pub temporal : (b : ℕ) → b < m.activities → T (temporally m b a) → efe m p b + count_of m p b + m.delay b ≤ x
  -- "efe(b) + count(b) over data predecessors b"
  pub on_data : (b : ℕ) → b < m.activities → T (by_data m b a) → efe m p b + count_of m p b ≤ x

-- "efe(a) is the largest of": none of them passes it, and no smaller number has that
pub record Largest (m : Model) (p : Plan) (a : ℕ) : Type 0 where
  pub none_above : NoneAbove m p a (efe m p a)
  pub least : (x : ℕ) → NoneAbove m p a x → efe m p a ≤ x

-- of every model that meets its form rules, every plan and every activity
abbrev pub EfeIsLargest : Type 0
EfeIsLargest = (s r : List ℕ) → MeetsForm s → (a : ℕ) → a < (model s).activities → Largest (model s) (plan r) a

-- and it solves the paper's equation there
abbrev pub EfeSolves : Type 0
EfeSolves = (s r : List ℕ) → MeetsForm s → (a : ℕ) → a < (model s).activities
    → efe (model s) (plan r) a ≡ efe_from (model s) (plan r) (efe (model s) (plan r)) a
