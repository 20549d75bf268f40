-- What the writer puts at the front of a plan.
-- Assumes nothing.
use Rattle.std.specs.Prelude.{ℕ, List, ◌++◌}
use Rattle.schedule.specs.Fields.{bytes}
use Rattle.schedule.specs.Plan.{plan_length}

-- the length, the version, n, m and H
unfoldable pub head_bytes : ℕ → ℕ → ℕ → List ℕ
head_bytes n m h = bytes 4 (plan_length n m h) ++ (bytes 1 1 ++ (bytes 1 n ++ (bytes 1 m ++ bytes 2 h)))
