-- Ticks in a row with one word, and what makes it stay.
-- Assumes nothing.
use Rattle.std.specs.Prelude.{ℕ, ◌+◌, ◌≤◌, ◌<◌, List, T, get_or}
use Rattle.schedule.specs.Bounded.{bit}
use Rattle.ticks.specs.declared.Kept.{Kept}
use Rattle.ticks.specs.Kept.{Quiet, Stands}
use Rattle.machine.specs.declared.inputs.Tables.{Tables}
use Rattle.machine.specs.Masks.{tick_word}

-- no release, end, or end with its delay passes after tick t and before tick u
pub record Unchanged (n : ℕ) (tables : Tables) (ends : List ℕ) (t u : ℕ) : Type 0 where
  pub released : Quiet n (λ a. get_or tables.releases a 0) t u
  pub ended : Quiet n (λ a. get_or ends a 0) t u
  pub delayed : Quiet n (λ a. get_or ends a 0 + get_or tables.delays a 0) t u

-- the activities of a word, active from tick t on, all owe something at every tick before u
abbrev pub Busy : ℕ → List ℕ → ℕ → ℕ → Type 0
Busy word owed t u = (a : ℕ) → a < 32 → T (bit word a) → u ≤ t + get_or owed a 0

-- a word is kept that is the tables' at each tick from t on, as long as it lasts
pub record Lasts (tables : Tables) (owed ends : List ℕ) (known : Kept) (t : ℕ) : Type 0 where
  pub same : Stands (tick_word tables owed ends) known t
  pub busy : Busy known.word owed t known.until
