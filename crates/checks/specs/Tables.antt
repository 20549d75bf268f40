-- What the checks keep in tables and masks, so that a tick costs a few operations on whole words.
-- Assumes nothing.
use Rattle.std.specs.Prelude.{ℕ, ◌+◌, ◌-◌, ◌<◌, ◌≤◌, max, not, cond, List, ◌≡◌, get_or, Option, MatchOption}
use Rattle.schedule.specs.Bounded.{bit, greatest, lowest, word_of}
use Rattle.schedule.specs.Model.{Model, temporally, by_data}
use Rattle.schedule.specs.Plan.{Plan}
use Rattle.schedule.specs.Rule.{Rule}
use Rattle.schedule.specs.Checks.{count_of, efe}
use Rattle.tables.specs.declared.ranking.Order.{Order}
use Rattle.checks.specs.declared.page.Tables.{Tables}
use Rattle.tables.specs.Columns.{TableOf}
use Rattle.tables.specs.Ranking.{ranking_of}

-- the columns of row a at which a rule's test fails, as a word
unfoldable pub broken_mask : Rule → ℕ → ℕ
broken_mask r a = word_of r.columns (λ b. not (r.test a b))

-- the first of the places in a mask: the lowest bit that is set, if one is
abbrev pub FirstPlace : ℕ → Option ℕ → Type 0
FirstPlace mask place = MatchOption place (mask ≡ 0) (λ b. (b < 32) × (b ≡ lowest 32 (bit mask)))

-- the tick from which a can wait: its efe, and its predecessors' ends
unfoldable pub waits_from : Model → Plan → ℕ → ℕ
waits_from m p a =
    max (efe m p a)
    (max (greatest m.activities (λ b. cond (temporally m b a) (p.end b + m.delay b) 0))
    (greatest m.activities (λ b. cond (by_data m b a) (p.end b) 0)))

-- the latest that a's predecessors let go, where `done b` is when activity b is done
unfoldable pub after : Model → ℕ → (ℕ → ℕ) → ℕ → ℕ
after m n done a = greatest n (λ b. cond (temporally m b a) (done b + m.delay b) (cond (by_data m b a) (done b) 0))

-- when activity a could be finished with cores enough
abbrev pub finish_of : Model → Plan → ℕ → ℕ
finish_of m p a = efe m p a + count_of m p a

-- the tick from which a can wait, from tables of when activities could be finished, of counts and of ends
abbrev pub from_of : Model → List ℕ → List ℕ → List ℕ → ℕ → ℕ
from_of m done counted ended a =
    max (get_or done a 0 - get_or counted a 0) (after m m.activities (λ b. get_or ended b 0) a)

-- the tables hold what the rules need of a model and a plan
pub record Tabulated (m : Model) (p : Plan) (tables : Tables) : Type 0 where
  pub few : m.activities ≤ 32
  pub count_ticks : TableOf m tables.counts (count_of m p)
  pub end_ticks : TableOf m tables.ends p.end
  pub delay_ticks : TableOf m tables.delays m.delay
  pub finish_ticks : TableOf m tables.finishes (finish_of m p)
  pub from_ticks : TableOf m tables.froms (waits_from m p)
  pub before_masks : tables.befores ≡ ranking_of Order.Before m
