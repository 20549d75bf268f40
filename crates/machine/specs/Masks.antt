-- The machine's tick on whole words, from tables: what has ended, what is ready, what the walk takes.
-- Assumes nothing.
use Rattle.std.specs.Prelude.{ℕ, zero, suc, ◌+◌, ◌-◌, ◌^◌, ◌≤◌, ◌<◌, Bool, ◌&&◌, cond, List, ◌≡◌, eqb, leb, ltb, length, get_or, replicate}
use Rattle.std.specs.Int.Bits.{bit_and, bit_or}
use Rattle.schedule.specs.Bounded.{bit, count, lowest, word_of}
use Rattle.schedule.specs.Model.{Model, temporally, by_data}
use Rattle.schedule.specs.Machine.{State, owes, end_of, before}
use Rattle.tables.specs.Columns.{TableOf, among_activities}
use Rattle.machine.specs.declared.inputs.Tables.{Tables}
use Rattle.machine.specs.declared.tick.Walk.{Walk}

-- every bit of x is a bit of y
unfoldable pub covered : ℕ → ℕ → Bool
covered x y = eqb (bit_and x ((2 ^ 32 - 1) - y)) 0

-- activity b owes nothing, and its end and a wait have passed by tick t
unfoldable pub ended_from : List ℕ → List ℕ → List ℕ → ℕ → ℕ → Bool
ended_from owed ends waits t b = eqb (get_or owed b 0) 0 && leb (get_or ends b 0 + get_or waits b 0) t

-- the activities that have ended so
unfoldable pub ended_mask : ℕ → List ℕ → List ℕ → List ℕ → ℕ → ℕ
ended_mask n owed ends waits t = word_of n (ended_from owed ends waits t)

-- whether activity a is ready at tick t, where `past` and `over` hold the temporal and data predecessors that have ended
unfoldable pub ready_from : Tables → List ℕ → ℕ → ℕ → ℕ → ℕ → Bool
ready_from tables owed past over t a =
    ltb 0 (get_or owed a 0)
    && (leb (get_or tables.releases a 0) t
    && (covered (get_or tables.temporal a 0) past && covered (get_or tables.by_data a 0) over))

-- the walk past an activity that is ready, whose bit alone is in `here`: it is taken if its width still fits
unfoldable pub passing : Walk → ℕ → ℕ → Walk
passing walk width here =
    cond (leb width walk.room)
    (record {
      rest = bit_and walk.rest ((2 ^ 32 - 1) - here);
      word = bit_or walk.word here;
      room = walk.room - width;
    })
    (record { rest = bit_and walk.rest ((2 ^ 32 - 1) - here); word = walk.word; room = walk.room })

-- the walk past a place of the ranking, where a mask has the activity that stands there
unfoldable pub taking : Walk → List ℕ → ℕ → Walk
taking walk width mask =
    cond (eqb (bit_and walk.rest mask) 0) walk
    (passing walk (get_or width (lowest 32 (bit (bit_and walk.rest mask))) 0) (bit_and walk.rest mask))

-- the walk along the first k places of the ranking
unfoldable pub walked_from : ℕ → Tables → ℕ → Walk
walked_from ready-mask tables zero = record { rest = ready-mask; word = 0; room = tables.cores }
walked_from ready-mask tables (suc k) =
    taking (walked_from ready-mask tables k) tables.widths (get_or tables.order k 0)

-- the word of the activity at place k of the ranking, from 0: so many rank before it
unfoldable pub at_place : Model → ℕ → ℕ
at_place m k = word_of m.activities (λ a. eqb (count m.activities (λ b. before m b a)) k)

-- Tables of what the machine needs of a model and the chosen releases.
pub record Tabled (m : Model) (release : ℕ → ℕ) (tables : Tables) : Type 0 where
  pub few : m.activities ≤ 32
  pub sizes : (tables.activities ≡ m.activities) × (tables.cores ≡ m.cores)
  pub release_ticks : TableOf m tables.releases (λ a. release (m.thread a))
  pub delay_ticks : TableOf m tables.delays m.delay
  pub temporal_masks : TableOf m tables.temporal (λ a. among_activities m (λ b. temporally m b a))
  pub data_masks : TableOf m tables.by_data (λ a. among_activities m (λ b. by_data m b a))
  pub rank_order : TableOf m tables.order (at_place m)
  pub width_cores : TableOf m tables.widths m.width

-- Tables that hold the machine's state.
pub record Keeps (m : Model) (s : State) (owed ends : List ℕ) : Type 0 where
  pub owed_ticks : TableOf m owed (owes s)
  pub end_ticks : TableOf m ends (end_of s)

-- the activities that are ready at tick t, where `none` holds no delay for any
unfoldable pub ready_mask : Tables → List ℕ → List ℕ → List ℕ → ℕ → ℕ
ready_mask tables none owed ends t =
    word_of tables.activities
    (ready_from tables owed (ended_mask tables.activities owed ends tables.delays t) (ended_mask tables.activities owed ends none t) t)

-- the word of tick t
unfoldable pub tick_word : Tables → List ℕ → List ℕ → ℕ → ℕ
tick_word tables owed ends t = (walked_from (ready_mask tables (replicate 32 0) owed ends t) tables tables.activities).word

-- "Each owes one less, and one that now owes nothing ends at t + 1": the tables after tick t, from those before it
pub record Stepped (n word t : ℕ) (owed ends owed' ends' : List ℕ) : Type 0 where
  pub sized : (length owed' ≡ 32) × (length ends' ≡ 32)
  pub owed_less : (a : ℕ) → a < n → get_or owed' a 0 ≡ get_or owed a 0 - cond (bit word a) 1 0
  pub ends_next : (a : ℕ) → a < n → get_or ends' a 0 ≡ cond (bit word a && eqb (get_or owed a 0) 1) (t + 1) (get_or ends a 0)
