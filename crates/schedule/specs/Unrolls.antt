-- What a page means, as U4 of 02 says it, with nothing that computes: a model that is a page's plain model unrolled, thread by
-- thread and mask by mask; and a width is the same in every round (U7 of 02). crate demands, Rounds, shows it of the model that
-- a record's bytes say (PagesUnroll).
-- Assumes nothing.
use Rattle.std.specs.Prelude.{ℕ, suc, ◌+◌, ◌*◌, ◌<◌, ◌⊎◌, ◌↔◌, ◌≡◌, T}
use Rattle.schedule.specs.Records.{Within}
use Rattle.schedule.specs.Model.{Model, Page, temporally, by_data}

-- "thread j of round k is thread k times n + j": row x of the model's threads is that of row j in round k. "its release range
-- moved on by k times the period (by 0 without one)", whichever period of its range is chosen.
pub record ThreadMoved (p : Page) (m : Model) (k j x : ℕ) : Type 0 where
  pub least_period : m.least_period x ≡ p.plain.least_period j
  pub most_period : m.most_period x ≡ p.plain.most_period j
  pub least_release : (period : ℕ) → Within (p.plain.least_period j) (p.plain.most_period j) period
      → m.least_release x ≡ p.plain.least_release j + k * period
  pub most_release : (period : ℕ) → Within (p.plain.least_period j) (p.plain.most_period j) period
      → m.most_release x ≡ p.plain.most_release j + k * period
  pub priority : m.priority x ≡ p.plain.priority j

-- "and activity a is k times m + a. Masks move likewise. With loop byte q, activity q of round k is a temporal predecessor of a
-- in round k + 1": and there is no other predecessor, whatever row b and round l are looked at. Row x of the model's
-- activities is that of row a in round k, with its width. Bits at or above the counts, and rows past them, are no activities.
pub record ActivityMoved (p : Page) (m : Model) (k a x : ℕ) : Type 0 where
  pub thread : m.thread x ≡ k * p.plain.threads + p.plain.thread a
  pub least_duration : m.least_duration x ≡ p.plain.least_duration a
  pub most_duration : m.most_duration x ≡ p.plain.most_duration a
  pub delay : m.delay x ≡ p.plain.delay a
  pub temporal : (l b : ℕ) → l < p.rounds → b < p.plain.activities
      → T (temporally m (l * p.plain.activities + b) x)
      ↔ (((l ≡ k) × T (temporally p.plain b a)) ⊎ ((suc l ≡ k) × (p.loop a ≡ b)))
  pub on_data : (l b : ℕ) → l < p.rounds → b < p.plain.activities
      → T (by_data m (l * p.plain.activities + b) x) ↔ ((l ≡ k) × T (by_data p.plain b a))
  pub width : m.width x ≡ p.plain.width a

-- "It means the plain model unrolled"
pub record Unrolls (p : Page) (m : Model) : Type 0 where
  pub cores : m.cores ≡ p.plain.cores
  pub horizon : m.horizon ≡ p.plain.horizon
  pub threads : m.threads ≡ p.rounds * p.plain.threads
  pub activities : m.activities ≡ p.rounds * p.plain.activities
  pub thread : (k j : ℕ) → k < p.rounds → j < p.plain.threads → ThreadMoved p m k j (k * p.plain.threads + j)
  pub activity : (k a : ℕ) → k < p.rounds → a < p.plain.activities
      → ActivityMoved p m k a (k * p.plain.activities + a)
