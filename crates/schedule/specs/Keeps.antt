-- What it is to keep the rules: each of 21 to 31 with its quantifiers, as the paper writes it, but for 24, which is out of the
-- book (U11 of 02). Nothing here computes.
-- Assumes nothing.
use Rattle.std.specs.Prelude.{ℕ, ◌+◌, ◌≤◌, ◌<◌, ◌≡◌, T}
use Rattle.schedule.specs.Records.{Within}
use Rattle.schedule.specs.Model.{Model, priority_of, temporally, by_data}
use Rattle.schedule.specs.Timing.{InTime}
use Rattle.schedule.specs.Plan.{Plan, plan_timing, active}
use Rattle.schedule.specs.Checks.{count_of, efe, load, Contends, Window}

-- rules 21 to 29
pub record KeepsPlain (m : Model) (p : Plan) : Type 0 where
  -- 21 window: start < end ≤ H, bits set at start and end − 1, none outside
  pub window : (a : ℕ) → a < m.activities → Window m p a
  -- 22 count within the duration range
  pub duration : (a : ℕ) → a < m.activities → Within (m.least_duration a) (m.most_duration a) (count_of m p a)
  -- 23 a thread with a period has end ≤ release + period (U2 of 02)
  pub deadline : (a : ℕ) → a < m.activities → InTime m (plan_timing p) p.end a
  -- 25 start ≥ end + delay of each temporal predecessor
  pub temporal : (a b : ℕ) → a < m.activities → b < m.activities → T (temporally m b a)
      → p.end b + m.delay b ≤ p.start a
  -- 26 start ≥ end of each data predecessor
  pub on_data : (a b : ℕ) → a < m.activities → b < m.activities → T (by_data m b a) → p.end b ≤ p.start a
  -- 27 start ≥ efe
  pub eligible : (a : ℕ) → a < m.activities → efe m p a ≤ p.start a
  -- 28 at most c ones in the word: active widths of no more than c (U7 of 02)
  pub cores : (t : ℕ) → t < m.horizon → load m p t ≤ m.cores
  -- 29 with exactly c ones, no waiting activity that counts has a priority above an active one's
  pub priority : (t b : ℕ) → t < m.horizon → b < m.activities → load m p t ≡ m.cores → Contends m p t b
      → (a : ℕ) → a < m.activities → T (active p t a) → priority_of m b ≤ priority_of m a

-- rules 21 to 31
pub record KeepsStrict (m : Model) (p : Plan) : Type 0 where
  pub plain : KeepsPlain m p
  -- 30 with fewer than c ones, nothing waits that counts
  pub idle : (t b : ℕ) → t < m.horizon → b < m.activities → load m p t < m.cores → ¬ Contends m p t b
  -- 31 with exactly c ones, no waiting activity that counts has the priority of an active activity with a larger number
  pub tie : (t b : ℕ) → t < m.horizon → b < m.activities → Contends m p t b → load m p t ≡ m.cores
      → (a : ℕ) → a < m.activities → T (active p t a) → b < a → ¬ (priority_of m b ≡ priority_of m a)
