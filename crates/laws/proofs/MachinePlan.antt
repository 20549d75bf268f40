-- The machine's plan fits its record, whether or not its run succeeds.
-- Assumes nothing.
use Prim.Native.Nat.{ℕ, zero, suc, ◌+◌, ◌≤◌, ◌<◌}
use native.Mathlib.Nat.{lt_of_lt_of_le}
use native.Mathlib.Omega.{arith}
use mathlib.Core.Bool.{Bool, true, false, ◌&&◌, cond}
use mathlib.Core.Path.{sym, subst}
use lib.Dec.{eqb}
use lib.Pow.{pow_mono}
use Rattle.schedule.specs.Bounded.{bit}
use Rattle.schedule.specs.Model.{Model, Formed}
use Rattle.schedule.specs.Choice.{Choice}
use Rattle.schedule.specs.Machine.{owes, end_of, state_at, machine_word, machine_start, machine_end}
use Rattle.schedule.specs.Answers.{machine_plan}
use Rattle.laws.proofs.Lowest.{lowest_is}
use Rattle.laws.proofs.MachineLaws.{end-first, end_next, word_lt}
use Rattle.laws.proofs.PlanBytes.{Fits}

-- an end is no later than the tick
pub end_le : (m : Model) (release duration : ℕ → ℕ) (t a : ℕ) → a < m.activities → end_of (state_at m release duration t) a ≤ t
end_le m release duration zero a l = omega (arith, end-first m release duration a l)
end_le m release duration (suc t) a l =
    subst (λ (x : ℕ). x ≤ suc t) (sym (end_next m release duration t a l))
    (one (end_le m release duration t a l) (bit (machine_word m release duration t) a && eqb (owes (state_at m release duration t) a) 1))
  where
    one : end_of (state_at m release duration t) a ≤ t → (b : Bool) → cond b (t + 1) (end_of (state_at m release duration t) a) ≤ suc t
    one h true = omega arith
    one h false = omega arith

-- with releases and periods of two bytes, every part of the plan fits its field
pub plan-fits : (m : Model) (q : Choice) → Formed m → ((j : ℕ) → q.release j < 65536) → ((j : ℕ) → q.period j < 65536)
    → Fits (machine_plan m q)
unfolding machine_plan machine_start machine_end
plan-fits m q formed release period =
    let n = formed.threads.1 in
    let k = formed.activities.1 in
    let H = formed.horizon.1 in
    record {
      threads = omega arith;
      activities = omega arith;
      horizon = omega arith;
      length = omega arith;
      release = λ j _. release j;
      period = λ j _. period j;
      start = λ a _. omega (arith, (lowest_is m.horizon (λ t. bit (machine_word m q.release q.duration t) a)).bound);
      end = λ a l. omega (arith, end_le m q.release q.duration m.horizon a l);
      word = λ t _. lt_of_lt_of_le (word_lt m q.release q.duration t) (pow_mono k);
    }
