-- The deadline: its test decides it, and it depends only on the thread's release and period and on the end.
-- Assumes nothing.
use Prim.Native.Nat.{ℕ}
use native.Mathlib.Omega.{arith}
use mathlib.Core.Logic.Iff
use mathlib.Core.Logic.{◌↔◌}
use mathlib.Core.Path.{◌≡◌}
use lib.Dec.{T}
use Rattle.schedule.specs.Model.{Model}
use Rattle.schedule.specs.Timing.{Timing, InTime, in_time}
use Rattle.laws.proofs.Tests.{tests}

pub in_time_sound : (m : Model) (timing : Timing) (end : ℕ → ℕ) (a : ℕ) → T (in_time m timing end a) ↔ InTime m timing end a
unfolding InTime in_time
in_time_sound m timing end a = simp tests Iff.rfl

-- two timings that agree on a thread
pub record SameAt (timing timing' : Timing) (j : ℕ) : Type 0 where
  pub release : timing.release j ≡ timing'.release j
  pub period : timing.period j ≡ timing'.period j

pub in_time_same : (m : Model) (timing timing' : Timing) (end end' : ℕ → ℕ) (a : ℕ) → SameAt timing timing' (m.thread a)
    → end a ≡ end' a → InTime m timing end a → InTime m timing' end' a
unfolding InTime
in_time_same m timing timing' end end' a same e h has =
    let period = same.period in
    omega (arith, h (λ none. has (omega arith)))
