-- A plan that keeps rule 21 at an activity has its active ticks inside the window: the COMET paper's end − start ≥ duration.
-- Assumes nothing.
use Prim.Native.Nat.{ℕ, ◌+◌, ◌≤◌}
use native.Mathlib.Omega.{arith}
use Rattle.schedule.specs.Model.{Model}
use Rattle.schedule.specs.Plan.{Plan, active}
use Rattle.schedule.specs.Checks.{count_of, Window}
use Rattle.laws.proofs.Counting.{count_none, count_stops, count_span}

pub window_span : (m : Model) (p : Plan) (a : ℕ) → Window m p a → p.start a + count_of m p a ≤ p.end a
unfolding count_of
window_span m p a win =
    omega (
      arith,
      win.ordered,
      count_none (p.start a) (λ t. active p t a)
          (λ t l x. absurd (omega (arith, (win.outside_none t (omega (arith, win.ordered, win.inside)) x).0))),
      count_stops (p.end a) m.horizon (λ t. active p t a) win.inside
          (λ t lo hi x. absurd (omega (arith, (win.outside_none t hi x).1))),
      count_span (p.start a) (p.end a) (λ t. active p t a) (omega (arith, win.ordered)),
    )
