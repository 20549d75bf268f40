-- The usage of the machine's plan is the sum of each duration times its width, where nothing is owed at the end.
-- Assumes nothing.
use Prim.Native.Nat.{ℕ, ◌*◌, ◌<◌}
use mathlib.Core.Bool.{cond}
use mathlib.Core.Path.{◌≡◌, ap, ◌∙◌}
use Rattle.schedule.specs.Bounded.{total}
use Rattle.schedule.specs.Model.{Model}
use Rattle.schedule.specs.Choice.{Choice}
use Rattle.schedule.specs.Machine.{machine_owes}
use Rattle.schedule.specs.Checks.{cores_of}
use Rattle.schedule.specs.Answers.{figures, machine_plan}
use Rattle.laws.proofs.Sums.{total_ext, total_exchange, total_counted}
use Rattle.laws.proofs.MachineLaws.{runs, runs-duration}

-- every activity has then been active for its duration
pub usage-durations : (m : Model) (q : Choice)
    → ((a : ℕ) → a < m.activities → machine_owes m q.release q.duration a ≡ 0)
    → (figures m (machine_plan m q)).usage ≡ total m.activities (λ a. q.duration a * m.width a)
unfolding figures machine_plan cores_of
usage-durations m q settled =
    total_exchange m.horizon m.activities (λ t a. cond (runs m q.release q.duration t a) (m.width a) 0)
    ∙ total_ext m.activities _ _ (λ a l.
    total_counted m.horizon (λ t. runs m q.release q.duration t a) (m.width a)
    ∙ ap (λ (d : ℕ). d * m.width a) (runs-duration m q.release q.duration a l (settled a l)))
