-- `run::plan::starts_from` meets its contract: the part behind the position, to the end, is the grid.
-- Assumes nothing.
use mathlib.Core.List.{List}
use mathlib.Core.Path.{ap, ◌∙◌}
use Prim.Native.Nat.{ℕ}
use Rattle.run.specs.Front.{start_in}
use Rattle.schedule.specs.Bounded.{table}
use Rattle.run.proofs.PlanLaws.{rest-says}
use Rattle.run.proofs.plan.starts_from.Goals as goal

pub returns : goal.returns
returns c =
    let x = c.args in
    c.starts.ensures ∙ ap (λ (l : List ℕ). table 32 (start_in l x.h)) (rest-says x.at x.out.now)
