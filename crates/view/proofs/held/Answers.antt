-- `view::held` meets its contract: the plan's words, or nothing where the making is refused.
-- Assumes nothing.
use mathlib.Core.Path.{refl}
use Rattle.view.specs.Grid.{held_bytes, held_from}
use Rattle.view.proofs.held.Goals as goal

pub returns-in-Err : goal.returns-in-Err
unfolding held_bytes held_from
returns-in-Err c = rw c.in-Err.is (refl, refl)

pub returns-in-Ok : goal.returns-in-Ok
unfolding held_bytes held_from
returns-in-Ok c = rw c.in-Ok.is c.words.ensures
