-- `model::page::has_loops` meets its contract.
-- Assumes nothing.
use Prim.Native.Nat.{ℕ}
use mathlib.Core.Bool.{not}
use mathlib.Core.Path.{ap}
use lib.Dec.{eqb}
use Rattle.records.proofs.model.page.has_loops.Goals as goal

pub returns : goal.returns
returns c = ap (λ (v : ℕ). not (eqb v 1)) c.version.ensures
