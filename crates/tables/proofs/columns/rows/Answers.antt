-- `tables::columns::rows` meets its contract: the count, or 32 where that is less.
-- Assumes nothing.
use Prim.Native.Nat.{min}
use mathlib.Core.Path.{ap, ◌∙◌}
use Rattle.records.specs.declared.model.Sizes.{Sizes}
use Rattle.records.specs.Rows.{sizes_of}
use Rattle.tables.proofs.columns.rows.Goals as goal

pub returns : goal.returns
unfolding sizes_of
returns c = c.min.ensures ∙ ap (λ (y : Sizes). min y.activities 32) c.counts.ensures
