-- `model::counts` meets its contract: the counts of one round, and of all.
-- Assumes nothing.
use mathlib.Core.Path.{◌∙◌}
use Rattle.records.proofs.UnrolledRows.{all-counts}
use Rattle.records.proofs.model.counts.Goals as goal

pub returns : goal.returns
returns c = c.in_all.ensures ∙ all-counts _ _ _ c.counts.ensures c.rounds.ensures
