-- `model::page::formula` meets its contract: where one more row would begin.
-- Assumes nothing.
use Rattle.records.proofs.model.page.formula.Goals as goal

pub returns : goal.returns
returns c = rw (← c.version.ensures) c.activity_at.ensures.value
