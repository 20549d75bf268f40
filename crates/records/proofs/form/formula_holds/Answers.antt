-- `form::formula_holds` meets its contract: the field read is that of the definition.
-- Assumes nothing.
use Rattle.records.proofs.form.formula_holds.Goals as goal

pub returns : goal.returns
returns c = rw (← c.be32.ensures)
