-- `form::version_holds` meets its contract: the field read is that of the definition.
-- Assumes nothing.
use Rattle.records.proofs.form.version_holds.Goals as goal

pub returns : goal.returns
returns c = rw (← c.byte.ensures) c.within.ensures
