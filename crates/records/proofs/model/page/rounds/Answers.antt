-- `model::page::rounds` meets its contract, version by version.
-- Assumes nothing.
use borrow.Author.Tests.{eq-eqb, ne_eqb}
use Rattle.schedule.specs.Model.{page}
use Rattle.records.proofs.model.page.rounds.Goals as goal

pub returns-then-version-eq1 : goal.returns-then-version-eq1
unfolding page
returns-then-version-eq1 c = rw (← c.version.ensures, eq-eqb _ _ c.if-version-eq1.true)

pub returns-else-version-eq1 : goal.returns-else-version-eq1
unfolding page
returns-else-version-eq1 c = rw (← c.version.ensures, ne_eqb _ _ c.if-version-eq1.false) c.byte.ensures
