-- `model::page::has_widths` meets its contract, version by version.
-- Assumes nothing.
use borrow.Author.Tests.{eq-eqb, ne_eqb}
use Rattle.records.proofs.model.page.has_widths.Goals as goal

pub returns-then-version-ne1 : goal.returns-then-version-ne1
returns-then-version-ne1 c = rw (← c.version-version.ensures, ne_eqb _ _ c.if-version-ne1.true)

pub returns-else-version-ne1 : goal.returns-else-version-ne1
returns-else-version-ne1 c = rw (← c.version-version.ensures, eq-eqb _ _ c.if-version-ne1.false)
