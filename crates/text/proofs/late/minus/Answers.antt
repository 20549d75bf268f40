-- `text::late::minus` meets its contract: one byte, or none.
-- Assumes nothing.
use Rattle.text.specs.Rows.{minus}
use Rattle.text.proofs.late.minus.Goals as goal

pub returns-then-negative-clause-sign : goal.returns-then-negative-clause-sign
unfolding minus
returns-then-negative-clause-sign c = simp c.if-negative.true

pub returns-else-negative-clause-sign : goal.returns-else-negative-clause-sign
unfolding minus
returns-else-negative-clause-sign c = simp c.if-negative.false
