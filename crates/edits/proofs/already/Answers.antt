-- `edits::already` meets its contract, by the two kinds of edits. Assumes nothing.
use Rattle.edits.proofs.already.Goals as goal

pub returns-then-e : goal.returns-then-e
returns-then-e c = rw c.if-e.true

pub returns-else-e : goal.returns-else-e
returns-else-e c = rw c.if-e.false
