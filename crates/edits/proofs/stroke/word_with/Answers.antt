-- `edits::stroke::word_with` meets its contract, by the two kinds of edits. Assumes nothing.
use Rattle.edits.proofs.stroke.word_with.Goals as goal

pub returns-then-e : goal.returns-then-e
returns-then-e c = rw c.if-e.true c.with.ensures

pub returns-else-e : goal.returns-else-e
returns-else-e c = rw c.if-e.false c.without.ensures
