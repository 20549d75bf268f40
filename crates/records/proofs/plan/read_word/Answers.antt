-- `plan::read_word` meets its contract: the test of the word that was read is rule 14's.
-- Assumes nothing.
use Rattle.records.proofs.plan.read_word.Goals as goal

pub returns : goal.returns
returns c = rw (← c.word-active.ensures, ← c.none_from-holds.ensures) c.answer.ensures
