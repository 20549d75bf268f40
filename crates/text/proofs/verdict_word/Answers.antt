-- `text::verdict_word` meets its contract: each word's bytes.
-- Assumes nothing.
use Rattle.text.specs.Said.{verdict_word}
use Rattle.text.proofs.verdict_word.Goals as goal

pub returns-then-passed-clause-word : goal.returns-then-passed-clause-word
unfolding verdict_word
returns-then-passed-clause-word c = simp c.if-passed.true

pub returns-else-passed-clause-word : goal.returns-else-passed-clause-word
unfolding verdict_word
returns-else-passed-clause-word c = simp c.if-passed.false
