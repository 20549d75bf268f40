-- `text::word_at` meets its contract: the plan's word. Assumes nothing.
use Rattle.text.specs.Appended.{word_of}
use Rattle.text.proofs.word_at.Goals as goal

pub returns : goal.returns
unfolding word_of
returns c = c.word.ensures
