-- `bits::lowest` meets its contract. The zeros below the lowest digit that is set are its number.
-- Assumes nothing.
use Rattle.laws.proofs.WordLaws.{trailing_lowest}
use Rattle.bits.proofs.lowest.Goals as goal

pub returns : goal.returns
returns c = trailing_lowest 32 c.args.word
