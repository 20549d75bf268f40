-- `bits::ones` meets its contract. The counted digits are the sum of the bits.
-- Assumes nothing.
use Rattle.laws.proofs.WordLaws.{ones-digits}
use Rattle.bits.proofs.ones.Goals as goal

pub returns : goal.returns
returns c = ones-digits c.args.word c.ranges.word.fits
