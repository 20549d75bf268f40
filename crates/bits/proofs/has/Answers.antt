-- `bits::has` meets its contract. The digit that the shift and the mask leave is the bit; a word has no bit from 32 on.
-- Assumes nothing.
use mathlib.Core.Path.{sym, ◌∙◌}
use borrow.Author.Tests.{le-ltb}
use Rattle.laws.proofs.WordLaws.{bit_past, bit_test}
use Rattle.bits.proofs.has.Goals as goal

pub returns-then-b-lt32 : goal.returns-then-b-lt32
returns-then-b-lt32 c = bit_test c.args.word c.args.b

pub returns-else-b-lt32 : goal.returns-else-b-lt32
returns-else-b-lt32 c =
    le-ltb _ _ c.if-b-lt32.false
    ∙ sym (bit_past c.args.word c.args.b c.ranges.word.fits c.if-b-lt32.false)
