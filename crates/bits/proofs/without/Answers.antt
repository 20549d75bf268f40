-- `bits::without` meets its contract. Below 32 the word's & with all bits but b has the others.
-- Assumes nothing.
use mathlib.Core.Path.{sym}
use Rattle.laws.proofs.WordLaws.{shl_one, without_and, without-high}
use Rattle.bits.proofs.without.Goals as goal

pub returns-then-b-lt32 : goal.returns-then-b-lt32
returns-then-b-lt32 c =
    rw (shl_one c.args.b c.if-b-lt32.true)
    (sym (without_and c.args.word c.args.b c.ranges.word.fits c.if-b-lt32.true))

pub returns-else-b-lt32 : goal.returns-else-b-lt32
returns-else-b-lt32 c = sym (without-high c.args.word c.args.b c.if-b-lt32.false)
