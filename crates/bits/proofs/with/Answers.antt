-- `bits::with` meets its contract. Below 32 the shifted one is 2 to the power b, and the word's | with it has the bit.
-- Assumes nothing.
use mathlib.Core.Path.{sym}
use Rattle.laws.proofs.WordLaws.{shl_one, with_high, with_or}
use Rattle.bits.proofs.with.Goals as goal

pub returns-then-b-lt32 : goal.returns-then-b-lt32
returns-then-b-lt32 c =
    rw (shl_one c.args.b c.if-b-lt32.true)
    (sym (with_or c.args.word c.args.b c.if-b-lt32.true))

pub returns-else-b-lt32 : goal.returns-else-b-lt32
returns-else-b-lt32 c = sym (with_high c.args.word c.args.b c.if-b-lt32.false)
