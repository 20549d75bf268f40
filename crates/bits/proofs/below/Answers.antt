-- `bits::below` meets its contract. 1 << n less 1 has the n lowest bits; the largest word has all 32.
-- Assumes nothing.
use native.Mathlib.Omega.{arith}
use mathlib.Core.Path.{sym}
use Rattle.laws.proofs.WordLaws.{below_all, below-low, shl_one}
use Rattle.bits.proofs.below.Goals as goal

pub returns-then-n-lt32 : goal.returns-then-n-lt32
returns-then-n-lt32 c = rw (shl_one c.args.n c.if-n-lt32.true) (sym (below-low 32 c.args.n (omega arith)))

pub returns-else-n-lt32 : goal.returns-else-n-lt32
returns-else-n-lt32 c = sym (below_all 32 c.args.n c.if-n-lt32.false)
