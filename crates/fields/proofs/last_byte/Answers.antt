-- `fields::last_byte` meets its contract: the lowest 8 bits are the remainder by 256.
-- Assumes nothing.
use native.Mathlib.Omega.{arith}
use lib.Bits.{and_mask}
use Rattle.fields.proofs.last_byte.Goals as goal

pub overflow_cast-result : goal.overflow_cast-result
overflow_cast-result c = omega (arith, and_mask c.args.v 8)

pub returns : goal.returns
returns c = and_mask c.args.v 8
