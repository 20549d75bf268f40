-- `checks::first_place` meets its contract: a mask that is not 0 has a lowest bit. Assumes nothing.
use native.Mathlib.Omega.{arith}
use Rattle.bits.proofs.Apart.{lowest_lt}
use Rattle.checks.proofs.first_place.Goals as goal

pub returns-else-mask-eq0 : goal.returns-else-mask-eq0
returns-else-mask-eq0 c =
    let low = c.lowest.ensures in
    (lowest_lt c.args.mask _ (omega arith) c.if-mask-eq0.false low, low)
