-- `plan::put_pair` meets its contract: the row, where it fits whole.
-- Assumes nothing.
use native.Mathlib.Omega.{arith}
use Rattle.records.proofs.WriteLaws.{pair_out}
use Rattle.records.proofs.plan.put_pair.Goals as goal

pub returns-else-at-out : goal.returns-else-at-out
returns-else-at-out c =
    let x = c.args in
    pair_out x.at x.first x.second x.out.now (omega (arith, c.if-at-out.false))
