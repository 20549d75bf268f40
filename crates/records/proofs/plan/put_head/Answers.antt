-- `plan::put_head` meets its contract: the header, where it fits whole.
-- Assumes nothing.
use native.Mathlib.Omega.{arith}
use Rattle.records.proofs.WriteLaws.{head_out}
use Rattle.records.proofs.plan.put_head.Goals as goal

pub returns-else-out-ge9 : goal.returns-else-out-ge9
returns-else-out-ge9 c =
    let x = c.args in
    head_out x.threads x.activities x.horizon x.out.now (omega (arith, c.if-out-ge9.false))
