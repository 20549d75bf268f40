-- `text::Writer::put_number` meets its contract: the number in decimal, and the byte behind it.
-- Assumes nothing.
use native.Mathlib.Omega.{arith}
use Rattle.text.specs.Appended.{number}
use Rattle.text.proofs.AppendLaws.{appended_both}
use Rattle.text.proofs.TextLaws.{length-number}
use Rattle.text.proofs.Writer.put_number.Goals as goal

pub store_decimal-self-requires : goal.store_decimal-self-requires
store_decimal-self-requires c = omega (arith, length-number c.args.n c.args.end)

pub put-requires : goal.put-requires
put-requires c = omega (arith, length-number c.args.n c.args.end)

pub returns : goal.returns
unfolding number
returns c = record {
  same = c.put.ensures.same;
  appended = appended_both c.store_decimal-self.ensures c.put.ensures.appended;
}
