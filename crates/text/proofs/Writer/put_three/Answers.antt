-- `text::Writer::put_three` meets its contract: three numbers, each with the byte that ends it.
-- Assumes nothing.
use native.Mathlib.Omega.{arith}
use Rattle.text.proofs.AppendLaws.{wrote_both, wrote_length}
use Rattle.text.proofs.TextLaws.{length-number, three-parts}
use Rattle.laws.proofs.LineLengths.{length_three}
use Rattle.text.proofs.Writer.put_three.Goals as goal

pub put_number-requires : goal.put_number-requires
put_number-requires c =
    let x = c.args in
    omega (
      arith,
      length_three x.a x.b x.c,
      length-number x.a 32,
      length-number x.b 32,
      length-number x.c 10,
    )

pub put_number-requires-2 : goal.put_number-requires-2
put_number-requires-2 c =
    let x = c.args in
    omega (
      arith,
      length_three x.a x.b x.c,
      length-number x.a 32,
      length-number x.b 32,
      length-number x.c 10,
      wrote_length c.put_number.ensures,
    )

pub put_number-requires-3 : goal.put_number-requires-3
put_number-requires-3 c =
    let x = c.args in
    omega (
      arith,
      length_three x.a x.b x.c,
      length-number x.a 32,
      length-number x.b 32,
      length-number x.c 10,
      wrote_length c.put_number.ensures,
      wrote_length c.put_number-2.ensures,
    )

pub returns : goal.returns
returns c =
    let x = c.args in
    rw (three-parts x.a x.b x.c)
    (wrote_both c.put_number.ensures (wrote_both c.put_number-2.ensures c.put_number-3.ensures))
