-- `text::three_length` meets its contract: the digits of the three numbers, two spaces and the end of the line.
-- Assumes nothing.
use native.Mathlib.Omega.{arith}
use Rattle.laws.proofs.LineLengths.{length_three}
use Rattle.text.proofs.three_length.Goals as goal

pub returns : goal.returns
returns c =
    let x = c.args in
    omega (arith, length_three x.a x.b x.c)
