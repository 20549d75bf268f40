-- `text::digit_from` meets its contract: the bits below are shifted out, and the mask keeps 4 of the rest.
-- Assumes nothing.
use Prim.Native.Nat.{◌/◌, ◌^◌}
use native.Mathlib.Omega.{arith}
use mathlib.Core.Path.{◌∙◌}
use lib.Bits.{and_mask}
use Rattle.text.proofs.DigitLaws.{low_digit}
use Rattle.text.proofs.digit_from.Goals as goal

pub overflow_cast-word : goal.overflow_cast-word
overflow_cast-word c = omega (arith, and_mask (c.args.word / 2 ^ c.args.bit) 4)

pub returns : goal.returns
returns c =
    let x = c.args in
    c.hex_digit.ensures ∙ low_digit (x.word / 2 ^ x.bit)
