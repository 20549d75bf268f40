use native.Mathlib.Omega.{arith}
use Rattle.laws.proofs.LineLengths.{length-small, length_large, length_positive, length_most}
use Rattle.text.proofs.decimal_length.Goals as goal

pub overflow_add-k : goal.overflow_add-k
overflow_add-k c = omega (arith, length_positive c.loop-rest.rest, length_most 9 c.args.n (omega arith))

pub loop-rest-preserved : goal.loop-rest-preserved
loop-rest-preserved c = omega (arith, length_large c.loop-rest.rest c.loop-rest-test.true)

pub returns : goal.returns
returns c =
    omega (
      arith,
      length-small c.loop-rest.rest c.loop-rest-test.false,
      length_most 9 c.args.n (omega arith),
    )
