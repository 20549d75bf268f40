-- `text::Writer::put_line` meets its contract: the line's three parts, one behind the other.
-- Assumes nothing.
use native.Mathlib.Omega.{arith}
use mathlib.Core.Path.{ap}
use lib.ListN.{length}
use Rattle.text.specs.Said.{line}
use Rattle.text.proofs.AppendLaws.{wrote_both, wrote_length}
use Rattle.text.proofs.TextLaws.{length-line}
use Rattle.text.proofs.Writer.put_line.Goals as goal

pub put-requires : goal.put-requires
put-requires c = omega (arith, length-line c.args.name.now c.args.said)

pub put-requires-2 : goal.put-requires-2
put-requires-2 c =
    omega (
      arith,
      length-line c.args.name.now c.args.said,
      ap length c.verdict_word.ensures.word,
      wrote_length c.put.ensures,
    )

pub put_three-requires : goal.put_three-requires
put_three-requires c =
    omega (
      arith,
      length-line c.args.name.now c.args.said,
      ap length c.verdict_word.ensures.word,
      wrote_length c.put.ensures,
      wrote_length c.put-2.ensures,
    )

pub returns : goal.returns
unfolding line
returns c =
    let word = rw c.verdict_word.ensures.word at c.put-2.ensures in
    wrote_both c.put.ensures (wrote_both word c.put_three.ensures)
