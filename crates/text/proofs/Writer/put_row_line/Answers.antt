-- `text::Writer::put_row_line` meets its contract: the activity, and its row.
-- Assumes nothing.
use native.Mathlib.Omega.{arith}
use Rattle.text.specs.Rows.{row_line}
use Rattle.text.proofs.AppendLaws.{wrote_both, wrote_length}
use Rattle.text.proofs.TextLaws.{length-number}
use Rattle.text.proofs.LateLaws.{length-row-line}
use Rattle.text.proofs.Writer.put_row_line.Goals as goal

pub put_number-requires : goal.put_number-requires
put_number-requires c = omega (arith, length-row-line c.args.a c.args.row, length-number c.args.a 32)

pub put_row-requires : goal.put_row-requires
put_row-requires c =
    let x = c.args in
    omega (arith, length-row-line x.a x.row, length-number x.a 32, wrote_length c.put_number.ensures)

pub returns : goal.returns
unfolding row_line
returns c = wrote_both c.put_number.ensures c.put_row.ensures
