-- `text::Writer::put_row` meets its contract: the dash, or a minus sign and the number, and the end of the line.
-- Assumes nothing.
use native.Mathlib.Omega.{arith}
use mathlib.Core.Path.{ap}
use lib.ListN.{length}
use Rattle.text.proofs.AppendLaws.{wrote_both, wrote_length}
use Rattle.text.proofs.LateLaws.{dash-end, figure-end, length-figure}
use Rattle.text.proofs.Writer.put_row.Goals as goal

pub put-requires : goal.put-requires
put-requires c = omega (arith, ap length (dash-end c.in-Dash.is))

pub returns-in-Dash : goal.returns-in-Dash
returns-in-Dash c = rw (dash-end c.in-Dash.is) c.put.ensures

pub put-requires-in-Figure : goal.put-requires-in-Figure
put-requires-in-Figure c = omega (arith, length-figure c.in-Figure.is, ap length c.minus.ensures.sign)

pub put_number-requires : goal.put_number-requires
put_number-requires c =
    omega (
      arith,
      length-figure c.in-Figure.is,
      ap length c.minus.ensures.sign,
      wrote_length c.put-in-Figure.ensures,
    )

pub returns-in-Figure : goal.returns-in-Figure
returns-in-Figure c =
    let sign = rw c.minus.ensures.sign at c.put-in-Figure.ensures in
    rw (figure-end c.in-Figure.is) (wrote_both sign c.put_number.ensures)
