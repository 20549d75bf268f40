-- `text::late::row_length` meets its contract: the dash, or a minus sign and the digits, and the end of the line.
-- Assumes nothing.
use native.Mathlib.Omega.{arith}
use mathlib.Core.Path.{ap}
use lib.ListN.{length}
use Rattle.text.proofs.TextLaws.{length-number}
use Rattle.text.proofs.LateLaws.{dash-end, length-figure}
use Rattle.text.proofs.late.row_length.Goals as goal

pub returns-in-Dash : goal.returns-in-Dash
returns-in-Dash c = omega (arith, ap length (dash-end c.in-Dash.is))

pub returns-in-Figure : goal.returns-in-Figure
returns-in-Figure c =
    let f = c.in-Figure in
    omega (arith, length-figure f.is, length-number f.size 10, ap length c.minus.ensures.sign)
