-- `text::late::row_of` meets its contract: the dash, or the sign and the size, from the figure's bits.
-- Assumes nothing.
use Rattle.text.proofs.FigureLaws.{dash_is, figure_is}
use Rattle.text.proofs.late.row_of.Goals as goal

pub returns-then-is_dash : goal.returns-then-is_dash
returns-then-is_dash c = dash_is c.args.figure c.ranges.figure c.is_dash.ensures c.if-is_dash.true

pub returns-else-is_dash : goal.returns-else-is_dash
returns-else-is_dash c =
    figure_is c.args.figure c.ranges.figure c.is_dash.ensures c.if-is_dash.false c.unsigned_abs.ensures.value
