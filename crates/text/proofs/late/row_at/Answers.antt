-- `text::late::row_at` meets its contract: the row of the figure that is read.
-- Assumes nothing.
use mathlib.Core.Path.{ap, ◌∙◌}
use mir.Syntax.{w32}
use mir.ValLaws.{to_z-of_z}
use Rattle.text.specs.Rows.{row_of}
use Rattle.text.proofs.late.row_at.Goals as goal

pub returns : goal.returns
returns c =
    let figure = c.figure_at in
    c.row_of.ensures ∙ ap row_of (to_z-of_z w32 figure.result (record { sfits = figure.type_inv }) ∙ figure.ensures)
