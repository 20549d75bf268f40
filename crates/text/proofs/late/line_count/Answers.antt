-- `text::late::line_count` meets its contract: all activities, or none.
-- Assumes nothing.
use native.Mathlib.Omega.{arith}
use mathlib.Core.Path.{sym, ◌∙◌}
use Rattle.text.specs.Rows.{lines_of}
use Rattle.text.proofs.late.line_count.Goals as goal

pub returns-then-filled : goal.returns-then-filled
unfolding lines_of
returns-then-filled c = (rw (sym c.fills-filled.ensures ∙ c.if-filled.true), omega arith)

pub returns-else-filled : goal.returns-else-filled
unfolding lines_of
returns-else-filled c = (rw (sym c.fills-filled.ensures ∙ c.if-filled.false), omega arith)
