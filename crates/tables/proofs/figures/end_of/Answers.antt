-- `tables::figures::end_of` meets its contract: the row is that of the definition. Assumes nothing.
use mathlib.Core.Path.{ap, ◌∙◌}
use Rattle.records.specs.declared.plan.Span.{Span}
use Rattle.records.specs.Rows.{span_of}
use Rattle.tables.proofs.figures.end_of.Goals as goal

pub returns : goal.returns
unfolding span_of
returns c = c.from.ensures ∙ ap (λ (row : Span). row.end) c.activity_row.ensures
