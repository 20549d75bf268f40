-- The rows of a page that its rules are tried at.
-- Assumes nothing.
use Rattle.std.specs.Prelude.{ℕ}
use Rattle.schedule.specs.declared.RowRule.{RowRule}
use Rattle.schedule.specs.Model.{Page}
use Rattle.records.specs.declared.rows.Row.{Row}
use Rattle.records.specs.Rows.{thread_row_of, activity_row_of}

-- row a of those that a rule is tried at
abbrev pub row_at : RowRule → Page → ℕ → Row
row_at RowRule.Thread p j = Row.Thread (thread_row_of p.plain j)
row_at RowRule.Period p j = Row.Thread (thread_row_of p.plain j)
row_at RowRule.Activity p a = Row.Activity (activity_row_of p.plain a)
row_at RowRule.Loop p a = Row.Loop (p.loop a)
row_at RowRule.Width p a = Row.Width (p.plain.width a)
row_at RowRule.Masks p a = Row.Activity (activity_row_of p.plain a)
