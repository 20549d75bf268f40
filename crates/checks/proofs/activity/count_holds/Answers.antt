-- `checks::activity::count_holds` meets its contract, by the two tests. Assumes nothing.
use mathlib.Core.Path.{ap}
use borrow.Author.Tests.{lt-leb, le-leb}
use Rattle.records.specs.declared.model.ActivityRow.{ActivityRow}
use Rattle.records.specs.Rows.{activity_row_of}
use Rattle.checks.proofs.activity.count_holds.Goals as goal

pub returns-then-row-count : goal.returns-then-row-count
unfolding activity_row_of
returns-then-row-count c =
    let row = c.activity_row-row.ensures in
    simp (
      ← ap (λ (y : ActivityRow). y.least_duration) row,
      le-leb _ _ c.if-row-count.true,
      ← ap (λ (y : ActivityRow). y.most_duration) row,
    )

pub returns-else-row-count : goal.returns-else-row-count
unfolding activity_row_of
returns-else-row-count c =
    simp (← ap (λ (y : ActivityRow). y.least_duration) c.activity_row-row.ensures, lt-leb _ _ c.if-row-count.false)
