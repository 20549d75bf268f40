-- `tables::columns::table` meets its contract: an entry for each activity that has a place.
-- Assumes nothing.
use Rattle.std.proofs.Common.{rules}
use Rattle.tables.specs.Columns.{column_of, entry_of}
use Rattle.schedule.specs.Model.{model}
use Rattle.tables.proofs.TableLaws.{by_first}
use Rattle.tables.proofs.columns.table.Goals as goal

pub returns : goal.returns
unfolding column_of
returns c =
    let x = c.args in
    let f = entry_of x.which x.s.now x.second.now in
    by_first (model x.s.now) c.rows.result.n f c.table.result c.rows.ensures (c.table.ensures f (λ a y l p. search rules))
