-- `checks::windows::strays` meets its contract, by the table of starts.
-- Assumes nothing.
use native.Mathlib.Omega.{arith}
use Rattle.schedule.specs.Model.{model}
use Rattle.schedule.specs.Plan.{plan}
use Rattle.tables.specs.Columns.{column_of}
use Rattle.tables.proofs.TableLaws.{by_table}
use Rattle.checks.proofs.WindowLaws.{strays_read}
use Rattle.checks.proofs.SizesRead.{read_activities, read_horizon}
use Rattle.checks.proofs.windows.strays.Goals as goal

pub invariant_of-windows : goal.invariant_of-windows
invariant_of-windows c =
    record { few = omega (arith, read_activities _ c.counts-sizes.ensures, c.requires.few) }

pub returns : goal.returns
unfolding column_of
returns c =
    let tabulated = c.requires in
    let x = c.args in
    let sizes = c.counts-sizes.ensures in
    strays_read (model x.s.now) (plan x.r.now) c.table-starts.result x.tables.now.ends _ _ _
    (read_horizon _ sizes) (read_activities _ sizes)
    (by_table _ _ _ tabulated.few c.table-starts.ensures) tabulated.end_ticks c.outside.ensures
