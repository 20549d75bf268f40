-- `machine::tabulate` meets its contract: each table is a column, or the machine's ranking.
-- Assumes nothing.
use native.Mathlib.Omega.{arith}
use mathlib.Core.Path.{ap}
use Rattle.schedule.specs.Model.{model}
use Rattle.records.specs.Rows.{sizes_of}
use Rattle.records.specs.declared.model.Sizes.{Sizes}
use Rattle.tables.specs.Columns.{column_of}
use Rattle.tables.proofs.TableLaws.{by_table}
use Rattle.machine.proofs.tabulate.Goals as goal

pub invariant_of-result : goal.invariant_of-result
unfolding sizes_of
invariant_of-result c =
    record { few = omega (arith, c.requires, ap (λ (r : Sizes). r.activities) c.counts-sizes.ensures) }

pub returns : goal.returns
unfolding column_of sizes_of
returns c =
    let m = model c.args.s.now in
    record {
      few = c.requires;
      sizes = (ap (λ (r : Sizes). r.activities) c.counts-sizes.ensures, ap (λ (r : Sizes). r.cores) c.counts-sizes.ensures);
      release_ticks = by_table m _ _ c.requires c.table.ensures;
      delay_ticks = by_table m _ _ c.requires c.table-2.ensures;
      temporal_masks = by_table m _ _ c.requires c.table-3.ensures;
      data_masks = by_table m _ _ c.requires c.table-4.ensures;
      rank_order = c.order.ensures;
      width_cores = by_table m _ _ c.requires c.table-5.ensures;
    }
