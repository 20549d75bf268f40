-- `checks::page::tabulate` meets its contract: each table holds what its name says.
-- Assumes nothing.
use native.Mathlib.Omega.{arith}
use Rattle.schedule.specs.Model.{model}
use Rattle.schedule.specs.Plan.{plan}
use Rattle.laws.proofs.Ranges.{end_lt}
use Rattle.tables.specs.Columns.{column_of}
use Rattle.tables.proofs.TableLaws.{by_table}
use Rattle.checks.proofs.RuleOrder.{count-table, from-tables}
use Rattle.checks.proofs.SizesRead.{read_activities}
use Rattle.checks.proofs.page.tabulate.Goals as goal

pub invariant_of-predecessors : goal.invariant_of-predecessors
unfolding column_of
invariant_of-predecessors c =
    let few = c.requires.activities.1 in
    let n = read_activities _ c.counts-sizes.ensures in
    record {
      bytes = λ i _. (c.type_inv.s i).fits;
      activities = n;
      few = omega (arith, n, few);
      delays_read = by_table (model c.args.s.now) _ _ few c.table-delays.ensures;
    }

pub finishes-finishes-requires : goal.finishes-finishes-requires
finishes-finishes-requires c = record {
  ordered = c.requires.ordered;
  counts_read = count-table (model c.args.s.now) (plan c.args.r.now) _ c.requires.activities.1 c.counts-counts.ensures;
}

pub froms-froms-requires : goal.froms-froms-requires
unfolding column_of
froms-froms-requires c =
    let m = model c.args.s.now in
    let n = read_activities _ c.counts-sizes.ensures in
    let ends = by_table m _ _ c.requires.activities.1 c.table-ends.ensures in
    λ b l. omega (arith, ends b (omega (arith, l, n)), end_lt c.args.r.now (λ i _. (c.type_inv.r i).fits) b)

pub returns : goal.returns
unfolding column_of
returns c =
    let m = model c.args.s.now in
    let p = plan c.args.r.now in
    let few = c.requires.activities.1 in
    let counts = count-table m p _ few c.counts-counts.ensures in
    let ends = by_table m _ _ few c.table-ends.ensures in
    record {
      few = few;
      count_ticks = counts;
      end_ticks = ends;
      delay_ticks = by_table m _ _ few c.table-delays.ensures;
      finish_ticks = c.finishes-finishes.ensures;
      from_ticks = from-tables m p c.counts-counts.result c.table-ends.result c.finishes-finishes.result c.froms-froms.result
          counts ends c.finishes-finishes.ensures c.froms-froms.ensures;
      before_masks = c.masks-befores.ensures;
    }
