-- `report::rows::write` meets its contract: the rows from tables are the report's. Assumes nothing.
use Prim.Native.Nat.{ℕ}
use native.Mathlib.Omega.{arith}
use mathlib.Core.List.{List}
use mathlib.Core.Path.{◌≡◌, sym, subst, ap, ◌∙◌}
use lib.IntN.{ℤ}
use Rattle.schedule.specs.Fields.{Bytes}
use Rattle.schedule.specs.Model.{model}
use Rattle.schedule.specs.Choice.{choice}
use Rattle.schedule.specs.Report.{report_row}
use Rattle.laws.proofs.LatenessLaws.{rows_then, rows_ext}
use Rattle.laws.proofs.Ranges.{chosen-release_lt, chosen-period_lt}
use Rattle.records.specs.Rows.{sizes_of}
use Rattle.records.specs.declared.model.Sizes.{Sizes}
use Rattle.tables.specs.Columns.{TableOf, column_of}
use Rattle.tables.specs.declared.columns.Column.{Column}
use Rattle.tables.proofs.TableLaws.{by_table}
use Rattle.report.specs.Tables.{row_from, Small, HasEnds}
use Rattle.report.proofs.ReportLaws.{row_is, tables-small}
use Rattle.report.proofs.rows.write.Goals as goal

-- from the columns of the chosen releases and periods
module _ (s q ends : List ℕ) (ends_of : HasEnds (model s) (choice q) ends) (n : ℕ) (en : n ≡ (model s).activities)
    (releases periods : List ℕ) (e : releases ≡ column_of Column.ChosenRelease s q)
    (f : periods ≡ column_of Column.ChosenPeriod s q) where
  released : TableOf (model s) releases (λ a. (choice q).release ((model s).thread a))
  unfolding column_of
  released = by_table (model s) _ releases ends_of.formed.activities.1 e

  timed : TableOf (model s) periods (λ a. (choice q).period ((model s).thread a))
  unfolding column_of
  timed = by_table (model s) _ periods ends_of.formed.activities.1 f

  small : Bytes q → Small n releases periods ends
  small bytes =
      subst (λ (k : ℕ). Small k releases periods ends) (sym en)
      (tables-small (model s) (choice q) releases periods ends ends_of released timed (chosen-release_lt q bytes)
      (chosen-period_lt q bytes))

  rows_are : (list : List ℤ)
      → rows_then n (row_from releases periods ends) list ≡ rows_then (model s).activities (report_row (model s) (choice q)) list
  rows_are list =
      ap (λ (k : ℕ). rows_then k (row_from releases periods ends) list) en
      ∙ rows_ext (model s).activities _ _ list (row_is (model s) (choice q) releases periods ends ends_of released timed)

pub fill-requires : goal.fill-requires
unfolding sizes_of
fill-requires c =
    let x = c.args in
    let e = ap (λ (y : Sizes). y.activities) c.counts-sizes.ensures in
    let few = c.requires.0.formed.activities.1 in (
      omega (arith, e, few),
      omega (arith, e, few, c.requires.1),
      small x.s.now x.q.now x.ends.now c.requires.0 _ e _ _ c.table-releases.ensures c.table-periods.ensures
          (λ i _. (c.type_inv.q i).fits),
    )

pub returns : goal.returns
unfolding sizes_of
returns c =
    let x = c.args in
    c.fill.ensures
    ∙ rows_are x.s.now x.q.now x.ends.now c.requires.0 _ (ap (λ (y : Sizes). y.activities) c.counts-sizes.ensures) _ _
    c.table-releases.ensures c.table-periods.ensures x.list.now
