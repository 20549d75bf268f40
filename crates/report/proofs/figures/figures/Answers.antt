-- `report::figures::figures` meets its contract: where nothing is owed the usage is the sum of the durations, each
-- times its width.
-- Assumes nothing.
use Prim.Native.Nat.{ℕ, ◌*◌, ◌-◌, ◌≤◌}
use native.Mathlib.Omega.{arith}
use mathlib.Core.List.{List}
use mathlib.Core.Path.{◌≡◌, ap, ap₂, ◌∙◌}
use lib.ListN.{length, get_or, take}
use lib.Seq.{length-take-le, get_or-take}
use Rattle.schedule.specs.Bounded.{total, greatest, least}
use Rattle.schedule.specs.Model.{Model, Formed, model}
use Rattle.schedule.specs.Choice.{choice}
use Rattle.schedule.specs.Answers
use Rattle.laws.proofs.Ranges.{chosen-duration_lt, width_lt}
use Rattle.laws.proofs.Sums.{greatest_ext}
use Rattle.records.specs.Rows.{sizes_of}
use Rattle.records.specs.declared.model.Sizes.{Sizes}
use Rattle.tables.specs.Columns.{TableOf, entry_of, column_of}
use Rattle.tables.specs.declared.columns.Column.{Column}
use Rattle.tables.proofs.CountLaws.{product_fits}
use Rattle.tables.proofs.TableLaws.{by_table}
use Rattle.report.proofs.ReportLaws.{figures_are}
use Rattle.report.proofs.figures.figures.Goals as goal

-- a column by activity, of a model that meets its form rules
column-is : (which : Column) (s q table : List ℕ) → Formed (model s) → table ≡ column_of which s q
    → TableOf (model s) table (entry_of which s q)
unfolding column_of
column-is which s q table formed e = by_table (model s) (entry_of which s q) table formed.activities.1 e

pub overflow_mul-capacity : goal.overflow_mul-capacity
overflow_mul-capacity c =
    record { fits = product_fits _ _ (omega arith) (omega arith) }

pub core_ticks-requires : goal.core_ticks-requires
unfolding sizes_of
core_ticks-requires c =
    let x = c.args in
    let formed = c.requires.has_ends.formed in
    let e = ap (λ (y : Sizes). y.activities) c.counts-sizes.ensures in
    let lasting = column-is Column.ChosenDuration x.s.now x.q.now _ formed c.table-durations.ensures in
    let wide = column-is Column.Width x.s.now x.q.now _ formed c.table-widths.ensures in (
      omega (arith, e, formed.activities.1),
      λ a l. omega (
        arith,
        lasting a (omega (arith, e, l)),
        chosen-duration_lt x.q.now (λ i _. (c.type_inv.q i).fits) a,
      ),
      λ a l. omega (
        arith,
        wide a (omega (arith, e, l)),
        width_lt x.s.now (λ i _. (c.type_inv.s i).fits) a,
      ),
    )

pub shared_ref_as_front-latest : goal.shared_ref_as_front-latest
unfolding sizes_of
shared_ref_as_front-latest c =
    omega (arith, ap (λ (y : Sizes). y.activities) c.counts-sizes.ensures, c.requires.has_ends.formed.activities.1)

pub returns : goal.returns
unfolding sizes_of
returns c =
    let x = c.args in
    let m : Model = model x.s.now in
    let formed = c.requires.has_ends.formed in
    let e = c.counts-sizes.ensures in
    let durations = c.table-durations.result in
    let widths = c.table-widths.result in
    let used = c.core_ticks.ensures ∙ ap (λ (y : Sizes). total y.activities (λ a. get_or durations a 0 * get_or widths a 0)) e in
    let room = ap (λ (y : Sizes). y.cores * y.horizon) e in
    let n : ℕ = c.counts-sizes.result.activities in
    let few : n ≤ length x.ends.now =
    omega (arith, ap (λ (y : Sizes). y.activities) c.counts-sizes.ensures, formed.activities.1) in
    let last = c.latest.ensures
    ∙ ap (λ k. greatest k (λ a. get_or (take n x.ends.now) a 0)) (length-take-le n x.ends.now few)
    ∙ greatest_ext n _ _ (λ a l. get_or-take n x.ends.now a 0 l)
    ∙ ap (λ (y : Sizes). greatest y.activities (λ a. get_or x.ends.now a 0)) e in
    let first = c.least_release-first.ensures
    ∙ ap (λ (y : Sizes). least y.threads (choice x.q.now).release) e in
    let span = c.saturating_sub.ensures ∙ ap₂ ◌-◌ last first in
    let same : ◌≡◌ {A = Answers.Figures} _ _ =
    λ i. record { usage = c.core_ticks.result; capacity = room i; makespan = c.saturating_sub.result } in
    same
    ∙ figures_are m (choice x.q.now) x.ends.now durations widths _ _ c.requires
    (column-is Column.ChosenDuration x.s.now x.q.now durations formed c.table-durations.ensures)
    (column-is Column.Width x.s.now x.q.now widths formed c.table-widths.ensures) used span
