-- `tables::loads::widths_of` meets its contract: a plane for each digit of the widest, and the others are empty.
-- Assumes nothing.
use Prim.Native.Nat.{ℕ, ◌^◌, ◌≤◌}
use native.Mathlib.Omega.{arith}
use mathlib.Core.Path.{◌≡◌, ◌∙◌}
use lib.Dec.{ltb}
use lib.ListN.{get_or}
use Rattle.std.proofs.Common.{rules}
use Rattle.laws.proofs.Lowest.{lowest_is}
use Rattle.laws.proofs.Ranges.{width_lt}
use Rattle.schedule.specs.Bounded.{bit, word_of}
use Rattle.schedule.specs.Model.{model}
use Rattle.tables.specs.Columns.{column_of}
use Rattle.tables.specs.Loads.{plane_of, depth_of, widths_of}
use Rattle.tables.proofs.LoadLaws.{depth_is, plane_is, planes_whole}
use Rattle.tables.proofs.loads.widths_of.Goals as goal

pub table-requires : goal.table-requires
table-requires c =
    let few : c.digits-depth.result ≤ 8 =
    omega (arith, c.digits-depth.ensures, (lowest_is 8 (λ d. ltb c.greatest.result (2 ^ d))).bound) in
    search rules

pub returns : goal.returns
unfolding widths_of column_of
returns c =
    let s = c.args.s.now in
    let m = model s in
    let places = c.rows-places in
    let column = c.table-column in
    let narrow = width_lt s (λ i _. (c.type_inv.s i).fits) in
    let widest = c.greatest.ensures (λ a. get_or column.result a 0) (λ a y l p. search rules) in
    let depth : c.digits-depth.result ≡ depth_of m =
    depth_is m narrow places.result.n c.greatest.result _ column.result places.ensures column.ensures widest c.digits-depth.ensures in
    let plane : (j y : ℕ) → y ≡ word_of places.result.n (λ a. bit (get_or column.result a 0) j) → y ≡ plane_of m j =
    λ j y e. e ∙ plane_is m narrow places.result.n j column.result places.ensures column.ensures in
    let planes =
    planes_whole m narrow c.digits-depth.result c.table.result depth
    (c.table.ensures (plane_of m) (λ j y l p. plane j y (search rules))) in
    λ i. record { planes = planes i; depth = depth i }
