-- `machine::ending::judge` meets its contract: the lowest activity that owes, then the lowest that is late, are the breaks of 42 and 43.
-- Assumes nothing.
use native.Mathlib.Omega.{arith}
use mathlib.Core.Path.{sym, ap, ◌∙◌}
use Rattle.tables.specs.Columns.{column_of}
use Rattle.tables.proofs.TableLaws.{by_table}
use Rattle.machine.specs.Played.{Judgement, refused, judged_by}
use Rattle.machine.proofs.EndingLaws.{first_some, first_none, owed-first, late-first, none-late}
use Rattle.machine.proofs.ending.judge.Goals as goal

pub returns-in-Some : goal.returns-in-Some
returns-in-Some c =
    let here = c.in-Some.ensures in
    let first = owed-first _ _ _ _ c.requires.1 _ c.requires.0.sizes.0 _ (first_some _ _ _ here) here.0 in
    ap {B = Judgement} refused c.refusal.ensures ∙ ap judged_by (sym first)

pub returns-in-Some-first_late : goal.returns-in-Some-first_late
unfolding column_of
returns-in-Some-first_late c =
    let tabled = c.requires.0 in
    let here = c.in-Some-first_late.ensures in
    let first = late-first _ _ _ _ c.requires.1 _ tabled.sizes.0 _ _ _ _
    tabled.release_ticks (by_table _ _ _ tabled.few c.table-periods.ensures)
    (first_none _ _ c.in_default.ensures) (omega arith) (first_some _ _ _ here) here.0 in
    ap {B = Judgement} refused c.refusal-in-Some-first_late.ensures ∙ ap judged_by (sym first)

pub returns : goal.returns
unfolding column_of
returns c =
    let tabled = c.requires.0 in
    let all-kept = none-late _ _ _ _ c.requires.1 _ tabled.sizes.0 _ _ _ _
    tabled.release_ticks (by_table _ _ _ tabled.few c.table-periods.ensures)
    (first_none _ _ c.in_default.ensures) (omega arith) (first_none _ _ c.in_default-first_late.ensures) (omega arith) in
    ap judged_by (sym all-kept)
