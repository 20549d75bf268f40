use Rattle.std.proofs.Common.{rules}
use mathlib.Core.Path.{sym}
use Rattle.schedule.specs.Model.{page, row_rule}
use Rattle.records.specs.RowRules.{row_at}
use Rattle.records.proofs.Reading.{rows_break}
use Rattle.records.proofs.RowOrder.{row-columns}
use Rattle.records.proofs.model.rules.over_rows.Goals as goal

pub returns-then-settled : goal.returns-then-settled
returns-then-settled c = sym (c.settled.ensures c.if-settled.true)

pub returns : goal.returns
returns c =
    let x = c.args in
    let p = page x.s.now in
    rows_break (row_rule x.rule p) c.rows_of.result (row_at x.rule p) _ c.rows_of.ensures (row-columns x.rule p)
    (c.over.ensures _ (λ a y l q. search rules))
