-- `text::check_lines` meets its contract: the two lines are printed where they fit.
-- Assumes nothing.
use Rattle.std.proofs.Common.{arith, rules, refl}
use Rattle.schedule.specs.Numbers.{verdict_numbers}
use Rattle.text.specs.Said.{plain_name, strict_name, line}
use Rattle.text.proofs.AppendLaws.{wrote_length, printed-nothing, printed_written}
use Rattle.text.proofs.TextLaws.{check-parts}
use Rattle.text.proofs.check_lines.Goals as goal

pub returns-then-out-n : goal.returns-then-out-n
returns-then-out-n c =
    let x = c.args in
    let first = c.verdict_said-first in
    let second = c.verdict_said-second in
    let e = check-parts (verdict_numbers x.plain) (verdict_numbers x.strict) first.ensures second.ensures in
    printed-nothing (line plain_name first.result) (line strict_name second.result) x.out.now e (omega arith)

pub put_line-requires-2 : goal.put_line-requires-2
put_line-requires-2 c = omega (arith, wrote_length c.put_line.ensures)

pub returns : goal.returns
returns c =
    let x = c.args in
    let first = c.verdict_said-first in
    let second = c.verdict_said-second in
    let e = check-parts (verdict_numbers x.plain) (verdict_numbers x.strict) first.ensures second.ensures in
    printed_written e refl c.put_line.ensures c.put_line-2.ensures
    (omega (arith, c.if-out-n.false, c.line_length-2.ensures, c.line_length-2.ensures)) (search rules)
