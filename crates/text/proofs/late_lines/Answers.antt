-- `text::late_lines` meets its contract: the activities' lines and the last one are printed where they fit.
-- Assumes nothing.
use Rattle.std.proofs.Common.{arith, rules, refl}
use Rattle.schedule.specs.Bounded.{chain}
use Rattle.schedule.specs.Numbers.{run_numbers}
use Rattle.text.specs.Said.{run_name, line}
use Rattle.text.specs.Rows.{late_text}
use Rattle.text.proofs.AppendLaws.{wrote_length, printed-nothing, printed_written}
use Rattle.text.proofs.LateLaws.{late-parts}
use Rattle.text.proofs.late_lines.Goals as goal

pub lines_length-requires : goal.lines_length-requires
lines_length-requires c = c.line_count-count.ensures.1

pub returns-then-out-n : goal.returns-then-out-n
returns-then-out-n c =
    let x = c.args in
    let count = c.line_count-count in
    let said = c.run_said-said in
    let e = late-parts (run_numbers x.answer) x.activities x.rows.now count.ensures.0 said.ensures in
    printed-nothing (chain count.result (late_text x.rows.now)) (line run_name said.result) x.out.now e
    (omega arith)

pub put_line-requires : goal.put_line-requires
put_line-requires c = omega (arith, wrote_length c.put_rows.ensures)

pub returns : goal.returns
returns c =
    let x = c.args in
    let count = c.line_count-count in
    let said = c.run_said-said in
    let e = late-parts (run_numbers x.answer) x.activities x.rows.now count.ensures.0 said.ensures in
    printed_written e refl c.put_rows.ensures c.put_line.ensures
    (omega (
      arith,
      c.if-out-n.false,
      c.line_length.ensures,
      c.lines_length.ensures,
    )) (search rules)
