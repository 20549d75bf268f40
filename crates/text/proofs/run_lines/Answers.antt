-- `text::run_lines` meets its contract: the ticks' lines and the last one are printed where they fit.
-- Assumes nothing.
use Rattle.std.proofs.Common.{arith, rules, refl}
use Rattle.schedule.specs.Bounded.{chain}
use Rattle.schedule.specs.Numbers.{run_numbers}
use Rattle.text.specs.Said.{run_name, line}
use Rattle.text.specs.Appended.{tick_text}
use Rattle.text.proofs.AppendLaws.{wrote_length, printed-nothing, printed_written}
use Rattle.text.proofs.TextLaws.{length-ticks, run-parts}
use Rattle.text.proofs.run_lines.Goals as goal

pub ticks_length-requires : goal.ticks_length-requires
ticks_length-requires c = c.ticks-h.ensures.1

pub returns-then-out-n : goal.returns-then-out-n
returns-then-out-n c =
    let x = c.args in
    let h = c.ticks-h in
    let said = c.run_said-said in
    let e = run-parts (run_numbers x.answer) x.plan.now h.ensures.0 said.ensures in
    printed-nothing (chain h.result (tick_text x.plan.now)) (line run_name said.result) x.out.now e
    (omega (arith, length-ticks x.plan.now h.result))

pub put_ticks-requires : goal.put_ticks-requires
put_ticks-requires c =
    let x = c.args in
    omega (arith, length-ticks x.plan.now c.ticks-h.result)

pub put_line-requires : goal.put_line-requires
put_line-requires c =
    let x = c.args in
    omega (arith, length-ticks x.plan.now c.ticks-h.result, wrote_length c.put_ticks.ensures)

pub returns : goal.returns
returns c =
    let x = c.args in
    let h = c.ticks-h in
    let said = c.run_said-said in
    let e = run-parts (run_numbers x.answer) x.plan.now h.ensures.0 said.ensures in
    printed_written e refl c.put_ticks.ensures c.put_line.ensures
    (omega (
      arith,
      c.if-out-n.false,
      c.line_length.ensures,
      c.ticks_length.ensures,
      length-ticks x.plan.now h.result,
    )) (search rules)
