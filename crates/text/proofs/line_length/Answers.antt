-- `text::line_length` meets its contract: the lengths of the line's three parts.
-- Assumes nothing.
use native.Mathlib.Omega.{arith}
use mathlib.Core.Path.{ap}
use lib.ListN.{length}
use Rattle.text.proofs.TextLaws.{length-line}
use Rattle.text.proofs.line_length.Goals as goal

pub overflow_add-result : goal.overflow_add-result
overflow_add-result c = omega (arith, c.well_formed)

pub overflow_add-result-2 : goal.overflow_add-result-2
overflow_add-result-2 c = omega (arith, c.well_formed)

pub returns : goal.returns
returns c =
    let x = c.args in
    omega (arith, length-line x.name.now x.said, ap length c.verdict_word.ensures.word)
