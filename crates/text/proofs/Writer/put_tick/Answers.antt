-- `text::Writer::put_tick` meets its contract: the tick, the word's 8 digits and the end of the line.
-- Assumes nothing.
use native.Mathlib.Omega.{arith}
use mathlib.Core.Path.{◌∙◌}
use Rattle.text.proofs.AppendLaws.{appended_both, wrote_length}
use Rattle.text.proofs.TextLaws.{length-number, tick-parts}
use Rattle.laws.proofs.LineLengths.{length-hex, length-tick}
use Rattle.text.proofs.Writer.put_tick.Goals as goal

pub put_number-requires : goal.put_number-requires
put_number-requires c =
    let x = c.args in
    omega (arith, length-tick x.t x.word, length-number x.t 32, length-hex 8 x.word)

pub store_hex-self-requires : goal.store_hex-self-requires
store_hex-self-requires c =
    let x = c.args in
    omega (
      arith,
      length-tick x.t x.word,
      length-number x.t 32,
      length-hex 8 x.word,
      wrote_length c.put_number.ensures,
    )

pub put-requires : goal.put-requires
put-requires c =
    let x = c.args in
    omega (
      arith,
      length-tick x.t x.word,
      length-number x.t 32,
      length-hex 8 x.word,
      wrote_length c.put_number.ensures,
    )

pub returns : goal.returns
returns c =
    let x = c.args in
    let first = c.put_number.ensures in
    let last = c.put.ensures in
    rw (tick-parts x.t x.word) record {
      same = last.same ∙ first.same;
      appended = appended_both first.appended (appended_both c.store_hex-self.ensures last.appended);
    }
