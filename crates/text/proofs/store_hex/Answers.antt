use native.Mathlib.Nat.{add-zero}
use native.Mathlib.Omega.{arith}
use Rattle.text.proofs.DigitLaws.{first-none}
use Rattle.text.proofs.AppendLaws.{appended_none, hex_next, hex-done}
use Rattle.text.proofs.store_hex.Goals as goal

pub loop-i-init : goal.loop-i-init
loop-i-init c = rw (first-none c.args.word, add-zero) (appended_none _ _)

pub loop-i-preserved : goal.loop-i-preserved
loop-i-preserved c =
    let x = c.args in
    let l = c.loop-i in
    hex_next x.word x.at l.i x.out.now l.out l.invariant c.digit_from.ensures (omega arith)

pub returns : goal.returns
returns c =
    let x = c.args in
    let l = c.loop-i in
    hex-done x.word x.at l.i x.out.now l.out l.invariant (omega arith)
