use Prim.Native.Nat.{ℕ, ◌+◌, ◌-◌, ◌/◌, ◌%◌, ◌≤◌, ◌<◌}
use native.Mathlib.Decide.{dec_lt}
use native.Mathlib.Omega.{arith}
use mathlib.Core.Path.{◌≡◌, ap, ◌∙◌}
use lib.ListN.{length, set, length-set}
use Rattle.schedule.specs.Lines.{decimal, hex_digit}
use Rattle.laws.proofs.LineLengths.{length-small, length_large, length_positive}
use Rattle.text.proofs.AppendLaws.{decimal_next, decimal-done}
use Rattle.text.proofs.store_decimal.Goals as goal

-- a number of more than one digit, and of one
large : (n : ℕ) → 2 ≤ length (decimal n) → 10 ≤ n
large n h = elim (dec_lt n 10) [ yes s ↦ omega (arith, length-small n s) | no s ↦ omega arith ]

small : (n : ℕ) → length (decimal n) ≡ 1 → n < 10
small n h =
    elim (dec_lt n 10) [
      | yes s ↦ s
      | no s ↦ omega (arith, length_large n (omega arith), length_positive (n / 10))
    ]

pub loop-i-preserved : goal.loop-i-preserved
loop-i-preserved c =
    let at = c.args.at in
    let l = c.loop-i in
    let some : 1 ≤ l.i = omega arith in
    let digits : l.i ≡ length (decimal l.rest) = l.invariant.left some in
    let more : 1 ≤ l.i - 1 → 10 ≤ l.rest = λ h. large l.rest (omega arith) in
    let last : l.i - 1 < 1 → l.rest < 10 = λ h. small l.rest (omega arith) in
    record {
      room = (omega arith, simp length-set l.invariant.room.1);
      left = λ h. omega (arith, length_large l.rest (more h));
      stored = λ h. decimal_next l.rest at l.out c.hex_digit.ensures (l.i - 1) (omega arith) (more h) ∙ l.invariant.stored some;
      whole = λ h.
          let one : l.rest % 10 ≡ l.rest = omega (arith, last h) in
          let place : at + (l.i - 1) ≡ at = omega arith in
          ap (λ (j : ℕ). set l.out j c.hex_digit.result) place
          ∙ decimal-done l.rest at l.out (c.hex_digit.ensures ∙ ap (λ (r : ℕ). hex_digit (r % 16)) one) (last h)
          ∙ l.invariant.stored some;
    }
