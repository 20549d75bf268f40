-- `numbers::hex_digit` meets its contract, line by line: at each number the definition gives what the line has, and the last line
-- takes what is none of the others and so 15.
-- Assumes nothing.
use Prim.Native.Nat.{◌%◌}
use native.Mathlib.Omega.{arith}
use mathlib.Core.Path.{◌≡◌, sym, ap}
use Rattle.schedule.specs.Lines.{hex_digit}
use Rattle.numbers.proofs.CaseLaws.{none_below}
use Rattle.numbers.proofs.hex_digit.Goals as goal

pub returns-in-0 : goal.returns-in-0
unfolding hex_digit
returns-in-0 c = sym (ap hex_digit c.in-0.is)

pub returns-in-1 : goal.returns-in-1
unfolding hex_digit
returns-in-1 c = sym (ap hex_digit c.in-1.is)

pub returns-in-2 : goal.returns-in-2
unfolding hex_digit
returns-in-2 c = sym (ap hex_digit c.in-2.is)

pub returns-in-3 : goal.returns-in-3
unfolding hex_digit
returns-in-3 c = sym (ap hex_digit c.in-3.is)

pub returns-in-4 : goal.returns-in-4
unfolding hex_digit
returns-in-4 c = sym (ap hex_digit c.in-4.is)

pub returns-in-5 : goal.returns-in-5
unfolding hex_digit
returns-in-5 c = sym (ap hex_digit c.in-5.is)

pub returns-in-6 : goal.returns-in-6
unfolding hex_digit
returns-in-6 c = sym (ap hex_digit c.in-6.is)

pub returns-in-7 : goal.returns-in-7
unfolding hex_digit
returns-in-7 c = sym (ap hex_digit c.in-7.is)

pub returns-in-8 : goal.returns-in-8
unfolding hex_digit
returns-in-8 c = sym (ap hex_digit c.in-8.is)

pub returns-in-9 : goal.returns-in-9
unfolding hex_digit
returns-in-9 c = sym (ap hex_digit c.in-9.is)

pub returns-in-10 : goal.returns-in-10
unfolding hex_digit
returns-in-10 c = sym (ap hex_digit c.in-10.is)

pub returns-in-11 : goal.returns-in-11
unfolding hex_digit
returns-in-11 c = sym (ap hex_digit c.in-11.is)

pub returns-in-12 : goal.returns-in-12
unfolding hex_digit
returns-in-12 c = sym (ap hex_digit c.in-12.is)

pub returns-in-13 : goal.returns-in-13
unfolding hex_digit
returns-in-13 c = sym (ap hex_digit c.in-13.is)

pub returns-in-14 : goal.returns-in-14
unfolding hex_digit
returns-in-14 c = sym (ap hex_digit c.in-14.is)

pub returns-in-15-to-255 : goal.returns-in-15-to-255
unfolding hex_digit
returns-in-15-to-255 c =
    let fifteen : c.args.d % 16 ≡ 15 = omega (arith, none_below 15 _ c.in-15-to-255.in-15-to-255-own.rest) in
    sym (ap hex_digit fifteen)
