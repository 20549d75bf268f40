-- Printed digits one by one: those of a word from its highest bits on, and those of a decimal number.
-- Assumes nothing.
use Prim.Native.Nat.{ℕ, ◌+◌, ◌-◌, ◌*◌, ◌/◌, ◌%◌, ◌^◌, ◌≤◌, ◌<◌}
use native.Mathlib.Nat.{div-one, mod-mod, mod-eq_of_lt}
use native.Mathlib.Numerals.{add-one}
use native.Mathlib.Omega.{arith}
use mathlib.Core.List.{List, [], ◌∷◌, ◌++◌}
use mathlib.Core.Path.{◌≡◌, refl, ap, ◌∙◌}
use lib.Bits.{bit_and, and_mask}
use lib.Pow.{shr-shr}
use borrow.Author.Tests.{lt-ltb}
use Rattle.schedule.specs.Lines.{decimal, hex, hex_digit}
use Rattle.laws.proofs.LinesLaws.{decimal-small, decimal_large}

-- ---- a word's

-- the digit of the lowest 4 bits
pub low_digit : (w : ℕ) → hex_digit (bit_and w 15 % 16) ≡ hex_digit (w % 16)
low_digit w = ap hex_digit (ap (λ (x : ℕ). x % 16) (and_mask w 4) ∙ mod-mod w 16)

-- the first i of a word's 8 digits
abbrev pub first_digits : ℕ → ℕ → List ℕ
first_digits word i = hex i (word / 2 ^ (32 - 4 * i))

pub first-none : (word : ℕ) → first_digits word 0 ≡ []
unfolding hex
first-none word = refl

hex-more : (k w : ℕ) → hex (k + 1) w ≡ hex k (w / 16) ++ (hex_digit (w % 16) ∷ [])
unfolding hex
hex-more k w = rw add-one

pub first_next : (word i : ℕ) → i < 8
    → first_digits word (i + 1) ≡ first_digits word i ++ (hex_digit (word / 2 ^ (28 - 4 * i) % 16) ∷ [])
first_next word i h =
    let next : 32 - 4 * (i + 1) ≡ 28 - 4 * i = omega arith in
    let before : 28 - 4 * i + 4 ≡ 32 - 4 * i = omega arith in
    rw (next, hex-more i (word / 2 ^ (28 - 4 * i)), shr-shr word (28 - 4 * i) 4, before)

pub first-all : (word i : ℕ) → i ≡ 8 → first_digits word i ≡ hex 8 word
first-all word i e = ap (first_digits word) e ∙ ap (hex 8) (div-one word)

-- ---- a decimal number's

digit_is : (d : ℕ) → d < 10 → 48 + d ≡ hex_digit (d % 16)
unfolding hex_digit
digit_is d h = rw (mod-eq_of_lt {n = d} {m = 16} (omega arith), lt-ltb d 10 h)

-- a number below 10 is one digit
pub decimal_one : (n : ℕ) → n < 10 → decimal n ≡ hex_digit (n % 16) ∷ []
decimal_one n h = decimal-small n h ∙ ap (λ (d : ℕ). d ∷ []) (digit_is n h)

-- of any other the last digit stands behind the others
pub decimal-more : (n : ℕ) → 10 ≤ n → decimal n ≡ decimal (n / 10) ++ (hex_digit (n % 10 % 16) ∷ [])
decimal-more n h = decimal_large n h ∙ ap (λ (d : ℕ). decimal (n / 10) ++ (d ∷ [])) (digit_is (n % 10) (omega arith))
