-- A number in decimal: its digits one by one, and that they read back as the number, so that its fuel is enough; an input
-- within the limit, and that the second record of bytes is bytes.
-- Assumes nothing.
use Prim.Native.Nat.{ℕ, zero, suc, ◌+◌, ◌-◌, ◌*◌, ◌/◌, ◌%◌, ◌≤◌, ◌<◌}
use native.Mathlib.Decide.{dec_lt}
use native.Mathlib.Omega.{arith}
use mathlib.Core.Bool.{Bool, true, false, cond}
use mathlib.Core.List.{List, [], ◌∷◌, ◌++◌}
use mathlib.Core.Path.{◌≡◌, refl, sym, ap, ◌∙◌}
use lib.ListN.{length, take, drop, length-take}
use lib.Seq.{take_all, get_or-take, get_or-drop}
use borrow.Author.Tests.{lt-ltb, le-ltb}
use Rattle.schedule.specs.Fields.{field, Bytes}
use Rattle.schedule.specs.Streams.{input_limit, taken, splits, second_record}
use Rattle.schedule.specs.Lines.{digits, decimal}
use Rattle.laws.proofs.FieldLaws.{byte_lt}

-- a number below 10 is one digit; of any other the last digit stands behind the others
digits-small : (k n : ℕ) → n < 10 → digits (suc k) n ≡ (48 + n) ∷ []
unfolding digits
digits-small k n h = simp (lt-ltb n 10 h)

digits_large : (k n : ℕ) → 10 ≤ n → digits (suc k) n ≡ digits k (n / 10) ++ ((48 + n % 10) ∷ [])
unfolding digits
digits_large k n h = simp (le-ltb n 10 h)

-- more fuel than the number changes nothing
enough : (k j n : ℕ) → n < k → n < j → digits k n ≡ digits j n
enough zero j n h l = absurd (omega arith)
enough (suc k) zero n h l = absurd (omega arith)
enough (suc k) (suc j) n h l = elim (dec_lt n 10) [
  | yes s ↦ digits-small k n s ∙ sym (digits-small j n s)
  | no s ↦ digits_large k n (omega arith)
      ∙ ap (λ (ds : List ℕ). ds ++ ((48 + n % 10) ∷ [])) (enough k j (n / 10) (omega arith) (omega arith))
      ∙ sym (digits_large j n (omega arith))
]

pub decimal-small : (n : ℕ) → n < 10 → decimal n ≡ (48 + n) ∷ []
unfolding decimal
decimal-small n h = digits-small n n h

pub decimal_large : (n : ℕ) → 10 ≤ n → decimal n ≡ decimal (n / 10) ++ ((48 + n % 10) ∷ [])
unfolding decimal
decimal_large n h =
    digits_large n n h
    ∙ ap (λ (ds : List ℕ). ds ++ ((48 + n % 10) ∷ [])) (enough n (suc (n / 10)) (n / 10) (omega arith) (omega arith))

-- the number that decimal digits say, read from the left, after the number that those before them said
unfoldable pub read_on : ℕ → List ℕ → ℕ
read_on v [] = v
read_on v (d ∷ ds) = read_on (v * 10 + (d - 48)) ds

read_last : (v : ℕ) (ds : List ℕ) (d : ℕ) → read_on v (ds ++ (d ∷ [])) ≡ read_on v ds * 10 + (d - 48)
unfolding read_on
read_last v [] d = refl
read_last v (c ∷ ds) d = read_last (v * 10 + (c - 48)) ds d

read_below : (k n : ℕ) → n < k → read_on 0 (decimal n) ≡ n
unfolding read_on
read_below zero n h = absurd (omega arith)
read_below (suc k) n h = elim (dec_lt n 10) [
  | yes s ↦ rw (decimal-small n s) (omega arith)
  | no s ↦
      let l : 10 ≤ n = omega arith in
      ap (read_on 0) (decimal_large n l)
      ∙ read_last 0 (decimal (n / 10)) (48 + n % 10)
      ∙ omega (arith, read_below k (n / 10) (omega arith))
]

-- a number's decimal digits read back as the number
pub decimal_read : (n : ℕ) → read_on 0 (decimal n) ≡ n
decimal_read n = read_below (suc n) n (omega arith)

-- ---- the input

-- "take them as all there is", of an input within the limit
pub taken-whole : (s : List ℕ) → length s ≤ input_limit → taken s ≡ s
unfolding taken
taken-whole s h = take_all input_limit s h

-- the first bytes, and the second record of bytes, are bytes
bytes_take : (n : ℕ) (s : List ℕ) → Bytes s → Bytes (take n s)
bytes_take n s h i l = rw (get_or-take n s i 0 (omega (arith, length-take n s))) (byte_lt s h i)

bytes-second : (s : List ℕ) → Bytes s → Bytes (second_record s)
unfolding second_record
bytes-second s h = by (splits s)
  where
    by : (t : Bool) → Bytes (cond t (drop (field s 0 4) s) [])
    by true = λ i l. rw (get_or-drop (field s 0 4) s i 0) (byte_lt s h (field s 0 4 + i))
    by false = λ i l. absurd (omega arith)

pub second-bytes : (s : List ℕ) → Bytes s → Bytes (second_record (taken s))
unfolding taken
second-bytes s h = bytes-second (taken s) (bytes_take input_limit s h)
