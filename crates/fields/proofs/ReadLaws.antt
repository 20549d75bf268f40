-- A field built byte by byte.
-- Assumes nothing.
use Prim.Native.Nat.{ℕ, zero, suc, ◌+◌, ◌-◌, ◌*◌, ◌%◌, ◌^◌, ◌≤◌, ◌<◌}
use native.Mathlib.Nat.{add-zero, add_assoc}
use native.Mathlib.Numerals.{add-one}
use native.Mathlib.Omega.{arith}
use mathlib.Core.List.{List}
use mathlib.Core.Path.{◌≡◌, refl, sym, ap, ◌∙◌}
use lib.Bits.{bit_or, or_shifted}
use lib.ListN.{length, take, get_or, get_or-eq_default}
use lib.Pow.{shl_exact}
use Rattle.std.proofs.lemmas.List.{get_or-take}
use Rattle.schedule.specs.Fields.{field}

-- (v << 8) | b
pub shift_in : (v b : ℕ) → v < 2 ^ 24 → b < 2 ^ 8 → bit_or (v * 2 ^ 8 % 2 ^ 32) b ≡ v * 256 + b
shift_in v b h l = ap (λ (x : ℕ). bit_or x b) (shl_exact 24 8 32 h (omega arith)) ∙ or_shifted v 8 b l

-- no byte
pub field-none : (s : List ℕ) (at : ℕ) → field s at 0 ≡ 0
unfolding field
field-none s at = refl

-- one byte more
pub field_next : (s : List ℕ) (at j : ℕ) → field s at (j + 1) ≡ field s at j * 256 + get_or s (at + j) 0
unfolding field
field_next s at j = ap (λ (i : ℕ). field s at i) (add-one j)

-- a byte past the end
pub get_d_past : (s : List ℕ) (at j : ℕ) → length s - at ≤ j → 0 ≡ get_or s (at + j) 0
get_d_past s at j h = sym (get_or-eq_default s 0 {n = at + j} (omega arith))

-- a field past the end
pub field_past : (s : List ℕ) (at k : ℕ) → length s ≤ at → field s at k ≡ 0
unfolding field
field_past s at zero h = refl
field_past s at (suc k) h = omega (arith, field_past s at k h, get_d_past s at k (omega arith))

-- a field of one byte is the byte
pub field_one : (s : List ℕ) (at : ℕ) → field s at 1 ≡ get_or s at 0
field_one s at = omega (arith, field-none s at, field_next s at 0, ap (λ (i : ℕ). get_or s i 0) (add-zero at))

-- two bytes, put together
pub field-two : (s : List ℕ) (at : ℕ) → get_or s at 0 * 256 + get_or s (at + 1) 0 ≡ field s at 2
field-two s at = omega (arith, field_one s at, field_next s at 1)

-- the same of bytes that stand so far behind a position
pub field-two_at : (s : List ℕ) (at i : ℕ) → get_or s (at + i) 0 * 256 + get_or s (at + (i + 1)) 0 ≡ field s (at + i) 2
field-two_at s at i = rw (← add_assoc at i 1) (field-two s (at + i))

-- and four
pub field-four : (s : List ℕ) (at : ℕ)
    → ((get_or s at 0 * 256 + get_or s (at + 1) 0) * 256 + get_or s (at + 2) 0) * 256 + get_or s (at + 3) 0 ≡ field s at 4
field-four s at = omega (arith, field_one s at, field_next s at 1, field_next s at 2, field_next s at 3)

pub field-four_at : (s : List ℕ) (at i : ℕ)
    → ((get_or s (at + i) 0 * 256 + get_or s (at + (i + 1)) 0) * 256 + get_or s (at + (i + 2)) 0) * 256 + get_or s (at + (i + 3)) 0
    ≡ field s (at + i) 4
field-four_at s at i = rw (← add_assoc at i 1, ← add_assoc at i 2, ← add_assoc at i 3) (field-four s (at + i))

-- ---- a field of what stands behind a position

-- an element of a list's first n
pub first_at : (n i : ℕ) (m : List ℕ) {l : List ℕ} → l ≡ take n m → i < n → get_or l i 0 ≡ get_or m i 0
first_at n i m same k = ap (λ (x : List ℕ). get_or x i 0) same ∙ get_or-take n m i 0 k

module _ (s rest : List ℕ) (at : ℕ) (behind : (j : ℕ) → get_or rest j 0 ≡ get_or s (at + j) 0) where
  pub two_behind : {a b : ℕ} → a ≡ get_or rest 0 0 → b ≡ get_or rest 1 0 → a * 256 + b ≡ field s at 2
  two_behind p q = omega (arith, p, q, behind 0, behind 1, field-none s at, field_next s at 0, field_next s at 1)

  pub four_behind : {a b c d : ℕ} → a ≡ get_or rest 0 0 → b ≡ get_or rest 1 0 → c ≡ get_or rest 2 0 → d ≡ get_or rest 3 0
      → ((a * 256 + b) * 256 + c) * 256 + d ≡ field s at 4
  four_behind p q r t =
      omega (
        arith,
        p,
        q,
        r,
        t,
        behind 0,
        behind 1,
        behind 2,
        behind 3,
        field-none s at,
        field_next s at 0,
        field_next s at 1,
        field_next s at 2,
        field_next s at 3,
      )
