-- Where a part stands in a string of bytes, and where two strings are alike: what a record's fields and rows say of its
-- bytes, from one field or row to the next. Sizes and positions are variables throughout.
-- Assumes nothing.
use Prim.Native.Nat.{ℕ, zero, suc, ◌+◌, ◌-◌, ◌*◌, ◌^◌, ◌≤◌, ◌<◌}
use native.Mathlib.Decide.{dec_lt}
use native.Mathlib.Nat.{zero-add, add_assoc, add-sub_of_le, mul-zero, mul-suc}
use native.Mathlib.Omega.{arith}
use mathlib.Core.List.{List, ◌++◌}
use mathlib.Core.Path.{◌≡◌, ◌∙◌}
use lib.ListN.{length, get_or, length-append, get_or-append}
use Rattle.schedule.specs.Bounded.{chain}
use Rattle.schedule.specs.Fields.{field, bytes, Bytes}
use Rattle.laws.proofs.FieldLaws.{field_injective, length-bytes, field-bytes, getD_behind}
use Rattle.laws.proofs.FieldLaws.{row_lt, length-chain, getD_chain}

-- ---- the list b stands in s from position at

abbrev pub Stands : List ℕ → ℕ → List ℕ → Type 0
Stands s at b = (i : ℕ) → i < length b → get_or s (at + i) 0 ≡ get_or b i 0

pub stands-whole : (s : List ℕ) → Stands s 0 s
stands-whole s i l = rw zero-add

module _ (s : List ℕ) (at : ℕ) (b c : List ℕ) (h : Stands s at (b ++ c)) where
  pub stands-first : Stands s at b
  stands-first i l = h i (omega (arith, length-append b c)) ∙ get_or-append b c 0 i l

  pub stands-second : (k : ℕ) → length b ≡ k → Stands s (at + k) c
  stands-second k e i l =
      rw add_assoc (h (k + i) (omega (arith, length-append b c)) ∙ getD_behind b c i (k + i) (omega arith))

-- the field at the front of what stands there, and what stands behind it
pub stands-field : (s : List ℕ) (at k v : ℕ) → Stands s at (bytes k v) → v < 256 ^ k → field s at k ≡ v
stands-field s at k v h = field-bytes s at k v (λ i l. h i (omega (arith, length-bytes k v)))

pub stands_next : (s : List ℕ) (at k v : ℕ) (c : List ℕ) → Stands s at (bytes k v ++ c) → v < 256 ^ k
    → (field s at k ≡ v) × Stands s (at + k) c
stands_next s at k v c h l =
    let b : List ℕ = bytes k v in
    (stands-field s at k v (stands-first s at b c h) l, stands-second s at b c h k (length-bytes k v))

-- row j of the rows of w that stand there
pub stands-row : (s : List ℕ) (at w n : ℕ) (f : ℕ → List ℕ) → ((j : ℕ) → j < n → length (f j) ≡ w)
    → Stands s at (chain n f) → (j : ℕ) → j < n → Stands s (at + w * j) (f j)
stands-row s at w n f e h j l i b =
    let small : i < w = omega (arith, e j l) in
    rw add_assoc
    (h (w * j + i) (omega (arith, row_lt w n j i l small, length-chain w n f e)) ∙ getD_chain w n f e j l i small)

-- ---- two lists are alike from one position up to another

abbrev pub Alike : List ℕ → List ℕ → ℕ → ℕ → Type 0
Alike s s' from to = (i : ℕ) → from ≤ i → i < to → get_or s i 0 ≡ get_or s' i 0

module _ (s s' : List ℕ) where
  pub alike_join : (a b c : ℕ) → Alike s s' a b → Alike s s' b c → Alike s s' a c
  alike_join a b c h k i l u = elim (dec_lt i b) [ yes x ↦ h i l x | no x ↦ k i (omega arith) u ]

  pub alike_field : Bytes s → Bytes s' → (at k : ℕ) → field s at k ≡ field s' at k → Alike s s' at (at + k)
  alike_field h h' at k e i l u =
      rw add-sub_of_le at (field_injective s s' h h' at at k e (i - at) (omega arith))

  pub alike_rows : (at w n : ℕ) → ((j : ℕ) → j < n → Alike s s' (at + w * j) (at + w * j + w))
      → Alike s s' at (at + w * n)
  alike_rows at w zero h = λ i l u. absurd (omega (arith, mul-zero w))
  alike_rows at w (suc n) h =
      alike_join at (at + w * n) (at + w * suc n) (alike_rows at w n (λ j l. h j (omega arith)))
      (λ i l u. h n (omega arith) i l (omega (arith, mul-suc w n)))
