-- Fields of k bytes: their bounds, that a field determines its bytes, and that what is written is read back; then the
-- same of rows of w bytes. The size is a variable throughout.
-- Assumes nothing.
use Prim.Native.Nat.{ℕ, zero, suc, ◌+◌, ◌-◌, ◌*◌, ◌/◌, ◌%◌, ◌^◌, ◌≤◌, ◌<◌}
use native.Mathlib.Decide.{dec_lt}
use native.Mathlib.Nat.{add_assoc, mul-zero, mul-suc, mul-le-mul_left, pow-zero, pow-suc}
use native.Mathlib.Omega.{arith}
use mathlib.Core.List.{List, [], ◌∷◌, ◌++◌}
use mathlib.Core.Path.{◌≡◌, refl, sym, ap, ap₂, ◌∙◌}
use lib.ListN.{length, get_or, take, drop, length-append, get_or-append, get_or-eq_default}
use lib.Seq.{get_or-append-add, get_or_at, get_or-take, get_or-drop}
use Rattle.schedule.specs.Bounded.{chain}
use Rattle.schedule.specs.Fields.{field, bytes, Bytes}
use Rattle.laws.proofs.Tests.{up_to}

-- ---- strings of bytes

-- a byte past the end counts as 0, so each is below 256
pub byte_lt : (s : List ℕ) → Bytes s → (i : ℕ) → get_or s i 0 < 256
byte_lt s h i =
    elim (dec_lt i (length s)) [ yes l ↦ h i l | no l ↦ omega (arith, get_or-eq_default s 0 {n = i} (omega arith)) ]

-- element i of two lists put together, behind the seam
pub getD_behind : (s t : List ℕ) (i j : ℕ) → j ≡ length s + i → get_or (s ++ t) j 0 ≡ get_or t i 0
getD_behind s t i j e = rw e (get_or-append-add s t i 0)

pub bytes_append : (s t : List ℕ) → Bytes s → Bytes t → Bytes (s ++ t)
bytes_append s t h k i l =
    elim (dec_lt i (length s)) [
      | yes b ↦ rw (get_or-append s t 0 i b) (h i b)
      | no b ↦ rw (getD_behind s t (i - length s) i (omega arith)) (byte_lt t k (i - length s))
    ]

-- ---- a field read

pub field_lt : (s : List ℕ) → Bytes s → (at k : ℕ) → field s at k < 256 ^ k
unfolding field
field_lt s h at zero = rw pow-zero (omega arith)
field_lt s h at (suc k) = rw pow-suc (omega (arith, field_lt s h at k, byte_lt s h (at + k)))

-- a field of the part behind the first j
pub field-drop : (j : ℕ) (s : List ℕ) (at k : ℕ) → field (drop j s) at k ≡ field s (j + at) k
unfolding field
field-drop j s at zero = refl
field-drop j s at (suc k) =
    ap₂ (λ (v b : ℕ). v * 256 + b) (field-drop j s at k)
    (get_or-drop j s (at + k) 0 ∙ ap (λ (i : ℕ). get_or s i 0) (sym (add_assoc j at k)))

-- a field of the first n
pub field-take : (n : ℕ) (s : List ℕ) (at k : ℕ) → at + k ≤ n → field (take n s) at k ≡ field s at k
unfolding field
field-take n s at zero l = refl
field-take n s at (suc k) l =
    ap₂ (λ (v b : ℕ). v * 256 + b) (field-take n s at k (omega (arith, l))) (get_or-take n s (at + k) 0 (omega (arith, l)))

-- equal fields have equal bytes
pub field_injective : (s s' : List ℕ) → Bytes s → Bytes s' → (at at' k : ℕ) → field s at k ≡ field s' at' k
    → (i : ℕ) → i < k → get_or s (at + i) 0 ≡ get_or s' (at' + i) 0
unfolding field
field_injective s s' h h' at at' zero e = λ i l. absurd (omega arith)
field_injective s s' h h' at at' (suc k) e =
    up_to (λ i. get_or s (at + i) 0 ≡ get_or s' (at' + i) 0) k
    (field_injective s s' h h' at at' k (omega (arith, byte_lt s h (at + k), byte_lt s' h' (at' + k))))
    (omega (arith, byte_lt s h (at + k), byte_lt s' h' (at' + k)))

-- ---- a field written

pub length-bytes : (k v : ℕ) → length (bytes k v) ≡ k
unfolding bytes
length-bytes zero v = refl
length-bytes (suc k) v = simp length-append (omega (arith, length-bytes k (v / 256)))

pub bytes-bytes : (k v : ℕ) → Bytes (bytes k v)
unfolding bytes
bytes-bytes zero v = λ i l. absurd (omega arith)
bytes-bytes (suc k) v = bytes_append (bytes k (v / 256)) (v % 256 ∷ []) (bytes-bytes k (v / 256)) last
  where
    last : Bytes (v % 256 ∷ [])
    last zero l = omega arith
    last (suc i) l = omega arith

-- what is written is read back
pub field-bytes : (s : List ℕ) (at k v : ℕ) → ((i : ℕ) → i < k → get_or s (at + i) 0 ≡ get_or (bytes k v) i 0)
    → v < 256 ^ k → field s at k ≡ v
unfolding field bytes
field-bytes s at zero v h l = omega (arith, rw pow-zero at l)
field-bytes s at (suc k) v h l =
    omega (
      arith,
      field-bytes s at k (v / 256) (λ i b. h i (omega arith) ∙ front i b) (omega (arith, rw pow-suc at l)),
      h k (omega arith) ∙ get_or_at (bytes k (v / 256)) (v % 256) [] 0 k (length-bytes k (v / 256)),
    )
  where
    front : (i : ℕ) → i < k → get_or (bytes k (v / 256) ++ (v % 256 ∷ [])) i 0 ≡ get_or (bytes k (v / 256)) i 0
    front i b = get_or-append (bytes k (v / 256)) (v % 256 ∷ []) 0 i (omega (arith, length-bytes k (v / 256)))

-- ---- rows

-- a place in row j < n of rows of w is below w * n
pub row_lt : (w n j i : ℕ) → j < n → i < w → w * j + i < w * n
row_lt w n j i h l = omega (arith, mul-suc w j, mul-le-mul_left w h)

pub length-chain : (w n : ℕ) (f : ℕ → List ℕ) → ((j : ℕ) → j < n → length (f j) ≡ w) → length (chain n f) ≡ w * n
unfolding chain
length-chain w zero f h = sym (mul-zero w)
length-chain w (suc n) f h =
    simp length-append
    (omega (arith, length-chain w n f (λ j l. h j (omega arith)), h n (omega arith), mul-suc w n))

pub getD_chain : (w n : ℕ) (f : ℕ → List ℕ) → ((j : ℕ) → j < n → length (f j) ≡ w)
    → (j : ℕ) → j < n → (i : ℕ) → i < w → get_or (chain n f) (w * j + i) 0 ≡ get_or (f j) i 0
unfolding chain
getD_chain w zero f h = λ j l i b. absurd (omega arith)
getD_chain w (suc n) f h =
    let full = length-chain w n f (λ j l. h j (omega arith)) in
    let before = getD_chain w n f (λ j l. h j (omega arith)) in
    up_to (λ j. (i : ℕ) → i < w → get_or (chain n f ++ f n) (w * j + i) 0 ≡ get_or (f j) i 0) n
    (λ j l i b. get_or-append (chain n f) (f n) 0 (w * j + i) (omega (arith, row_lt w n j i l b)) ∙ before j l i b)
    (λ i b. getD_behind (chain n f) (f n) i (w * n + i) (omega arith))

pub chain_ext : (n : ℕ) (f g : ℕ → List ℕ) → ((j : ℕ) → j < n → f j ≡ g j) → chain n f ≡ chain n g
unfolding chain
chain_ext zero f g h = refl
chain_ext (suc n) f g h = ap₂ ◌++◌ (chain_ext n f g (λ j l. h j (omega arith))) (h n (omega arith))

pub bytes-chain : (n : ℕ) (f : ℕ → List ℕ) → ((j : ℕ) → j < n → Bytes (f j)) → Bytes (chain n f)
unfolding chain
bytes-chain zero f h = λ i l. absurd (omega arith)
bytes-chain (suc n) f h = bytes_append (chain n f) (f n) (bytes-chain n f (λ j l. h j (omega arith))) (h n (omega arith))
