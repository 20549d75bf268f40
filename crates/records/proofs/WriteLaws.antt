-- A plan's bytes written piece by piece, each whole or not at all.
-- Assumes nothing.
use Prim.Native.Nat.{ℕ, ◌+◌, ◌≤◌, ◌<◌}
use native.Mathlib.Numerals.{add-one}
use native.Mathlib.Omega.{arith}
use mathlib.Core.List.{List, ◌++◌, append_assoc}
use mathlib.Core.Path.{◌≡◌, sym, ap, ap₂, ◌∙◌}
use lib.ListN.{length, length-append}
use Rattle.schedule.specs.Bounded.{chain}
use Rattle.schedule.specs.Fields.{bytes, pair, pair_row}
use Rattle.schedule.specs.Plan.{plan_length, tick_at, pair_rows}
use Rattle.laws.proofs.FieldLaws.{length-bytes, chain_ext}
use Rattle.laws.proofs.PlanBytes.{length-pair, length_pairs}
use Rattle.fields.specs.Put.{put}
use Rattle.fields.proofs.PutLaws.{put_nil, put_out, put-after}
use Rattle.records.specs.Writes.{head_bytes}

-- bytes at a place that was told
pub put_at : (at told : ℕ) (b l out : List ℕ) → out ≡ put at b l → at ≡ told → out ≡ put told b l
put_at at told b l out e same = e ∙ ap (λ (i : ℕ). put i b l) same

-- ---- a row

-- two fields of 2 bytes
pub pair-says : (at x y : ℕ) (l l₁ l₂ : List ℕ) → at + 4 ≤ length l
    → l₁ ≡ put at (bytes 2 x) l → l₂ ≡ put (at + 2) (bytes 2 y) l₁ → l₂ ≡ put at (pair x y) l
pair-says at x y l l₁ l₂ h p q =
    put-after at (at + 2) (bytes 2 x) (bytes 2 y) l l₁ l₂ (omega (arith, length-bytes 2 x))
    (omega (arith, length-bytes 2 y)) p q

pub pair_out : (at x y : ℕ) (l : List ℕ) → length l < at + 4 → l ≡ put at (pair x y) l
pair_out at x y l h = sym (put_out at (pair x y) l (omega (arith, length-pair x y)))

-- ---- the header

pub length-head : (n m h : ℕ) → length (head_bytes n m h) ≡ 9
unfolding head_bytes
length-head n m h = simp (length-append, length-bytes)

pub head_out : (n m h : ℕ) (l : List ℕ) → length l < 9 → l ≡ put 0 (head_bytes n m h) l
head_out n m h l k = sym (put_out 0 (head_bytes n m h) l (omega (arith, length-head n m h)))

-- its five fields
pub head-says : (n m h len : ℕ) (l l₁ l₂ l₃ l₄ l₅ : List ℕ) → 9 ≤ length l → len ≡ plan_length n m h
    → l₁ ≡ put 0 (bytes 4 len) l → l₂ ≡ put 4 (bytes 1 1) l₁ → l₃ ≡ put 5 (bytes 1 n) l₂ → l₄ ≡ put 6 (bytes 1 m) l₃
    → l₅ ≡ put 7 (bytes 2 h) l₄ → l₅ ≡ put 0 (head_bytes n m h) l
unfolding head_bytes
head-says n m h len l l₁ l₂ l₃ l₄ l₅ room el p₁ p₂ p₃ p₄ p₅ =
    all ∙ ap (λ (b : List ℕ). put 0 b l) (simp append_assoc)
  where
    b₁ : List ℕ
    b₁ = bytes 4 (plan_length n m h)

    b₂ : List ℕ
    b₂ = b₁ ++ bytes 1 1

    b₃ : List ℕ
    b₃ = b₂ ++ bytes 1 n

    b₄ : List ℕ
    b₄ = b₃ ++ bytes 1 m

    e₁ : length b₁ ≡ 4
    e₁ = length-bytes 4 (plan_length n m h)

    e₂ : length b₂ ≡ 5
    e₂ = omega (arith, e₁, length-append b₁ (bytes 1 1), length-bytes 1 1)

    e₃ : length b₃ ≡ 6
    e₃ = omega (arith, e₂, length-append b₂ (bytes 1 n), length-bytes 1 n)

    e₄ : length b₄ ≡ 7
    e₄ = omega (arith, e₃, length-append b₃ (bytes 1 m), length-bytes 1 m)

    q₁ : l₁ ≡ put 0 b₁ l
    q₁ = p₁ ∙ ap (λ (k : ℕ). put 0 (bytes 4 k) l) el

    q₂ : l₂ ≡ put 0 b₂ l
    q₂ = put-after 0 4 b₁ (bytes 1 1) l l₁ l₂ (omega (arith, e₁)) (omega (arith, length-bytes 1 1)) q₁ p₂

    q₃ : l₃ ≡ put 0 b₃ l
    q₃ = put-after 0 5 b₂ (bytes 1 n) l l₂ l₃ (omega (arith, e₂)) (omega (arith, length-bytes 1 n)) q₂ p₃

    q₄ : l₄ ≡ put 0 b₄ l
    q₄ = put-after 0 6 b₃ (bytes 1 m) l l₃ l₄ (omega (arith, e₃)) (omega (arith, length-bytes 1 m)) q₃ p₄

    all : l₅ ≡ put 0 (b₄ ++ bytes 2 h) l
    all = put-after 0 7 b₄ (bytes 2 h) l l₄ l₅ (omega (arith, e₄)) (omega (arith, length-bytes 2 h)) q₄ p₅

-- ---- rows, one behind the other: for a loop that writes them

pub pairs_start : (at : ℕ) (f g : ℕ → ℕ) (l : List ℕ) → l ≡ put at (pair_rows 0 f g) l
unfolding chain
pairs_start at f g l = sym (put_nil at l)

pub pairs_next : (at j x y : ℕ) (f g : ℕ → ℕ) (l l₁ l₂ : List ℕ) → pair_row at j + 4 ≤ length l → x ≡ f j → y ≡ g j
    → l₁ ≡ put at (pair_rows j f g) l → l₂ ≡ put (pair_row at j) (pair x y) l₁ → l₂ ≡ put at (pair_rows (j + 1) f g) l
unfolding chain
pairs_next at j x y f g l l₁ l₂ h ex ey p q =
    put-after at (pair_row at j) (pair_rows j f g) (pair (f j) (g j)) l l₁ l₂ (omega (arith, length_pairs j f g))
    (omega (arith, length-pair (f j) (g j))) p (q ∙ ap₂ (λ (x y : ℕ). put (pair_row at j) (pair x y) l₁) ex ey)
    ∙ ap (λ (k : ℕ). put at (pair_rows k f g) l) (sym (add-one j))

pub pairs_ext : (n : ℕ) (f g f' g' : ℕ → ℕ) → ((j : ℕ) → j < n → f j ≡ f' j) → ((j : ℕ) → j < n → g j ≡ g' j)
    → pair_rows n f g ≡ pair_rows n f' g'
pairs_ext n f g f' g' h k = chain_ext n _ _ (λ j l. ap₂ pair (h j l) (k j l))

-- ---- a grid's word

-- a tick with no whole word in the grid
pub word_out : (t w : ℕ) (g : List ℕ) → length g < tick_at t + 4 → g ≡ put (tick_at t) (bytes 4 w) g
word_out t w g h = sym (put_out (tick_at t) (bytes 4 w) g (omega (arith, length-bytes 4 w)))
