-- Quantifiers, counting, sums, extremes and search over the numbers below a bound, and a word as a set of small numbers.
-- Assumes nothing.
use Rattle.std.specs.Prelude.{ℕ, zero, suc, ◌+◌, ◌-◌, ◌/◌, ◌%◌, ◌^◌, max, min, Bool, true, false, ◌&&◌, ◌||◌, not, cond, List, [], ◌∷◌, ◌++◌, eqb, ltb}
use Rattle.std.proofs.Math.Option.{Option, some, none}

infixr 25 ◌⇒◌
-- if the first test passes, so does the second
abbrev pub ◌⇒◌ : Bool → Bool → Bool
true ⇒ b = b
false ⇒ b = true

-- p holds of every i < n
unfoldable pub all : ℕ → (ℕ → Bool) → Bool
all zero p = true
all (suc n) p = all n p && p n

-- how many i < n have p
unfoldable pub count : ℕ → (ℕ → Bool) → ℕ
count zero p = 0
count (suc n) p = count n p + cond (p n) 1 0

-- the sum of f i over i < n
unfoldable pub total : ℕ → (ℕ → ℕ) → ℕ
total zero f = 0
total (suc n) f = total n f + f n

-- the largest f i over i < n, and 0 where n is 0
unfoldable pub greatest : ℕ → (ℕ → ℕ) → ℕ
greatest zero f = 0
greatest (suc n) f = max (greatest n f) (f n)

-- the smallest f i over i < n, and 0 where n is 0
unfoldable pub least : ℕ → (ℕ → ℕ) → ℕ
least zero f = 0
least (suc zero) f = f 0
least (suc (suc n)) f = min (least (suc n) f) (f (suc n))

-- the lowest i < n with p, and n where there is none
unfoldable pub lowest : ℕ → (ℕ → Bool) → ℕ
lowest zero p = 0
lowest (suc n) p = let i : ℕ = lowest n p in cond (ltb i n) i (cond (p n) n (suc n))

-- the first of f 0, f 1, .. below n that is something
unfoldable pub first {ℓ} : {A : Type ℓ} → ℕ → (ℕ → Option A) → Option A
first zero f = none
first (suc n) f = elim (first n f) [ some x ↦ some x | none ↦ f n ]

-- the list f 0, f 1, .., f (n - 1)
unfoldable pub table : {A : Type 0} → ℕ → (ℕ → A) → List A
table zero f = []
table (suc n) f = table n f ++ (f n ∷ [])

-- a stands in a list
unfoldable pub member : ℕ → List ℕ → Bool
member a [] = false
member a (b ∷ l) = eqb a b || member a l

-- the lists f 0, f 1, .., f (n - 1), one after the other
unfoldable pub chain : ℕ → (ℕ → List ℕ) → List ℕ
chain zero f = []
chain (suc n) f = chain n f ++ f n

-- bit b of a word, worth 2 to the power b
unfoldable pub bit : ℕ → ℕ → Bool
bit w b = eqb (w / 2 ^ b % 2) 1

-- a 32-bit word with bit b set; a bit from 32 on is no bit of the word, and changes nothing
unfoldable pub with_bit : ℕ → ℕ → ℕ
with_bit w b = cond (ltb b 32 && not (bit w b)) (w + 2 ^ b) w

-- and with bit b cleared
unfoldable pub without_bit : ℕ → ℕ → ℕ
without_bit w b = cond (ltb b 32 && bit w b) (w - 2 ^ b) w

-- the word whose bits below n are those b that have p
unfoldable pub word_of : ℕ → (ℕ → Bool) → ℕ
word_of zero p = 0
word_of (suc n) p = word_of n p + cond (p n) (2 ^ n) 0

-- the ones of a 32-bit word, as the sum of its bits
unfoldable pub ones : ℕ → ℕ
ones w = count 32 (bit w)
