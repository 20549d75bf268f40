-- Laws of a word's bits: the bits of the word of a predicate, and that a word is what its bits say.
-- Assumes nothing.
use Prim.Native.Nat.{ℕ, zero, suc, ◌+◌, ◌-◌, ◌*◌, ◌/◌, ◌%◌, ◌^◌, ◌≤◌, ◌<◌}
use native.Mathlib.Nat.{pow-suc, add_comm, zero-mul, one-mul, mod-lt, mod-eq_of_lt, div-eq_of_lt, lt_of_lt_of_le}
use native.Mathlib.Numerals.{one-add}
use native.Mathlib.Omega.{arith}
use mathlib.Core.Bool.{Bool, true, false, cond}
use mathlib.Core.Logic.{⊎_elim}
use mathlib.Core.Path.{◌≡◌, refl, sym, subst, ap, ap₂, ◌∙◌}
use lib.Dec.{T, eqb, eqb→eq}
use lib.Pow.{pow_mono, high, low, mod-pow-add, field, mod-mod-pow}
use Rattle.schedule.specs.Bounded.{count, bit, word_of, ones}
use Rattle.laws.proofs.Tests.{below_suc}
use Rattle.laws.proofs.Counting.{count_stops, weight}

-- a remainder of a remainder, at a lower power
mod_lower : (w n k : ℕ) → k ≤ n → w % 2 ^ n % 2 ^ k ≡ w % 2 ^ k
mod_lower w n k h =
    let e : (n - k) + k ≡ n = omega arith in
    subst (λ (j : ℕ). w % 2 ^ j % 2 ^ k ≡ w % 2 ^ k) e (mod-mod-pow w (n - k) k)

-- a bit is read from the word's remainder at a higher power alone
pub bit-low : (w n b : ℕ) → b < n → bit (w % 2 ^ n) b ≡ bit w b
unfolding bit
bit-low w n b h =
    ap (λ (x : ℕ). eqb x 1)
    (sym (field (w % 2 ^ n) 1 b) ∙ ap (λ (x : ℕ). x / 2 ^ b) (mod_lower w n (1 + b) (omega arith)) ∙ field w 1 b)

-- a word below 2 to the power n has no bit from n on
pub bit_high : (w n b : ℕ) → w < 2 ^ n → n ≤ b → ¬ T (bit w b)
unfolding bit
bit_high w n b h l t =
    let z : w / 2 ^ b ≡ 0 = div-eq_of_lt (lt_of_lt_of_le h (pow_mono l)) in
    let e : w / 2 ^ b % 2 ≡ 1 = eqb→eq (w / 2 ^ b % 2) 1 t in
    omega (arith, z, e)

-- the top bit of a word is worth 2 to its power
top : (w n : ℕ) → cond (bit w n) (2 ^ n) 0 ≡ (w / 2 ^ n % 2 ^ 1) * 2 ^ n
unfolding bit
top w n = one (w / 2 ^ n % 2) (mod-lt (w / 2 ^ n) (omega arith))
  where
    one : (x : ℕ) → x < 2 → cond (eqb x 1) (2 ^ n) 0 ≡ x * 2 ^ n
    one zero h = sym (zero-mul (2 ^ n))
    one (suc zero) h = sym (one-mul (2 ^ n))
    one (suc (suc x)) h = absurd (omega arith)

pub wordOf_ext : (n : ℕ) (p q : ℕ → Bool) → ((i : ℕ) → i < n → p i ≡ q i) → word_of n p ≡ word_of n q
unfolding word_of
wordOf_ext zero p q h = refl
wordOf_ext (suc n) p q h =
    ap₂ ◌+◌ (wordOf_ext n p q (λ i l. h i (omega arith))) (ap (λ (b : Bool). cond b (2 ^ n) 0) (h n (omega arith)))

-- the low bits of a word, put together, are its remainder
wordOf_bits : (w n : ℕ) → word_of n (bit w) ≡ w % 2 ^ n
unfolding word_of
wordOf_bits w zero = omega arith
wordOf_bits w (suc n) =
    ap₂ ◌+◌ (wordOf_bits w n) (top w n)
    ∙ add_comm (w % 2 ^ n) ((w / 2 ^ n % 2 ^ 1) * 2 ^ n)
    ∙ sym (mod-pow-add w 1 n)
    ∙ ap (λ (k : ℕ). w % 2 ^ k) (one-add n)

-- two words with the same bits are the same word
pub word_ext : (n x y : ℕ) → x < 2 ^ n → y < 2 ^ n → ((b : ℕ) → b < n → bit x b ≡ bit y b) → x ≡ y
word_ext n x y hx hy h =
    sym (mod-eq_of_lt hx) ∙ sym (wordOf_bits x n) ∙ wordOf_ext n (bit x) (bit y) h ∙ wordOf_bits y n ∙ mod-eq_of_lt hy

pub wordOf_lt : (n : ℕ) (p : ℕ → Bool) → word_of n p < 2 ^ n
unfolding word_of
wordOf_lt zero p = omega arith
wordOf_lt (suc n) p =
    rw (pow-suc 2 n) (omega (arith, wordOf_lt n p, worth (p n)))
  where
    worth : (b : Bool) → cond b (2 ^ n) 0 ≤ 2 ^ n
    worth true = omega arith
    worth false = omega arith

-- one bit more, on top of the others
wordOf_suc : (n : ℕ) (p : ℕ → Bool) → word_of (suc n) p ≡ weight (p n) * 2 ^ n + word_of n p
unfolding word_of
wordOf_suc n p = add_comm (word_of n p) (cond (p n) (2 ^ n) 0) ∙ ap (λ (x : ℕ). x + word_of n p) (worth (p n))
  where
    worth : (b : Bool) → cond b (2 ^ n) 0 ≡ weight b * 2 ^ n
    worth true = sym (one-mul (2 ^ n))
    worth false = sym (zero-mul (2 ^ n))

-- the bits of the word of a predicate are the predicate
pub bit_wordOf : (n : ℕ) (p : ℕ → Bool) (b : ℕ) → b < n → bit (word_of n p) b ≡ p b
unfolding bit
bit_wordOf zero p b h = absurd (omega arith)
bit_wordOf (suc n) p b h = ⊎_elim (lower (bit_wordOf n p b)) here (below_suc b n h)
  where
    whole : ℕ
    whole = weight (p n) * 2 ^ n + word_of n p

    lower : (b < n → bit (word_of n p) b ≡ p b) → b < n → bit (word_of (suc n) p) b ≡ p b
    lower ih l =
        ap (λ (w : ℕ). bit w b) (wordOf_suc n p)
        ∙ sym (bit-low whole n b l)
        ∙ ap (λ (w : ℕ). bit w b) (low (weight (p n)) n (wordOf_lt n p))
        ∙ ih l

    told : (b : Bool) → eqb (weight b % 2) 1 ≡ b
    told true = refl
    told false = refl

    above : bit whole n ≡ p n
    above = ap (λ (x : ℕ). eqb (x % 2) 1) (high (weight (p n)) n (wordOf_lt n p)) ∙ told (p n)

    here : b ≡ n → bit (word_of (suc n) p) b ≡ p b
    here e =
        subst (λ (i : ℕ). bit (word_of (suc n) p) i ≡ p i) (sym e)
        (ap (λ (w : ℕ). bit w n) (wordOf_suc n p) ∙ above)

-- a word's ones, where it has no bit from n on
pub ones-count : (w n : ℕ) → n ≤ 32 → ((b : ℕ) → b < 32 → n ≤ b → ¬ T (bit w b)) → ones w ≡ count n (bit w)
unfolding ones
ones-count w n h clear = count_stops n 32 (bit w) h (λ b l u. clear b u l)
