-- & | ! on words, bit by bit; a word with one bit set or cleared; its ones, its lowest bit and the words of low bits.
-- The width is a variable n wherever it matters.
-- Assumes nothing.
use Prim.Native.Nat.{ℕ, zero, suc, ◌+◌, ◌-◌, ◌*◌, ◌/◌, ◌%◌, ◌^◌, ◌≤◌, ◌<◌}
use native.Mathlib.Decide.{dec_lt}
use native.Mathlib.Nat.{pow-suc, one-mul, zero-mul, mod-lt, mod-eq_of_lt, lt_of_le_of_lt}
use native.Mathlib.Numerals.{add-one, one-add}
use native.Mathlib.Omega.{arith}
use mathlib.Core.Bool.{Bool, true, false, ◌&&◌, ◌||◌, not, cond}
use mathlib.Core.Logic.{◌↔◌}
use mathlib.Core.Path.{◌≡◌, refl, sym, subst, ap, ap₂, ◌∙◌}
use lib.Bits.{bit_and, bit_or, and_shr, or_shr, and_mod, or_mod, and_high, and_mask, and_lt, and_le_l, or_lt, or_add_and, or_disjoint}
use lib.Count as digits
use lib.Count.{ones_cat, ones-ones, count_trailing_zeros, under}
use lib.Dec.{T, eqb, ltb, eqb→eq}
use lib.Pow.{pow_pos, pow-lt, pow-add, ones_sub-lt, shl_exact, shl-shr, shr-shr, mod-pow-add}
use borrow.Author.Tests.{lt-ltb, le-ltb, eq-eqb, ne_eqb}
use Rattle.schedule.specs.Bounded.{bit, count, lowest, ones, word_of}
use Rattle.laws.proofs.Counting.{T_false, count-suc, count-zero, weight}
use Rattle.laws.proofs.Lowest.{Lowest, lowest-same}
use Rattle.laws.proofs.Words.{bit_high, bit_wordOf, word_ext, wordOf_lt}
use Rattle.schedule.specs.Bounded.{with_bit, without_bit}

bit_digit : (w b : ℕ) → bit w b ≡ eqb (w / 2 ^ b % 2) 1
unfolding bit
bit_digit w b = refl

-- ---- & and |, at every bit

-- an operation that goes digit by digit, and does to one digit what g does to a bit
by_digit : (f : ℕ → ℕ → ℕ) (g : Bool → Bool → Bool)
    → ((x y k : ℕ) → f x y / 2 ^ k ≡ f (x / 2 ^ k) (y / 2 ^ k))
    → ((x y k : ℕ) → f x y % 2 ^ k ≡ f (x % 2 ^ k) (y % 2 ^ k))
    → eqb (f 0 0) 1 ≡ g false false → eqb (f 0 1) 1 ≡ g false true
    → eqb (f 1 0) 1 ≡ g true false → eqb (f 1 1) 1 ≡ g true true
    → (x y b : ℕ) → bit (f x y) b ≡ g (bit x b) (bit y b)
unfolding bit
by_digit f g shifts cuts e00 e01 e10 e11 x y b =
    ap (λ (z : ℕ). eqb (z % 2) 1) (shifts x y b)
    ∙ ap (λ (z : ℕ). eqb z 1) (cuts (x / 2 ^ b) (y / 2 ^ b) 1)
    ∙ one (x / 2 ^ b % 2) (y / 2 ^ b % 2) (mod-lt (x / 2 ^ b) (omega arith)) (mod-lt (y / 2 ^ b) (omega arith))
  where
    one : (x y : ℕ) → x < 2 → y < 2 → eqb (f x y) 1 ≡ g (eqb x 1) (eqb y 1)
    one zero zero h k = e00
    one zero (suc zero) h k = e01
    one zero (suc (suc y)) h k = absurd (omega arith)
    one (suc zero) zero h k = e10
    one (suc zero) (suc zero) h k = e11
    one (suc zero) (suc (suc y)) h k = absurd (omega arith)
    one (suc (suc x)) y h k = absurd (omega arith)

pub bit-bit_and : (x y b : ℕ) → bit (bit_and x y) b ≡ (bit x b && bit y b)
bit-bit_and = by_digit bit_and ◌&&◌ and_shr and_mod refl refl refl refl

pub bit-bit_or : (x y b : ℕ) → bit (bit_or x y) b ≡ (bit x b || bit y b)
bit-bit_or = by_digit bit_or ◌||◌ or_shr or_mod refl refl refl refl

-- ---- a word by its bits, and !

-- a word is the word of its bits
pub wordOf_bits : (n x : ℕ) → x < 2 ^ n → word_of n (bit x) ≡ x
wordOf_bits n x h = word_ext n (word_of n (bit x)) x (wordOf_lt n (bit x)) h (λ b l. bit_wordOf n (bit x) b l)

wordOf_not : (n : ℕ) (p : ℕ → Bool) → word_of n (λ b. not (p b)) + word_of n p ≡ 2 ^ n - 1
unfolding word_of
wordOf_not zero p = refl
wordOf_not (suc n) p = omega (arith, wordOf_not n p, one (p n), pow-suc 2 n, pow_pos n)
  where
    one : (b : Bool) → cond (not b) (2 ^ n) 0 + cond b (2 ^ n) 0 ≡ 2 ^ n
    one true = omega arith
    one false = omega arith

-- !x of a word of n bits is (2 ^ n - 1) - x
pub bit_not : (n x b : ℕ) → x < 2 ^ n → b < n → bit ((2 ^ n - 1) - x) b ≡ not (bit x b)
bit_not n x b h l =
    let other : ℕ → Bool = λ c. not (bit x c) in
    let e : (2 ^ n - 1) - x ≡ word_of n other = omega (arith, wordOf_not n (bit x), wordOf_bits n x h) in
    ap (λ (w : ℕ). bit w b) e ∙ bit_wordOf n other b l

pub bit-zero : (b : ℕ) → bit 0 b ≡ false
bit-zero b = T_false (bit 0 b) (bit_high 0 0 b (omega arith) (omega arith))

-- a word is 0 exactly when it has no bit
pub zero_bits : (n x : ℕ) → x < 2 ^ n → (x ≡ 0) ↔ ((b : ℕ) → b < n → bit x b ≡ false)
zero_bits n x h =
    (λ e b l. ap (λ (w : ℕ). bit w b) e ∙ bit-zero b, λ f. word_ext n x 0 h (pow_pos n) (λ b l. f b l ∙ sym (bit-zero b)))

-- the word of nothing
pub word_none : (n : ℕ) (p : ℕ → Bool) → ((b : ℕ) → b < n → p b ≡ false) → word_of n p ≡ 0
word_none n p h = (zero_bits n (word_of n p) (wordOf_lt n p)).1 (λ b l. bit_wordOf n p b l ∙ h b l)

-- what two words share
pub and_words : (n k : ℕ) (p q : ℕ → Bool) → n ≤ k → bit_and (word_of n p) (word_of k q) ≡ word_of n (λ b. p b && q b)
and_words n k p q h =
    word_ext n (bit_and (word_of n p) (word_of k q)) (word_of n (λ b. p b && q b))
    (lt_of_le_of_lt (and_le_l (word_of n p) (word_of k q)) (wordOf_lt n p)) (wordOf_lt n (λ b. p b && q b))
    (λ b l. bit-bit_and (word_of n p) (word_of k q) b
    ∙ ap₂ ◌&&◌ (bit_wordOf n p b l) (bit_wordOf k q b (omega arith))
    ∙ sym (bit_wordOf n (λ b. p b && q b) b l))

-- ---- a word of one bit

pub bit_pow : (b c : ℕ) → bit (2 ^ b) c ≡ eqb c b
unfolding bit
bit_pow b c =
    elim (dec_lt b c) [
      | yes l ↦ T_false (bit (2 ^ b) c) (bit_high (2 ^ b) c c (pow-lt l) (omega arith)) ∙ sym (ne_eqb c b (omega arith))
      | no l ↦ elim (dec_lt c b) [
        | yes k ↦
            ap (λ (z : ℕ). eqb (z % 2) 1) (shifted (omega arith) ∙ twice (b - c) (omega arith))
            ∙ even (2 ^ (b - c - 1))
            ∙ sym (ne_eqb c b (omega arith))
        | no k ↦
            let e : c ≡ b = omega arith in
            let z : b - c ≡ 0 = omega arith in
            ap (λ (z : ℕ). eqb (z % 2) 1) (shifted (omega arith) ∙ ap (λ (k : ℕ). 2 ^ k) z) ∙ sym (eq-eqb c b e)
      ]
    ]
  where
    shifted : c ≤ b → 2 ^ b / 2 ^ c ≡ 2 ^ (b - c)
    shifted h =
        let e : b ≡ (b - c) + c = omega arith in
        ap (λ (k : ℕ). 2 ^ k / 2 ^ c) e ∙ ap (λ (k : ℕ). k / 2 ^ c) (pow-add 2 (b - c) c) ∙ shl-shr (2 ^ (b - c)) c

    twice : (k : ℕ) → 0 < k → 2 ^ k ≡ 2 * 2 ^ (k - 1)
    twice k h =
        let e : k ≡ 1 + (k - 1) = omega arith in
        ap (λ (i : ℕ). 2 ^ i) e ∙ pow-add 2 1 (k - 1)

    even : (x : ℕ) → eqb (2 * x % 2) 1 ≡ false
    even x = ne_eqb (2 * x % 2) 1 (omega arith)

-- a word's & with one bit
and_pow : (w b : ℕ) → bit_and w (2 ^ b) ≡ cond (bit w b) (2 ^ b) 0
unfolding bit
and_pow w b =
    let e : 2 ^ (1 + b) - 2 ^ b ≡ 2 ^ b = omega (arith, pow-add 2 1 b) in
    ap (λ (x : ℕ). bit_and w x) (sym e) ∙ and_high w 1 b ∙ one (w / 2 ^ b % 2) (mod-lt (w / 2 ^ b) (omega arith))
  where
    one : (x : ℕ) → x < 2 → x * 2 ^ b ≡ cond (eqb x 1) (2 ^ b) 0
    one zero h = zero-mul (2 ^ b)
    one (suc zero) h = one-mul (2 ^ b)
    one (suc (suc x)) h = absurd (omega arith)

-- a word's | with one bit
pub with_or : (w b : ℕ) → b < 32 → with_bit w b ≡ bit_or w (2 ^ b)
unfolding with_bit
with_or w b h =
    rw (lt-ltb b 32 h)
    (one (bit w b) (bit_or w (2 ^ b))
    (ap (λ (x : ℕ). bit_or w (2 ^ b) + x) (sym (and_pow w b)) ∙ or_add_and w (2 ^ b)))
  where
    one : (t : Bool) (x : ℕ) → x + cond t (2 ^ b) 0 ≡ w + 2 ^ b → cond (not t) (w + 2 ^ b) w ≡ x
    one true x e = omega arith
    one false x e = omega arith

pub with_high : (w b : ℕ) → 32 ≤ b → with_bit w b ≡ w
unfolding with_bit
with_high w b h = rw (le-ltb b 32 h)

pub bit_with : (w b x : ℕ) → b < 32 → bit (with_bit w b) x ≡ (bit w x || eqb x b)
bit_with w b x h =
    ap (λ (v : ℕ). bit v x) (with_or w b h)
    ∙ bit-bit_or w (2 ^ b) x
    ∙ ap (λ (t : Bool). bit w x || t) (bit_pow b x)

pub with_lt : (w b : ℕ) → w < 2 ^ 32 → with_bit w b < 2 ^ 32
with_lt w b fits =
    elim (dec_lt b 32) [
      | yes l ↦ rw (with_or w b l) (or_lt 32 w (2 ^ b) fits (pow-lt l))
      | no l ↦ rw (with_high w b (omega arith)) fits
    ]

-- a word is its part in m and its part outside
and_parts : (n w m : ℕ) → w < 2 ^ n → m < 2 ^ n → bit_and w m + bit_and w ((2 ^ n - 1) - m) ≡ w
and_parts n w m hw hm = sym (or_disjoint a b apart) ∙ whole
  where
    a : ℕ
    a = bit_and w m

    b : ℕ
    b = bit_and w ((2 ^ n - 1) - m)

    a_lt : a < 2 ^ n
    a_lt = and_lt n w m hw hm

    b_lt : b < 2 ^ n
    b_lt = and_lt n w ((2 ^ n - 1) - m) hw (ones_sub-lt n m)

    bit_b : (c : ℕ) → c < n → bit b c ≡ (bit w c && not (bit m c))
    bit_b c l = bit-bit_and w ((2 ^ n - 1) - m) c ∙ ap (λ (t : Bool). bit w c && t) (bit_not n m c hm l)

    never : (s t : Bool) → ((s && t) && (s && not t)) ≡ false
    never true true = refl
    never true false = refl
    never false t = refl

    apart : bit_and a b ≡ 0
    apart =
        (zero_bits n (bit_and a b) (and_lt n a b a_lt b_lt)).1
        (λ c l. bit-bit_and a b c ∙ ap₂ ◌&&◌ (bit-bit_and w m c) (bit_b c l) ∙ never (bit w c) (bit m c))

    both : (s t : Bool) → ((s && t) || (s && not t)) ≡ s
    both true true = refl
    both true false = refl
    both false t = refl

    whole : bit_or a b ≡ w
    whole =
        word_ext n (bit_or a b) w (or_lt n a b a_lt b_lt) hw
        (λ c l. bit-bit_or a b c ∙ ap₂ ◌||◌ (bit-bit_and w m c) (bit_b c l) ∙ both (bit w c) (bit m c))

-- a word's & with all bits but one
pub without_and : (w b : ℕ) → w < 2 ^ 32 → b < 32 → without_bit w b ≡ bit_and w ((2 ^ 32 - 1) - 2 ^ b)
unfolding without_bit
without_and w b hw h =
    rw (lt-ltb b 32 h)
    (one (bit w b) (bit_and w ((2 ^ 32 - 1) - 2 ^ b))
    (ap (λ (x : ℕ). x + bit_and w ((2 ^ 32 - 1) - 2 ^ b)) (sym (and_pow w b)) ∙ and_parts 32 w (2 ^ b) hw (pow-lt h)))
  where
    one : (t : Bool) (x : ℕ) → cond t (2 ^ b) 0 + x ≡ w → cond t (w - 2 ^ b) w ≡ x
    one true x e = omega arith
    one false x e = omega arith

pub without-high : (w b : ℕ) → 32 ≤ b → without_bit w b ≡ w
unfolding without_bit
without-high w b h = rw (le-ltb b 32 h)

pub bit-without : (w b c : ℕ) → w < 2 ^ 32 → b < 32 → c < 32 → bit (without_bit w b) c ≡ (bit w c && not (eqb c b))
bit-without w b c hw h l =
    ap (λ (x : ℕ). bit x c) (without_and w b hw h)
    ∙ bit-bit_and w ((2 ^ 32 - 1) - 2 ^ b) c
    ∙ ap (λ (t : Bool). bit w c && t) (bit_not 32 (2 ^ b) c (pow-lt h) l ∙ ap not (bit_pow b c))

-- ---- what the code computes

-- 1 << b
pub shl_one : (b : ℕ) → b < 32 → 1 * 2 ^ b % 2 ^ 32 ≡ 2 ^ b
shl_one b h = shl_exact 1 b 32 (omega arith) (omega arith) ∙ one-mul (2 ^ b)

-- (w >> b) & 1 == 1
pub bit_test : (w b : ℕ) → eqb (bit_and (w / 2 ^ b) 1) 1 ≡ bit w b
bit_test w b = ap (λ (x : ℕ). eqb x 1) (and_mask (w / 2 ^ b) 1) ∙ sym (bit_digit w b)

-- no bit from 32 on
pub bit_past : (w b : ℕ) → w < 2 ^ 32 → 32 ≤ b → bit w b ≡ false
bit_past w b h l = T_false (bit w b) (bit_high w 32 b h l)

-- ---- the ones of a word

-- the digits of a word's low part, counted, are its bits, counted
digits-count : (w n : ℕ) → digits.ones (w % 2 ^ n) ≡ count n (bit w)
digits-count w zero = let z : w % 2 ^ 0 ≡ 0 = omega arith in ap digits.ones z ∙ ones-ones 0 ∙ sym (count-zero (bit w))
digits-count w (suc n) =
    omega (
      arith,
      ap (λ (k : ℕ). digits.ones (w % 2 ^ k)) (sym (one-add n))
          ∙ ap digits.ones (mod-pow-add w 1 n)
          ∙ ones_cat n (w / 2 ^ n % 2) (w % 2 ^ n) (mod-lt w (pow_pos n)),
      one (w / 2 ^ n % 2) (mod-lt (w / 2 ^ n) (omega arith)),
      digits-count w n,
      ap (λ (t : Bool). weight t) (bit_digit w n),
      count-suc n (bit w),
    )
  where
    one : (x : ℕ) → x < 2 → digits.ones x ≡ weight (eqb x 1)
    one zero h = ones-ones 0
    one (suc zero) h = ones-ones 1
    one (suc (suc x)) h = absurd (omega arith)

pub ones-digits : (w : ℕ) → w < 2 ^ 32 → digits.ones w ≡ ones w
unfolding ones
ones-digits w h = ap digits.ones (sym (mod-eq_of_lt h)) ∙ digits-count w 32

-- ---- the lowest bit of a word

-- bit j + 1 of a word is bit j of its half
bit_half : (w j : ℕ) → bit w (suc j) ≡ bit (w / 2) j
bit_half w j =
    bit_digit w (suc j)
    ∙ ap (λ (x : ℕ). eqb (x % 2) 1) (ap (λ (k : ℕ). w / 2 ^ k) (sym (one-add j)) ∙ sym (shr-shr w 1 j))
    ∙ sym (bit_digit (w / 2) j)

-- the zeros below a word's lowest digit that is set stand below its lowest bit
trailing_is : (n w : ℕ) → Lowest n (bit w) (count_trailing_zeros n w)
unfolding count_trailing_zeros
trailing_is zero w = record { bound = omega arith; none_below = λ j l. absurd (omega arith); found = λ l. absurd (omega arith) }
trailing_is (suc n) w = by (w % 2) refl (trailing_is n (w / 2))
  where
    last : bit w 0 ≡ eqb (w % 2) 1
    last = let e : w / 2 ^ 0 ≡ w = omega arith in bit_digit w 0 ∙ ap (λ (x : ℕ). eqb (x % 2) 1) e

    clear : (t : ℕ) → ((j : ℕ) → j < t → ¬ T (bit (w / 2) j)) → w % 2 ≡ 0 → (j : ℕ) → j < suc t → ¬ T (bit w j)
    clear t h e zero l x = let f : w % 2 ≡ 1 = eqb→eq (w % 2) 1 (subst (λ b. T b) last x) in omega arith
    clear t h e (suc j) l x = h j (omega arith) (subst (λ b. T b) (bit_half w j) x)

    by : (d : ℕ) → w % 2 ≡ d → Lowest n (bit (w / 2)) (count_trailing_zeros n (w / 2))
        → Lowest (suc n) (bit w) (under d (count_trailing_zeros n (w / 2)))
    by zero e h =
        record {
          bound = omega (arith, h.bound);
          none_below = clear (count_trailing_zeros n (w / 2)) h.none_below e;
          found = λ l. subst (λ b. T b) (sym (bit_half w (count_trailing_zeros n (w / 2)))) (h.found (omega arith));
        }
    by (suc d) e h =
        record {
          bound = omega arith;
          none_below = λ j l. absurd (omega arith);
          found = λ l. subst (λ b. T b) (sym (last ∙ eq-eqb (w % 2) 1 (omega arith))) tt;
        }

pub trailing_lowest : (n w : ℕ) → count_trailing_zeros n w ≡ lowest n (bit w)
trailing_lowest n w = lowest-same n (bit w) (count_trailing_zeros n w) (trailing_is n w)

-- ---- the words of low bits

pub below_all : (k n : ℕ) → k ≤ n → word_of k (λ b. ltb b n) ≡ 2 ^ k - 1
unfolding word_of
below_all zero n h = refl
below_all (suc k) n h = rw (lt-ltb k n h) (omega (arith, below_all k n (omega arith), pow-suc 2 k, pow_pos k))

pub below-low : (k n : ℕ) → n ≤ k → word_of k (λ b. ltb b n) ≡ 2 ^ n - 1
unfolding word_of
below-low zero n h = let e : n ≡ 0 = omega arith in sym (ap (λ (k : ℕ). 2 ^ k - 1) e)
below-low (suc k) n h =
    elim (dec_lt k n) [
      | yes l ↦ let e : n ≡ suc k = omega arith in below_all (suc k) n l ∙ ap (λ (i : ℕ). 2 ^ i - 1) (sym e)
      | no l ↦ rw (le-ltb k n (omega arith)) (omega (arith, below-low k n (omega arith)))
    ]

-- a word built bit by bit: where the next answer is the predicate's, the word of one more
pub mark_next : (n : ℕ) (p : ℕ → Bool) (yes? : Bool) → n < 32 → yes? ≡ p n
    → cond yes? (with_bit (word_of n p) n) (word_of n p) ≡ word_of (n + 1) p
unfolding with_bit word_of
mark_next n p yes? h e =
    let free : bit (word_of n p) n ≡ false =
    T_false (bit (word_of n p) n) (bit_high (word_of n p) n n (wordOf_lt n p) (omega arith)) in
    let next : Bool → Type 0 =
    λ b. cond yes? (with_bit (word_of n p) n) (word_of n p) ≡ word_of n p + cond b (2 ^ n) 0 in
    rw (add-one n) (subst next e (told yes? free))
  where
    told : (b : Bool) → bit (word_of n p) n ≡ false
        → cond b (with_bit (word_of n p) n) (word_of n p) ≡ word_of n p + cond b (2 ^ n) 0
    told true free = simp (lt-ltb n 32 h, free)
    told false free = omega arith

pub word-start : (p : ℕ → Bool) → word_of 0 p ≡ 0
unfolding word_of
word-start p = refl
