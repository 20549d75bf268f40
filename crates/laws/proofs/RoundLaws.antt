-- Several rounds on one page: the rows of a round by their numbers among all, and the bits of a mask that is moved on.
-- Assumes nothing.
use Prim.Native.Nat.{ℕ, zero, suc, ◌+◌, ◌-◌, ◌*◌, ◌/◌, ◌%◌, ◌^◌, ◌≤◌, ◌<◌}
use native.Mathlib.Decide.{dec_lt, ℕ_discrete}
use native.Mathlib.Nat.{zero-add, add-zero, zero-mul, mul-zero, mul-one, mul_assoc, mul_left_comm}
use native.Mathlib.Nat.{mod-lt, mod-eq_of_lt, div-add-mod', div-lt_iff_lt-mul}
use native.Mathlib.Omega.{arith}
use mathlib.Core.Bool.{Bool, true, false, ◌&&◌, ◌||◌, not}
use mathlib.Core.Path.{◌≡◌, refl, sym, ap, ◌∙◌}
use lib.Arith.{digits_lt, digits_div, digits_mod}
use lib.Dec.{eqb, leb}
use lib.Pow.{pow-add, shl-shr, shr-shr, low}
use borrow.Author.Tests.{lt-ltb, le-leb, lt-leb, eq-eqb, ne_eqb}
use Rattle.schedule.specs.Bounded.{bit}
use Rattle.schedule.specs.Rounds.{no_loop, in_all, number_in, moved_release, moved_mask, with_loop, below}
use Rattle.laws.proofs.Words.{bit-low}
use Rattle.laws.proofs.WordLaws.{bit_with}

-- ---- numbers among all rounds

-- number a of i rounds of n each: its round, and its place in that round
pub record Placed (i n a : ℕ) : Type 0 where
  pub round : a / n < i
  pub place : a % n < n
  pub whole : a / n * n + a % n ≡ a

pub placed : (i n a : ℕ) → a < i * n → Placed i n a
placed i zero a h = absurd (omega (arith, mul-zero i))
placed i (suc n) a h = record {
  round = (div-lt_iff_lt-mul {k = suc n} {x = a} {y = i} (omega arith)).1 h;
  place = mod-lt a (omega arith);
  whole = div-add-mod' a (suc n);
}

-- a field of row j of round k, where all rounds together have fewer than 256
pub row-of : (i n k j : ℕ) (f : ℕ → ℕ → ℕ) → i * n < 256 → k < i → j < n
    → below (in_all i n) (λ x. f (x / n) (x % n)) (k * n + j) ≡ f k j
row-of i n k j f fits round place =
    rw (
      mod-eq_of_lt fits,
      lt-ltb (k * n + j) (i * n) (digits_lt round place),
      digits_div k {r = j} place,
      digits_mod k {r = j} place,
    ) refl

-- in round 0 nothing is moved
pub number-first : (n j : ℕ) → j < 256 → number_in 0 n j ≡ j
number-first n j fits = rw (zero-mul n, zero-add j) (mod-eq_of_lt fits)

pub release-first : (period release : ℕ) → release < 65536 → moved_release 0 period release ≡ release
release-first period release fits =
    rw (zero-mul period) (ap (λ (x : ℕ). x % 65536) (add-zero release) ∙ mod-eq_of_lt fits)

pub mask_first : (m mask : ℕ) → mask < 2 ^ 32 → moved_mask 0 m mask ≡ mask
mask_first m mask fits = rw (zero-mul m) (ap (λ (x : ℕ). x % 2 ^ 32) (mul-one mask) ∙ mod-eq_of_lt fits)

-- ---- masks

-- a word times a power of 2 has its bits so much higher
shifted_up : (w d b : ℕ) → bit (w * 2 ^ d) (d + b) ≡ bit w b
unfolding bit
shifted_up w d b =
    ap (λ (v : ℕ). eqb (v % 2) 1) (sym (shr-shr (w * 2 ^ d) d b) ∙ ap (λ (v : ℕ). v / 2 ^ b) (shl-shr w d))

-- and none below
shifted_low : (w d x : ℕ) → x < d → bit (w * 2 ^ d) x ≡ false
unfolding bit
shifted_low w d x h =
    let k : ℕ = d - x - 1 in
    let e : d ≡ (1 + k) + x = omega arith in
    ap (λ (j : ℕ). eqb (w * 2 ^ j / 2 ^ x % 2) 1) e
    ∙ ap (λ (v : ℕ). eqb (v / 2 ^ x % 2) 1)
    (ap (λ (v : ℕ). w * v) (pow-add 2 (1 + k) x) ∙ sym (mul_assoc w (2 ^ (1 + k)) (2 ^ x)))
    ∙ ap (λ (v : ℕ). eqb (v % 2) 1)
    (shl-shr (w * 2 ^ (1 + k)) x ∙ ap (λ (v : ℕ). w * v) (pow-add 2 1 k) ∙ mul_left_comm w 2 (2 ^ k))
    ∙ ne_eqb (2 * (w * 2 ^ k) % 2) 1 (omega arith)

-- bit x of a mask that is moved on
pub bit_moved : (k m w x : ℕ) → x < 32 → bit (moved_mask k m w) x ≡ (leb (k * m) x && bit w (x - k * m))
bit_moved k m w x h =
    bit-low (w * 2 ^ (k * m)) 32 x h
    ∙ elim (dec_lt x (k * m)) [
      | yes l ↦
          shifted_low w (k * m) x l ∙ sym (ap (λ (t : Bool). t && bit w (x - k * m)) (lt-leb (k * m) x l))
      | no l ↦
          let e : x ≡ k * m + (x - k * m) = omega arith in
          ap (bit (w * 2 ^ (k * m))) e
          ∙ shifted_up w (k * m) (x - k * m)
          ∙ sym (ap (λ (t : Bool). t && bit w (x - k * m)) (le-leb (k * m) x (omega arith)))
    ]

-- a mask that is moved past the word has no bit left
pub moved_out : (w d : ℕ) → 32 ≤ d → w * 2 ^ d % 2 ^ 32 ≡ 0
moved_out w d h =
    let e : d ≡ (d - 32) + 32 = omega arith in
    let x : ℕ = w * 2 ^ (d - 32) in
    ap (λ (k : ℕ). w * 2 ^ k % 2 ^ 32) e
    ∙ ap (λ (v : ℕ). v % 2 ^ 32)
    (ap (λ (v : ℕ). w * v) (pow-add 2 (d - 32) 32) ∙ sym (mul_assoc w (2 ^ (d - 32)) (2 ^ 32)) ∙ sym (add-zero (x * 2 ^ 32)))
    ∙ low x 32 (omega arith)

-- the place of the bit that a loop byte sets is below the round's own, and so in the word
pub loop_lt : (i m k q : ℕ) → i * m ≤ 32 → k < i → ¬ (k ≡ 0) → q < m → (k - 1) * m + q < 32
loop_lt i m k q fits round later place =
    omega (arith, digits_lt {q = k - 1} {m = i} {r = q} {c = m} (omega arith) place)

or-false : (t : Bool) → (t || false) ≡ t
or-false true = refl
or-false false = refl

-- bit x of a mask with a loop byte: of a first round, or where there is none, nothing is added
pub bit-loop : (k m q w x : ℕ) → (¬ (k ≡ 0) → ¬ (q ≡ no_loop) → (k - 1) * m + q < 32)
    → bit (with_loop k m q w) x ≡ (bit w x || (not (eqb k 0 || eqb q no_loop) && eqb x ((k - 1) * m + q)))
bit-loop k m q w x fits =
    elim (ℕ_discrete k 0) [
      | yes first ↦ rw (eq-eqb k 0 first) (sym (or-false (bit w x)))
      | no later ↦ elim (ℕ_discrete q no_loop) [
        | yes e ↦ rw (ne_eqb k 0 later, eq-eqb q no_loop e) (sym (or-false (bit w x)))
        | no e ↦ rw (ne_eqb k 0 later, ne_eqb q no_loop e) (bit_with w ((k - 1) * m + q) x (fits later e))
      ]
    ]
