-- The ones of a word, counted once for each binary digit of the widths, are the cores that its activities take.
-- Assumes nothing.
use Prim.Native.Nat.{ℕ, zero, suc, ◌+◌, ◌*◌, ◌^◌, ◌≤◌, ◌<◌, min}
use native.Mathlib.Decide.{dec_lt}
use native.Mathlib.Nat.{pow-suc, mul_comm, mul-le-mul_right, lt_of_le_of_lt}
use native.Mathlib.Numerals.{add-one}
use native.Mathlib.Omega.{arith}
use mathlib.Core.Bool.{Bool, true, false, ◌&&◌, cond, and-true, and-false}
use mathlib.Core.List.{List}
use mathlib.Core.Path.{◌≡◌, refl, sym, subst, ap, ◌∙◌}
use lib.Bits.{bit_and}
use lib.Dec.{T, ltb, ltb→lt}
use lib.ListN.{length, get_or}
use lib.Pow.{pow_mono}
use borrow.Author.Tests.{lt-ltb, le-ltb}
use Rattle.schedule.specs.Bounded.{bit, total, greatest, lowest, ones, table, word_of}
use Rattle.schedule.specs.Model.{Model}
use Rattle.schedule.specs.Checks.{cores_of}
use Rattle.laws.proofs.Tests.{T_and}
use Rattle.laws.proofs.Counting.{T_false, count_ext}
use Rattle.laws.proofs.Lowest.{lowest_is}
use Rattle.laws.proofs.MachineLaws.{length-table, getD_table}
use Rattle.laws.proofs.Steps.{ones-few, total-start}
use Rattle.laws.proofs.Sums.{greatest_each, greatest_ext, total_ext, total_bound, total_stops, total_exchange, total_counted}
use Rattle.laws.proofs.Words.{bit_high}
use Rattle.laws.proofs.WordLaws.{bit-bit_and, bit-zero, bit_past, wordOf_bits, zero_bits}
use Rattle.tables.specs.Columns.{by_activity}
use Rattle.tables.specs.declared.loads.Widths.{Widths}
use Rattle.tables.specs.Loads.{plane_of, depth_of, widths_of, width_in, load_from}
use Rattle.tables.proofs.TableLaws.{table-whole, by_at, among_lt, bit-among, among_first}

-- ---- what a digit is worth

pub doubled : (j : ℕ) → 2 * 2 ^ j ≡ 2 ^ (j + 1)
doubled j = rw (add-one j, pow-suc 2 j) (mul_comm 2 (2 ^ j))

pub worth_small : (j : ℕ) → j < 8 → 2 ^ j ≤ 128
worth_small j l = pow_mono {i = j} {j = 7} (omega arith)

-- a word has at most 32 ones
pub few-times : (word x w : ℕ) → x ≡ ones word → x * w ≤ 32 * w
few-times word x w e = mul-le-mul_right w (omega (arith, e, ones-few word))

-- ---- the ones of a word, digit by digit

-- a sum where a test passes, and 0 elsewhere
sum_where : (t : Bool) (d : ℕ) (p : ℕ → Bool) (f : ℕ → ℕ)
    → total d (λ j. cond (t && p j) (f j) 0) ≡ cond t (total d (λ j. cond (p j) (f j) 0)) 0
unfolding total
sum_where true d p f = refl
sum_where false d p f = total_stops 0 d (λ _. 0) (omega arith) (λ _ _ _. refl)

-- The ones of a word, counted once for each digit over the activities whose width has it, and each time as often as the digit
-- is worth, are the sum of its activities' widths.
pub by_digits : (widths : Widths) (word : ℕ)
    → total (min widths.depth 8) (λ j. ones (bit_and word (get_or widths.planes j 0)) * 2 ^ j) ≡ load_from widths word
unfolding load_from ones
by_digits widths word =
    total_ext d _ _ (λ j _.
    ap (λ (k : ℕ). k * 2 ^ j) (count_ext 32 (bit (bit_and word (plane j))) (λ a. bit word a && bit (plane j) a) (λ a _.
    bit-bit_and word (plane j) a))
    ∙ sym (total_counted 32 (λ a. bit word a && bit (plane j) a) (2 ^ j)))
    ∙ total_exchange d 32 (λ j a. cond (bit word a && bit (plane j) a) (2 ^ j) 0)
    ∙ total_ext 32 _ _ (λ a _. sum_where (bit word a) d (λ j. bit (plane j) a) (λ j. 2 ^ j))
  where
    d : ℕ
    d = min widths.depth 8

    plane : ℕ → ℕ
    plane j = get_or widths.planes j 0

-- ---- the widths by digits

-- a number is the sum of its digits
digit_sum : (d x : ℕ) → total d (λ j. cond (bit x j) (2 ^ j) 0) ≡ word_of d (bit x)
unfolding total word_of
digit_sum zero x = refl
digit_sum (suc d) x = ap (λ (k : ℕ). k + cond (bit x d) (2 ^ d) 0) (digit_sum d x)

-- where two tests pass, and 0 elsewhere
digits_where : (p q : Bool) (d x : ℕ) → (T q → x < 2 ^ d) → total d (λ j. cond (p && (q && bit x j)) (2 ^ j) 0) ≡ cond (p && q) x 0
unfolding total
digits_where true true d x h = digit_sum d x ∙ wordOf_bits d x (h tt)
digits_where true false d x h = total_stops 0 d (λ _. 0) (omega arith) (λ _ _ _. refl)
digits_where false q d x h = total_stops 0 d (λ _. 0) (omega arith) (λ _ _ _. refl)

module _ (m : Model) (narrow : (a : ℕ) → m.width a < 256) where
  -- a width is below the power of as many digits as the widest has
  width-digits : (a : ℕ) → a < m.activities → a < 32 → m.width a < 2 ^ depth_of m
  width-digits a l k =
      let widest : ℕ = greatest (min m.activities 32) m.width in
      let low = lowest_is 8 (λ d. ltb widest (2 ^ d)) in
      elim (dec_lt (depth_of m) 8) [
        | yes h ↦ lt_of_le_of_lt (greatest_each (min m.activities 32) m.width a (omega arith))
            (ltb→lt widest (2 ^ depth_of m) (low.found h))
        | no h ↦ let e : depth_of m ≡ 8 = omega (arith, low.bound) in
            subst (λ (d : ℕ). m.width a < 2 ^ d) (sym e) (narrow a)
      ]

  pub depth_few : depth_of m ≤ 8
  depth_few = (lowest_is 8 (λ d. ltb (greatest (min m.activities 32) m.width) (2 ^ d))).bound

  -- the planes from there on are empty
  pub plane_empty : (j : ℕ) → depth_of m ≤ j → plane_of m j ≡ 0
  plane_empty j h =
      (zero_bits 32 (plane_of m j) (among_lt m (λ a. bit (m.width a) j))).1 (λ a k.
      bit-among m (λ a. bit (m.width a) j) a k
      ∙ T_false (ltb a m.activities && bit (m.width a) j) (λ t.
      let both = (T_and (ltb a m.activities) (bit (m.width a) j)).0 t in
      bit_high (m.width a) (depth_of m) j (width-digits a (ltb→lt a m.activities both.0) k) h both.1))

  -- the activities among the first 32 numbers are all that a word has
  all-active : (word : ℕ) → word < 2 ^ 32
      → total 32 (λ a. cond (bit word a && ltb a m.activities) (m.width a) 0) ≡ cores_of m (bit word)
  unfolding cores_of
  all-active word small = elim (dec_lt 32 m.activities) [
    | yes h ↦ total_ext 32 _ _ (λ a k. known a (omega arith))
        ∙ sym (total_stops 32 m.activities (λ a. cond (bit word a) (m.width a) 0) (omega arith)
        (λ a k _. ap (λ (x : Bool). cond x (m.width a) 0) (bit_past word a small k)))
    | no h ↦ total_stops m.activities 32 (λ a. cond (bit word a && ltb a m.activities) (m.width a) 0) (omega arith)
        (λ a k _. ap (λ (x : Bool). cond (bit word a && x) (m.width a) 0) (le-ltb a m.activities k)
        ∙ ap (λ (x : Bool). cond x (m.width a) 0) (and-false (bit word a)))
        ∙ total_ext m.activities _ _ known
  ]
    where
      known : (a : ℕ) → a < m.activities
          → cond (bit word a && ltb a m.activities) (m.width a) 0 ≡ cond (bit word a) (m.width a) 0
      known a l =
          ap (λ (x : Bool). cond (bit word a && x) (m.width a) 0) (lt-ltb a m.activities l)
          ∙ ap (λ (x : Bool). cond x (m.width a) 0) (and-true (bit word a))

  -- "the sum of active widths"
  pub load_is : (word : ℕ) → word < 2 ^ 32 → load_from (widths_of m) word ≡ cores_of m (bit word)
  unfolding load_from widths_of
  load_is word small =
      ap (λ (d : ℕ). total 32 (λ a. cond (bit word a) (total d (digit a)) 0)) whole
      ∙ total_ext 32 _ _ (λ a k.
      sym (sum_where (bit word a) (depth_of m) (λ j. bit (get_or (table 8 (plane_of m)) j 0) a) (λ j. 2 ^ j))
      ∙ total_ext (depth_of m) _ _ (λ j l. ap (λ (x : Bool). cond (bit word a && x) (2 ^ j) 0) (digit_is a j k (omega (arith, depth_few))))
      ∙ digits_where (bit word a) (ltb a m.activities) (depth_of m) (m.width a)
      (λ t. width-digits a (ltb→lt a m.activities t) k))
      ∙ all-active word small
    where
      digit : ℕ → ℕ → ℕ
      digit a j = cond (bit (get_or (table 8 (plane_of m)) j 0) a) (2 ^ j) 0

      whole : min (depth_of m) 8 ≡ depth_of m
      whole = omega (arith, depth_few)

      digit_is : (a j : ℕ) → a < 32 → j < 8
          → bit (get_or (table 8 (plane_of m)) j 0) a ≡ (ltb a m.activities && bit (m.width a) j)
      digit_is a j k l = ap (λ (w : ℕ). bit w a) (getD_table 0 8 (plane_of m) j l) ∙ bit-among m (λ i. bit (m.width i) j) a k

  -- ---- how they are made, from a table of the widths

  -- as many planes as the widest has digits
  pub depth_is : (n most depth : ℕ) (widths : List ℕ) → n ≡ min m.activities 32 → widths ≡ by_activity m m.width
      → most ≡ greatest n (λ a. get_or widths a 0) → depth ≡ lowest 8 (λ d. ltb most (2 ^ d)) → depth ≡ depth_of m
  depth_is n most depth widths e w g h =
      h ∙ ap (λ (x : ℕ). lowest 8 (λ d. ltb x (2 ^ d)))
      (g ∙ greatest_ext n _ _ (λ a l. ap (λ (k : List ℕ). get_or k a 0) w ∙ by_at m m.width a (omega arith) (omega arith))
      ∙ ap (λ (k : ℕ). greatest k m.width) e)

  pub plane_is : (n j : ℕ) (widths : List ℕ) → n ≡ min m.activities 32 → widths ≡ by_activity m m.width
      → word_of n (λ a. bit (get_or widths a 0) j) ≡ plane_of m j
  plane_is n j widths e w =
      among_first m n (λ a. bit (get_or widths a 0) j) (λ a. bit (m.width a) j) e (λ a l.
      ap (λ (x : ℕ). bit x j)
      (ap (λ (k : List ℕ). get_or k a 0) w ∙ by_at m m.width a (omega arith) (omega arith)))

  -- the planes that the widest has are all that are not empty
  pub planes_whole : (depth : ℕ) (planes : List ℕ) → depth ≡ depth_of m
      → planes ≡ table 8 (λ j. cond (ltb j depth) (plane_of m j) 0) → planes ≡ table 8 (plane_of m)
  planes_whole depth planes e h =
      table-whole 8 (plane_of m) planes (ap length h ∙ length-table 8 _) (λ j l.
      ap (λ (t : List ℕ). get_or t j 0) h
      ∙ getD_table 0 8 _ j l
      ∙ elim (dec_lt j depth) [
        | yes k ↦ ap (λ (t : Bool). cond t (plane_of m j) 0) (lt-ltb j depth k)
        | no k ↦ ap (λ (t : Bool). cond t (plane_of m j) 0) (le-ltb j depth (omega arith)) ∙ sym (plane_empty j (omega arith))
      ])

-- at most 32 ones for each of at most 8 digits
pub load_bound : (widths : Widths) (word : ℕ) → load_from widths word ≤ 32768
load_bound widths word =
    omega (
      arith,
      by_digits widths word,
      total_bound (min widths.depth 8) (λ j. ones (bit_and word (get_or widths.planes j 0)) * 2 ^ j) 4096 (λ j l.
          omega (
            arith,
            few-times (bit_and word (get_or widths.planes j 0)) (ones (bit_and word (get_or widths.planes j 0))) (2 ^ j) refl,
            worth_small j (omega arith),
          )),
    )

-- a word without activities takes no core
pub load-none : (widths : Widths) → load_from widths 0 ≡ 0
unfolding load_from
load-none widths =
    total_stops 0 32 (λ a. cond (bit 0 a) (width_in widths a) 0) (omega arith) (λ a _ _.
    ap (λ (x : Bool). cond x (width_in widths a) 0) (bit-zero a))
    ∙ total-start _
