-- Tables by activity: how they are filled, and what they hold.
-- Assumes nothing.
use Prim.Native.Nat.{ℕ, ◌+◌, ◌^◌, ◌≤◌, ◌<◌, min}
use native.Mathlib.Decide.{dec_lt}
use native.Mathlib.Omega.{arith}
use mathlib.Core.Bool.{Bool, true, false, ◌&&◌, cond}
use mathlib.Core.List.{List}
use mathlib.Core.Path.{◌≡◌, refl, sym, ap, ◌∙◌}
use lib.Bits.{bit_and, and_le_r}
use lib.Dec.{ltb}
use lib.ListN.{length, get_or, set, replicate, length-replicate, length-set, get_or-eq_default}
use lib.Pow.{pow_mono}
use lib.Seq.{ext_get_or, get_or-set_other}
use native.Mathlib.Nat.{lt_of_le_of_lt, lt_of_lt_of_le}
use borrow.Author.Tests.{lt-ltb, le-ltb}
use Rattle.schedule.specs.Bounded.{bit, table, word_of}
use Rattle.schedule.specs.Model.{Model}
use Rattle.laws.proofs.Counting.{T_false}
use Rattle.laws.proofs.MachineLaws.{length-table, getD_table}
use Rattle.laws.proofs.Steps.{table_next, zeros_at}
use Rattle.laws.proofs.Words.{bit_high, bit_wordOf, word_ext, wordOf_lt}
use Rattle.laws.proofs.WordLaws.{bit-bit_and}
use Rattle.tables.specs.Columns.{TableOf, by_activity, among_activities}

-- ---- what a table holds

-- a list with the entries of a table is the table
pub table-whole : (n : ℕ) (f : ℕ → ℕ) (l : List ℕ) → length l ≡ n → ((i : ℕ) → i < n → get_or l i 0 ≡ f i) → l ≡ table n f
table-whole n f l sized h =
    ext_get_or 0 l (table n f) (sized ∙ sym (length-table n f)) (λ i k.
    h i (omega (arith, sized)) ∙ sym (getD_table 0 n f i (omega (arith, sized))))

-- and so is one with an entry for each activity and 0 for what is none
pub table_by : (m : Model) (f : ℕ → ℕ) (l : List ℕ) → length l ≡ 32
    → ((a : ℕ) → a < m.activities → a < 32 → get_or l a 0 ≡ f a)
    → ((a : ℕ) → m.activities ≤ a → a < 32 → get_or l a 0 ≡ 0) → l ≡ by_activity m f
unfolding by_activity
table_by m f l sized h beyond =
    table-whole 32 _ l sized (λ a k. elim (dec_lt a m.activities) [
      | yes la ↦ h a la k ∙ sym (ap (λ (t : Bool). cond t (f a) 0) (lt-ltb a m.activities la))
      | no la ↦ beyond a (omega arith) k ∙ sym (ap (λ (t : Bool). cond t (f a) 0) (le-ltb a m.activities (omega arith)))
    ])

pub length_by : (m : Model) (f : ℕ → ℕ) → length (by_activity m f) ≡ 32
unfolding by_activity
length_by m f = length-table 32 _

-- an activity's entry
pub by_at : (m : Model) (f : ℕ → ℕ) (a : ℕ) → a < m.activities → a < 32 → get_or (by_activity m f) a 0 ≡ f a
unfolding by_activity
by_at m f a l k = getD_table 0 32 _ a k ∙ ap (λ (t : Bool). cond t (f a) 0) (lt-ltb a m.activities l)

-- no activity's
pub by_beyond : (m : Model) (f : ℕ → ℕ) (a : ℕ) → m.activities ≤ a → get_or (by_activity m f) a 0 ≡ 0
unfolding by_activity
by_beyond m f a l = elim (dec_lt a 32) [
  | yes k ↦ getD_table 0 32 _ a k ∙ ap (λ (t : Bool). cond t (f a) 0) (le-ltb a m.activities l)
  | no k ↦ get_or-eq_default (by_activity m f) 0 {n = a} (omega (arith, length_by m f))
]

-- all of them
pub by_table : (m : Model) (f : ℕ → ℕ) (l : List ℕ) → m.activities ≤ 32 → l ≡ by_activity m f → TableOf m l f
by_table m f l few e a k = ap (λ (t : List ℕ). get_or t a 0) e ∙ by_at m f a k (omega arith)

pub by_ext : (m : Model) (f g : ℕ → ℕ) → ((a : ℕ) → a < m.activities → a < 32 → f a ≡ g a) → by_activity m f ≡ by_activity m g
by_ext m f g h =
    ext_get_or 0 _ _ (length_by m f ∙ sym (length_by m g)) (λ a k.
    let here : a < 32 = omega (arith, length_by m f) in
    elim (dec_lt a m.activities) [
      | yes l ↦ by_at m f a l here ∙ h a l here ∙ sym (by_at m g a l here)
      | no l ↦ by_beyond m f a (omega arith) ∙ sym (by_beyond m g a (omega arith))
    ])

-- ---- a table that is filled entry by entry

-- of a list of so many entries the first n are f's, the others 0
pub record FilledTo (size n : ℕ) (f : ℕ → ℕ) (l : List ℕ) : Type 0 where
  pub sized : length l ≡ size
  pub filled : (a : ℕ) → a < n → get_or l a 0 ≡ f a
  pub beyond : (a : ℕ) → n ≤ a → get_or l a 0 ≡ 0

-- of a table by activity
abbrev pub Filled : ℕ → (ℕ → ℕ) → List ℕ → Type 0
Filled n f l = FilledTo 32 n f l

pub filled_none : {size : ℕ} (f : ℕ → ℕ) → FilledTo size 0 f (replicate size 0)
filled_none {size} f = record {
  sized = length-replicate size 0;
  filled = λ a k. absurd (omega arith);
  beyond = λ a k. zeros_at size a;
}

pub filled_next : {size : ℕ} (f : ℕ → ℕ) (a v : ℕ) (l : List ℕ) → a < size → FilledTo size a f l → v ≡ f a
    → FilledTo size (a + 1) f (set l a v)
filled_next f a v l k h e = record {
  sized = length-set l a v ∙ h.sized;
  filled = table_next l a v f (omega (arith, h.sized)) e h.filled;
  beyond = λ b kb. get_or-set_other l a b v 0 (omega arith) ∙ h.beyond b (omega arith);
}

-- what is filled so far, as a table
pub filled-table : {size : ℕ} (n : ℕ) (f : ℕ → ℕ) (l : List ℕ) → FilledTo size n f l → l ≡ table size (λ a. cond (ltb a n) (f a) 0)
filled-table {size} n f l h =
    table-whole size _ l h.sized (λ a k. elim (dec_lt a n) [
      | yes la ↦ h.filled a la ∙ sym (ap (λ (t : Bool). cond t (f a) 0) (lt-ltb a n la))
      | no la ↦ h.beyond a (omega arith) ∙ sym (ap (λ (t : Bool). cond t (f a) 0) (le-ltb a n (omega arith)))
    ])

-- the table with the entries that there is room for
pub by_first : (m : Model) (n : ℕ) (f : ℕ → ℕ) (l : List ℕ) → n ≡ min m.activities 32
    → l ≡ table 32 (λ a. cond (ltb a n) (f a) 0) → l ≡ by_activity m f
by_first m n f l e h =
    table_by m f l (ap length h ∙ length-table 32 _)
    (λ a la k. entry a k ∙ ap (λ (t : Bool). cond t (f a) 0) (lt-ltb a n (omega arith)))
    (λ a la k. entry a k ∙ ap (λ (t : Bool). cond t (f a) 0) (le-ltb a n (omega arith)))
  where
    entry : (a : ℕ) → a < 32 → get_or l a 0 ≡ cond (ltb a n) (f a) 0
    entry a k = ap (λ (t : List ℕ). get_or t a 0) h ∙ getD_table 0 32 _ a k

-- ---- words of activities

pub among_lt : (m : Model) (p : ℕ → Bool) → among_activities m p < 2 ^ 32
unfolding among_activities
among_lt m p = wordOf_lt 32 _

pub bit-among : (m : Model) (p : ℕ → Bool) (b : ℕ) → b < 32 → bit (among_activities m p) b ≡ (ltb b m.activities && p b)
unfolding among_activities
bit-among m p b l = bit_wordOf 32 _ b l

-- a mask without the bits that are no activities
pub among_mask : (m : Model) (mask : ℕ) → bit_and mask (word_of 32 (λ b. ltb b m.activities)) ≡ among_activities m (bit mask)
among_mask m mask =
    word_ext 32 _ _ (lt_of_le_of_lt (and_le_r mask _) (wordOf_lt 32 _)) (among_lt m (bit mask)) (λ b l.
    bit-bit_and mask _ b
    ∙ ap (λ (t : Bool). bit mask b && t) (bit_wordOf 32 (λ b. ltb b m.activities) b l)
    ∙ turned (bit mask b) (ltb b m.activities)
    ∙ sym (bit-among m (bit mask) b l))
  where
    turned : (x y : Bool) → (x && y) ≡ (y && x)
    turned true true = refl
    turned true false = refl
    turned false true = refl
    turned false false = refl

-- the first n numbers are the activities
pub among_first : (m : Model) (n : ℕ) (p q : ℕ → Bool) → n ≡ min m.activities 32 → ((b : ℕ) → b < n → p b ≡ q b)
    → word_of n p ≡ among_activities m q
among_first m n p q e h =
    word_ext 32 _ _ (lt_of_lt_of_le (wordOf_lt n p) (pow_mono {i = n} {j = 32} (omega arith))) (among_lt m q) (λ b l.
    elim (dec_lt b m.activities) [
      | yes k ↦ bit_wordOf n p b (omega arith) ∙ h b (omega arith)
          ∙ sym (bit-among m q b l ∙ ap (λ (t : Bool). t && q b) (lt-ltb b m.activities k))
      | no k ↦ T_false _ (bit_high (word_of n p) n b (wordOf_lt n p) (omega arith))
          ∙ sym (bit-among m q b l ∙ ap (λ (t : Bool). t && q b) (le-ltb b m.activities (omega arith)))
    ])

-- where there are no more than 32, they are all
pub among-all : (m : Model) (p : ℕ → Bool) → m.activities ≤ 32 → among_activities m p ≡ word_of m.activities p
among-all m p few = sym (among_first m m.activities p p (omega arith) (λ b l. refl))
