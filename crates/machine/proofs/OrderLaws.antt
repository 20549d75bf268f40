-- The places of the ranking: an activity's is how many rank before it. A table of them is filled activity by activity.
-- Assumes nothing.
use Prim.Native.Nat.{ℕ, ◌+◌, ◌≤◌, ◌<◌}
use native.Mathlib.Decide.{ℕ_discrete}
use native.Mathlib.Omega.{arith}
use mathlib.Core.Bool.{Bool, true, cond}
use mathlib.Core.List.{List}
use mathlib.Core.Logic.{⊎_elim}
use mathlib.Core.Path.{◌≡◌, refl, sym, ap, ◌∙◌}
use lib.Dec.{T, eqb, ltb}
use lib.ListN.{length, get_or, set, replicate, length-replicate, length-set}
use lib.Seq.{get_or-set_same, get_or-set_other}
use borrow.Author.Tests.{eq-eqb, ne_eqb}
use Rattle.schedule.specs.Bounded.{bit, ones, with_bit, word_of}
use Rattle.schedule.specs.Model.{Model}
use Rattle.schedule.specs.Machine.{before}
use Rattle.laws.proofs.Tests.{T_ltb}
use Rattle.laws.proofs.Counting.{T_ext, count_ext, count_le, count_less}
use Rattle.laws.proofs.Rank.{before-says, before_is, before_irreflexive, before-total, place, place_less}
use Rattle.laws.proofs.Steps.{zeros_at}
use Rattle.laws.proofs.Words.{bit_high, bit_wordOf, ones-count, wordOf_lt}
use Rattle.laws.proofs.WordLaws.{mark_next, word-start}
use Rattle.tables.specs.declared.ranking.Order.{Order}
use Rattle.tables.specs.Columns.{TableOf}
use Rattle.tables.specs.Ranking.{ranking_of}
use Rattle.tables.proofs.TableLaws.{among-all, by_table}
use Rattle.tables.proofs.RankLaws.{ranking_before}
use Rattle.machine.specs.Masks.{at_place}

-- ---- places

-- there are as many places as activities
pub place_lt : (m : Model) (a : ℕ) → a < m.activities → place m a < m.activities
place_lt m a l =
    omega (
      arith,
      count_less m.activities (λ b. before m b a) (λ _. true) (λ _ _ _. tt) a l tt
          (λ t. before_irreflexive m a (before-says m a a t)),
      count_le m.activities (λ _. true),
    )

-- two activities have two places
pub place_same : (m : Model) (b a : ℕ) → b < m.activities → a < m.activities → place m b ≡ place m a → b ≡ a
place_same m b a lb la e = elim (ℕ_discrete b a) [
  | yes same ↦ same
  | no ne ↦ absurd (⊎_elim (λ h. omega (arith, place_less m b a lb h)) (λ h. omega (arith, place_less m a b la h))
      (before-total m b a ne))
]

-- one ranks before another exactly where its place is lower
pub before_place : (m : Model) (b a : ℕ) → b < m.activities → a < m.activities → before m b a ≡ ltb (place m b) (place m a)
before_place m b a lb la =
    T_ext (before m b a) (ltb (place m b) (place m a))
    (λ t. (T_ltb _ _).1 (place_less m b a lb (before-says m b a t)))
    (λ t. lower ((T_ltb (place m b) (place m a)).0 t))
  where
    lower : place m b < place m a → T (before m b a)
    lower h =
        before_is m b a (⊎_elim (λ x. x) (λ x. absurd (omega (arith, place_less m a b la x)))
        (before-total m b a (λ e. omega (arith, ap (place m) e))))

-- an activity's place is the ones in the mask of those that rank before it
pub ones_place : (m : Model) (befores : List ℕ) (a k : ℕ) → m.activities ≤ 32 → a < m.activities
    → befores ≡ ranking_of Order.Before m → k ≡ ones (get_or befores a 0) → (k ≡ place m a) × (k < 32)
ones_place m befores a k few l e counted = (is_place, omega (arith, is_place, place_lt m a l))
  where
    first : ℕ → Bool
    first b = before m b a

    is_place : k ≡ place m a
    is_place =
        counted
        ∙ ap ones (by_table m _ befores few (e ∙ ranking_before m) a l ∙ among-all m first few)
        ∙ ones-count (word_of m.activities first) m.activities few
        (λ b _ h. bit_high (word_of m.activities first) m.activities b (wordOf_lt m.activities first) h)
        ∙ count_ext m.activities (bit (word_of m.activities first)) first (bit_wordOf m.activities first)

-- ---- the table

-- at each place stands the activity, if it is among the first a
pub record Placed (m : Model) (a : ℕ) (l : List ℕ) : Type 0 where
  pub sized : length l ≡ 32
  pub stands : (k : ℕ) → get_or l k 0 ≡ word_of a (λ b. eqb (place m b) k)

pub placed-none : (m : Model) → Placed m 0 (replicate 32 0)
placed-none m = record {
  sized = length-replicate {A = ℕ} 32 0;
  stands = λ k. zeros_at 32 k ∙ sym (word-start _);
}

pub placed_next : (m : Model) (a k word : ℕ) (l : List ℕ) → a < 32 → (k ≡ place m a) × (k < 32) → word ≡ with_bit (get_or l k 0) a
    → Placed m a l → Placed m (a + 1) (set l k word)
placed_next m a k word l few at w h = record {
  sized = length-set l k word ∙ h.sized;
  stands = λ j. written j ∙ mark_next a (λ b. eqb (place m b) j) (eqb (place m a) j) few refl;
}
  where
    marked : ℕ → ℕ
    marked j = word_of a (λ b. eqb (place m b) j)

    written : (j : ℕ) → get_or (set l k word) j 0 ≡ cond (eqb (place m a) j) (with_bit (marked j) a) (marked j)
    written j = elim (ℕ_discrete j k) [
      | yes same ↦
          rw (eq-eqb (place m a) j (omega (arith, at.0)), same)
          (get_or-set_same l k word 0 (omega (arith, at.1, h.sized)) ∙ w ∙ ap (λ (x : ℕ). with_bit x a) (h.stands k))
      | no ne ↦ rw (ne_eqb (place m a) j (omega (arith, at.0))) (get_or-set_other l k j word 0 ne ∙ h.stands j)
    ]

pub placed-all : (m : Model) (l : List ℕ) → Placed m m.activities l → TableOf m l (at_place m)
unfolding at_place
placed-all m l h k _ = h.stands k
