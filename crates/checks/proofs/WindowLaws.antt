-- Windows that stand until one opens or closes, and what is active outside them.
-- Assumes nothing.
use Prim.Native.Nat.{ℕ, ◌+◌, ◌-◌, ◌^◌, ◌≤◌, ◌<◌}
use native.Mathlib.Numerals.{add-one}
use native.Mathlib.Omega.{arith}
use mathlib.Core.Bool.{Bool, true, false, ◌&&◌, ◌||◌, not}
use mathlib.Core.List.{List}
use mathlib.Core.Path.{◌≡◌, refl, sym, ap, ap₂, ◌∙◌}
use lib.Bits.{bit_and, bit_or, and_lt}
use lib.Dec.{leb, ltb}
use lib.ListN.{get_or}
use lib.Pow.{ones_sub-lt}
use Rattle.schedule.specs.Bounded.{all, bit, word_of, ◌⇒◌}
use Rattle.schedule.specs.Model.{Model}
use Rattle.schedule.specs.Plan.{Plan, active}
use Rattle.laws.proofs.Between.{between_leb, between_ltb}
use Rattle.laws.proofs.Steps.{all_start}
use Rattle.laws.proofs.Words.{bit_wordOf, word_ext, wordOf_ext, wordOf_lt}
use Rattle.laws.proofs.WordLaws.{bit-bit_and, bit_not, bit-bit_or, bit-zero}
use Rattle.ticks.specs.Kept.{Quiet}
use Rattle.tables.specs.Columns.{TableOf}
use Rattle.checks.specs.Rules.{none_outside}
use Rattle.checks.specs.Windows.{open_of, without}

-- what the code computes of two words
pub without_and : (x y : ℕ) → x < 2 ^ 32 → y < 2 ^ 32 → bit_and x ((2 ^ 32 - 1) - y) ≡ without x y
unfolding without
without_and x y hx hy =
    word_ext 32 _ _ (and_lt 32 x ((2 ^ 32 - 1) - y) hx (ones_sub-lt 32 y)) (wordOf_lt 32 (λ a. bit x a && not (bit y a)))
    (λ b l. bit-bit_and x ((2 ^ 32 - 1) - y) b ∙ ap (λ (t : Bool). bit x b && t) (bit_not 32 y b hy l)
    ∙ sym (bit_wordOf 32 (λ a. bit x a && not (bit y a)) b l))

-- where nothing opens or closes, the same windows are open
pub quiet_same : (n : ℕ) (froms ends : List ℕ) (t u v : ℕ)
    → Quiet n (λ a. get_or froms a 0) t u × Quiet n (λ a. get_or ends a 0) t u → t ≤ v → v < u
    → open_of n froms ends v ≡ open_of n froms ends t
unfolding open_of
quiet_same n froms ends t u v q h l =
    wordOf_ext n _ _ (λ a la.
    ap₂ ◌&&◌ (between_leb (get_or froms a 0) t v h (λ k. omega (arith, q.0 a la k)))
    (between_ltb (get_or ends a 0) t v h (λ k. omega (arith, q.1 a la k))))

pub stray_start : (a : ℕ) (p : ℕ → Bool) → bit 0 a ≡ not (all 0 p)
stray_start a p = bit-zero a ∙ sym (ap not (all_start p))

-- one tick more of what is active outside its window
pub stray_next : (n : ℕ) (froms ends : List ℕ) (word : ℕ → ℕ) (t strays opened : ℕ) → n ≤ 32 → opened ≡ open_of n froms ends t
    → (a : ℕ) → a < n
    → bit strays a ≡ not (all t (λ i. bit (word i) a ⇒ (leb (get_or froms a 0) i && ltb i (get_or ends a 0))))
    → bit (bit_or strays (without (word t) opened)) a
    ≡ not (all (t + 1) (λ i. bit (word i) a ⇒ (leb (get_or froms a 0) i && ltb i (get_or ends a 0))))
unfolding without open_of all
stray_next n froms ends word t strays opened few e a l h =
    rw (add-one t)
    (bit-bit_or strays (word_of 32 out) a
    ∙ ap₂ ◌||◌ h (bit_wordOf 32 out a (omega arith) ∙ ap (λ (x : ℕ). bit (word t) a && not (bit x a)) e
    ∙ ap (λ (x : Bool). bit (word t) a && not x) (bit_wordOf n _ a l))
    ∙ told (all t (λ i. bit (word i) a ⇒ (leb (get_or froms a 0) i && ltb i (get_or ends a 0)))) (bit (word t) a)
    (leb (get_or froms a 0) t && ltb t (get_or ends a 0)))
  where
    out : ℕ → Bool
    out b = bit (word t) b && not (bit opened b)

    told : (x y z : Bool) → (not x || (y && not z)) ≡ not (x && (y ⇒ z))
    told true true z = refl
    told true false z = refl
    told false y z = refl

-- what is active outside its window, from tables of starts and ends
pub strays_read : (m : Model) (p : Plan) (starts ends : List ℕ) (horizon n strays : ℕ) → horizon ≡ m.horizon
    → n ≡ m.activities → TableOf m starts p.start → TableOf m ends p.end
    → ((a : ℕ) → a < n → bit strays a
    ≡ not (all horizon (λ t. active p t a ⇒ (leb (get_or starts a 0) t && ltb t (get_or ends a 0)))))
    → (a : ℕ) → a < m.activities → bit strays a ≡ not (none_outside m p a)
unfolding none_outside
strays_read m p starts ends horizon n strays e k hs he h a l =
    h a (omega (arith, k))
    ∙ ap₂ (λ (x y : ℕ). not (all horizon (λ t. active p t a ⇒ (leb x t && ltb t y)))) (hs a l) (he a l)
    ∙ ap (λ (i : ℕ). not (all i (λ t. active p t a ⇒ (leb (p.start a) t && ltb t (p.end a))))) e
