-- The first marked tick, and the last plus 1: what they are, and one tick more.
-- Assumes nothing.
use Prim.Native.Nat.{ℕ, ◌+◌, ◌≤◌, ◌<◌, max}
use native.Mathlib.Decide.{dec_lt}
use native.Mathlib.Omega.{arith}
use mathlib.Core.Bool.{Bool, true, false, cond}
use mathlib.Core.Logic.{⊎_elim}
use mathlib.Core.Path.{◌≡◌, refl, sym, ap, ap₂, ◌∙◌}
use lib.Dec.{T, eqb, ltb}
use borrow.Author.Tests.{lt-ltb, le-ltb, ne_eqb}
use Rattle.schedule.specs.Bounded.{lowest, greatest}
use Rattle.laws.proofs.Counting.{dec_t, T_true, T_false}
use Rattle.laws.proofs.Lowest.{Lowest, Clear, lowest_is, lowest_unique, lowest_ext, found_none, clear-more}
use Rattle.laws.proofs.Steps.{greatest_next}
use Rattle.laws.proofs.Sums.{greatest_ext, greatest_bound, greatest_each}
use Rattle.edit_rules.specs.Edits.{first_marked, past_marked}

-- what a tick adds to the end: its number plus 1 where it is marked
abbrev past : (ℕ → Bool) → ℕ → ℕ
past p t = cond (p t) (t + 1) 0

past-set : (p : ℕ → Bool) (t : ℕ) → T (p t) → past p t ≡ t + 1
past-set p t x = ap (λ (b : Bool). cond b (t + 1) 0) (T_true (p t) x)

past_unset : (p : ℕ → Bool) (t : ℕ) → (¬ T (p t)) → past p t ≡ 0
past_unset p t x = ap (λ (b : Bool). cond b (t + 1) 0) (T_false (p t) x)

-- ---- what they are

pub first_is : (h : ℕ) (p : ℕ → Bool) (t : ℕ) → t < h → T (p t) → Clear p t → first_marked h p ≡ t
unfolding first_marked
first_is h p t l x clear = rw (lowest_unique h p t l x clear, lt-ltb t h l)

pub first-none : (h : ℕ) (p : ℕ → Bool) → Clear p h → first_marked h p ≡ 0
unfolding first_marked
first-none h p clear = rw (← found_none h p h (omega arith) (omega arith) clear, le-ltb h h (omega arith))

pub past_is : (h : ℕ) (p : ℕ → Bool) (t : ℕ) → t < h → T (p t) → ((u : ℕ) → t < u → u < h → ¬ T (p u)) → past_marked h p ≡ t + 1
unfolding past_marked
past_is h p t l x clear =
    omega (arith, greatest_each h (past p) t l, past-set p t x, greatest_bound h (past p) (t + 1) each)
  where
    each : (u : ℕ) → u < h → past p u ≤ t + 1
    each u k = ⊎_elim
        (λ (y : T (p u)). elim (dec_lt t u) [ yes j ↦ absurd (clear u j k y) | no j ↦ omega (arith, past-set p u y) ])
        (λ (y : ¬ T (p u)). omega (arith, past_unset p u y))
        (dec_t (p u))

pub past-none : (h : ℕ) (p : ℕ → Bool) → Clear p h → past_marked h p ≡ 0
unfolding past_marked
past-none h p clear = omega (arith, greatest_bound h (past p) 0 (λ t l. omega (arith, past_unset p t (clear t l))))

-- ---- how large they are

pub past_le : (h : ℕ) (p : ℕ → Bool) → past_marked h p ≤ h
unfolding past_marked
past_le h p = greatest_bound h (past p) h (λ t l. ⊎_elim
    (λ (y : T (p t)). omega (arith, past-set p t y))
    (λ (y : ¬ T (p t)). omega (arith, past_unset p t y))
    (dec_t (p t)))

pub first_le : (h : ℕ) (p : ℕ → Bool) → first_marked h p ≤ h
first_le h p =
    let low = lowest_is h p in
    elim (dec_lt (lowest h p) h) [
      | yes l ↦ omega (arith, first_is h p (lowest h p) l (low.found l) low.none_below)
      | no l ↦ omega (arith, first-none h p (λ t k. low.none_below t (omega (arith, low.bound))))
    ]

-- ---- they depend on the ticks below h alone

pub first_ext : (h : ℕ) (p q : ℕ → Bool) → ((t : ℕ) → t < h → p t ≡ q t) → first_marked h p ≡ first_marked h q
unfolding first_marked
first_ext h p q same = ap (λ (t : ℕ). cond (ltb t h) t 0) (lowest_ext h p q same)

pub past_ext : (h : ℕ) (p q : ℕ → Bool) → ((t : ℕ) → t < h → p t ≡ q t) → past_marked h p ≡ past_marked h q
unfolding past_marked
past_ext h p q same = greatest_ext h (past p) (past q) (λ t l. ap (λ (b : Bool). cond b (t + 1) 0) (same t l))

-- ---- tick by tick

pub first-start : (p : ℕ → Bool) → first_marked 0 p ≡ 0
first-start p = first-none 0 p (λ t l. absurd (omega arith))

pub past-start : (p : ℕ → Bool) → past_marked 0 p ≡ 0
past-start p = past-none 0 p (λ t l. absurd (omega arith))

-- one tick more
pub past_next : (t : ℕ) (p : ℕ → Bool) → past_marked (t + 1) p ≡ cond (p t) (t + 1) (past_marked t p)
unfolding past_marked
past_next t p = greatest_next t (past p) ∙ one (p t) (greatest t (past p)) (past_le t p)
  where
    one : (b : Bool) (x : ℕ) → x ≤ t → max x (cond b (t + 1) 0) ≡ cond b (t + 1) x
    one true x h = omega arith
    one false x h = omega arith

pub first_next : (t : ℕ) (p : ℕ → Bool)
    → first_marked (t + 1) p ≡ cond (p t) (cond (eqb (past_marked t p) 0) t (first_marked t p)) (first_marked t p)
unfolding past_marked
first_next t p = elim (dec_lt (lowest t p) t) [ yes l ↦ some_marked l | no l ↦ none_marked (omega arith) ]
  where
    low : Lowest t p (lowest t p)
    low = lowest_is t p

    same : (b : Bool) (x : ℕ) → cond b x x ≡ x
    same true x = refl
    same false x = refl

    some_marked : lowest t p < t
        → first_marked (t + 1) p ≡ cond (p t) (cond (eqb (past_marked t p) 0) t (first_marked t p)) (first_marked t p)
    some_marked l =
        let here : first_marked t p ≡ lowest t p = first_is t p (lowest t p) l (low.found l) low.none_below in
        first_is (t + 1) p (lowest t p) (omega arith) (low.found l) low.none_below
        ∙ sym here
        ∙ sym (ap (λ (b : Bool). cond (p t) (cond b t (first_marked t p)) (first_marked t p))
        (ne_eqb (past_marked t p) 0 (reached l))
        ∙ same (p t) (first_marked t p))
      where
        reached : lowest t p < t → ¬ (past_marked t p ≡ 0)
        reached l e = omega (arith, e, greatest_each t (past p) (lowest t p) l, past-set p (lowest t p) (low.found l))

    none_marked : t ≤ lowest t p
        → first_marked (t + 1) p ≡ cond (p t) (cond (eqb (past_marked t p) 0) t (first_marked t p)) (first_marked t p)
    none_marked l =
        let clear : Clear p t = λ u k. low.none_below u (omega arith) in
        ⊎_elim
        (λ (y : T (p t)). first_is (t + 1) p t (omega arith) y clear
        ∙ sym (ap₂ (λ (b : Bool) (x : ℕ). cond b (cond (eqb x 0) t (first_marked t p)) (first_marked t p))
        (T_true (p t) y) (past-none t p clear)))
        (λ (y : ¬ T (p t)). first-none (t + 1) p (clear-more p t (p t) clear refl y)
        ∙ sym (ap (λ (b : Bool). cond b (cond (eqb (past_marked t p) 0) t (first_marked t p)) (first_marked t p)) (T_false (p t) y)
        ∙ first-none t p clear))
        (dec_t (p t))
