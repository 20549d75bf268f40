-- What a passed test says: each test of the definitions, read as the statement that it decides.
-- Assumes nothing.
use Prim.Native.Nat.{ℕ, zero, suc, ◌≤◌, ◌<◌}
use native.Mathlib.Decide.{dec_lt}
use native.Mathlib.Omega.{arith}
use mathlib.Core.Bool.{Bool, true, false, ◌&&◌, ◌||◌, not}
use mathlib.Core.Logic.{◌⊎◌, inl, inr, ◌↔◌, ⊎_elim}
use mathlib.Core.Path.{◌≡◌, subst, sym}
use lib.Dec.{T, eqb, leb, ltb, leb→le, le→leb, ltb→lt, lt→ltb, eqb→eq, eqb_refl}
use Rattle.schedule.specs.Bounded.{all, ◌⇒◌}

pub T_and : (a b : Bool) → T (a && b) ↔ (T a × T b)
T_and true b = (λ t. (tt, t), λ h. h.1)
T_and false b = (λ t. absurd t, λ h. h.0)

pub T_or : (a b : Bool) → T (a || b) ↔ (T a ⊎ T b)
T_or true b = (λ t. inl tt, λ h. tt)
T_or false b = (λ t. inr t, from)
  where
    from : ⊥ ⊎ T b → T b
    from (inl x) = absurd x
    from (inr t) = t

pub T_implies : (a b : Bool) → T (a ⇒ b) ↔ (T a → T b)
T_implies true b = (λ t _. t, λ h. h tt)
T_implies false b = (λ _ x. absurd x, λ h. tt)

pub T_not : (a : Bool) → T (not a) ↔ (¬ T a)
T_not true = (λ x _. x, λ h. h tt)
T_not false = (λ _ x. x, λ h. tt)

-- a test whose opposite fails passes
pub T_not-not : (a : Bool) → (¬ T (not a)) → T a
T_not-not true f = tt
T_not-not false f = absurd (f tt)

pub T_leb : (a b : ℕ) → T (leb a b) ↔ (a ≤ b)
T_leb a b = (leb→le a b, le→leb a b)

pub T_ltb : (a b : ℕ) → T (ltb a b) ↔ (a < b)
T_ltb a b = (ltb→lt a b, lt→ltb a b)

pub T_eqb : (a b : ℕ) → T (eqb a b) ↔ (a ≡ b)
T_eqb a b = (eqb→eq a b, λ e. subst (λ (x : ℕ). T (eqb a x)) e (eqb_refl a))

-- below n + 1 is below n, or n itself
pub below_suc : (i n : ℕ) → i < suc n → (i < n) ⊎ (i ≡ n)
below_suc i n h = elim (dec_lt i n) [ yes l ↦ inl l | no l ↦ inr (omega arith) ]

-- what holds of each number below n, and of n, holds of each below n + 1
pub up_to {ℓ} : (P : ℕ → Type ℓ) (n : ℕ) → ((i : ℕ) → i < n → P i) → P n → (i : ℕ) → i < suc n → P i
up_to P n h hn i l = ⊎_elim (h i) (λ e. subst P (sym e) hn) (below_suc i n l)

pub T_all : (n : ℕ) (p : ℕ → Bool) → T (all n p) ↔ ((i : ℕ) → i < n → T (p i))
unfolding all
T_all zero p = (λ _ i h. absurd (omega arith), λ _. tt)
T_all (suc n) p = (there (T_all n p).0, back (T_all n p).1)
  where
    there : (T (all n p) → (i : ℕ) → i < n → T (p i)) → T (all n p && p n) → (i : ℕ) → i < suc n → T (p i)
    there ih t =
        let both = (T_and (all n p) (p n)).0 t in
        up_to (λ i. T (p i)) n (ih both.0) both.1

    back : (((i : ℕ) → i < n → T (p i)) → T (all n p)) → ((i : ℕ) → i < suc n → T (p i)) → T (all n p && p n)
    back ih h = (T_and (all n p) (p n)).1 (ih (λ i l. h i (omega arith)), h n (omega arith))

-- a whole test, read at once
pub ruleset tests = (T_and, T_or, T_implies, T_not, T_leb, T_ltb, T_eqb, T_all)
