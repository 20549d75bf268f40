-- Laws of the cores that some activities take, the sum of their widths (U7 of 02).
-- Assumes nothing.
use Prim.Native.Nat.{ℕ, ◌+◌, ◌≤◌, ◌<◌}
use native.Mathlib.Omega.{arith}
use mathlib.Core.Bool.{Bool, true, false, ◌&&◌, ◌||◌, cond}
use mathlib.Core.List.{List, ◌∷◌}
use mathlib.Core.Logic.{⊎_elim}
use mathlib.Core.Path.{◌≡◌, refl, sym, ap}
use lib.Dec.{T, eqb}
use Rattle.schedule.specs.Bounded.{member}
use Rattle.schedule.specs.Model.{Model}
use Rattle.schedule.specs.Machine.{before}
use Rattle.schedule.specs.Checks.{cores_of, ahead}
use Rattle.laws.proofs.Tests.{T_and, T_eqb}
use Rattle.laws.proofs.Counting.{dec_t, T_true, T_false}
use Rattle.laws.proofs.Rank.{before-says, before_irreflexive}
use Rattle.laws.proofs.Sums.{total_ext, total_bound, total_one_more, total-room, total_less}

pub cores_ext : (m : Model) (p q : ℕ → Bool) → ((a : ℕ) → a < m.activities → p a ≡ q a) → cores_of m p ≡ cores_of m q
unfolding cores_of
cores_ext m p q h = total_ext m.activities _ _ (λ a l. ap (λ (b : Bool). cond b (m.width a) 0) (h a l))

pub cost : (b : Bool) (w : ℕ) → T b → cond b w 0 ≡ w
cost true w t = refl
cost false w t = absurd t

pub spared : (b : Bool) (w : ℕ) → (¬ T b) → cond b w 0 ≡ 0
spared true w n = absurd (n tt)
spared false w n = refl

cost_mono : (b c : Bool) (w : ℕ) → (T b → T c) → cond b w 0 ≤ cond c w 0
cost_mono true c w f = omega (arith, cost c w (f tt))
cost_mono false c w f = omega arith

pub cores-none : (m : Model) (p : ℕ → Bool) → ((a : ℕ) → a < m.activities → ¬ T (p a)) → cores_of m p ≡ 0
unfolding cores_of
cores-none m p h =
    omega (
      arith,
      total_bound m.activities (λ a. cond (p a) (m.width a) 0) 0 (λ a l. omega (arith, spared (p a) (m.width a) (h a l))),
    )

-- one activity more
pub cores-more : (m : Model) (p q : ℕ → Bool) (a : ℕ) → a < m.activities → (¬ T (p a)) → T (q a)
    → ((i : ℕ) → i < m.activities → ¬ (i ≡ a) → p i ≡ q i) → cores_of m q ≡ cores_of m p + m.width a
unfolding cores_of
cores-more m p q a l was now others =
    total_one_more m.activities (λ i. cond (p i) (m.width i) 0) (λ i. cond (q i) (m.width i) 0) a (m.width a)
    (λ i k ne. ap (λ (x : Bool). cond x (m.width i) 0) (others i k ne)) l
    (omega (arith, spared (p a) (m.width a) was, cost (q a) (m.width a) now))

-- those of a list that pass a test, with one activity more in the list
pub cores_cons : (m : Model) (q : ℕ → Bool) (a : ℕ) (l : List ℕ) → a < m.activities → (¬ T (member a l))
    → cores_of m (λ b. member b (a ∷ l) && q b) ≡ cores_of m (λ b. member b l && q b) + cond (q a) (m.width a) 0
unfolding cores_of member
cores_cons m q a l h new =
    total_one_more m.activities (λ b. cond (member b l && q b) (m.width b) 0)
    (λ b. cond ((eqb b a || member b l) && q b) (m.width b) 0) a (cond (q a) (m.width a) 0)
    (λ i _ ne. sym (ap (λ (x : Bool). cond ((x || member i l) && q i) (m.width i) 0) (T_false (eqb i a) (λ t. ne ((T_eqb i a).0 t)))))
    h (omega (arith, now, was))
  where
    now : cond ((eqb a a || member a l) && q a) (m.width a) 0 ≡ cond (q a) (m.width a) 0
    now = ap (λ (x : Bool). cond ((x || member a l) && q a) (m.width a) 0) (T_true (eqb a a) ((T_eqb a a).1 refl))

    was : cond (member a l && q a) (m.width a) 0 ≡ 0
    was = spared (member a l && q a) (m.width a) (λ t. new ((T_and (member a l) (q a)).0 t).0)

-- what ranks before an active one leaves room for it
pub ahead-room : (m : Model) (act : ℕ → Bool) (a : ℕ) → a < m.activities → T (act a)
    → m.width a + ahead m act a ≤ cores_of m act
unfolding cores_of
ahead-room m act a l t =
    let room = total-room m.activities (λ b. cond (act b && before m b a) (m.width b) 0) (λ b. cond (act b) (m.width b) 0)
    a (m.width a)
    (λ i _. cost_mono (act i && before m i a) (act i) (m.width i) (λ x. ((T_and (act i) (before m i a)).0 x).0))
    l
    (omega (
      arith,
      cost (act a) (m.width a) t,
      spared (act a && before m a a) (m.width a)
          (λ x. before_irreflexive m a (before-says m a a ((T_and (act a) (before m a a)).0 x).1)),
    )) in
    omega arith

-- where those ranked before b take fewer cores than all, some active one does not rank before b
pub not-ahead : (m : Model) (act : ℕ → Bool) (b : ℕ) → ahead m act b < cores_of m act
    → (a : ℕ) × (a < m.activities) × T (act a) × (¬ T (before m a b))
unfolding cores_of
not-ahead m act b h =
    let found = total_less m.activities _ _ h in
    let a : ℕ = found.0 in
    let active : T (act a) = ⊎_elim (λ x. x) (λ x. absurd (omega (arith, found.2, spared (act a) (m.width a) x))) (dec_t (act a)) in (
      a,
      found.1,
      active,
      λ x.
          omega (
            arith,
            found.2,
            cost (act a && before m a b) (m.width a) ((T_and (act a) (before m a b)).1 (active, x)),
            cost (act a) (m.width a) active,
          ),
    )
