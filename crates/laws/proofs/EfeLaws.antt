-- efe is what the paper's equation says, for a model whose predecessors have lower numbers; and what rule 27 needs of it.
-- Assumes nothing.
use Prim.Native.Nat.{ℕ, zero, suc, ◌+◌, ◌≤◌, ◌<◌, max}
use native.Mathlib.Numerals.{add-one}
use native.Mathlib.Omega.{arith}
use mathlib.Core.Bool.{Bool, true, false, cond}
use mathlib.Core.List.{[], ◌∷◌, ◌++◌}
use mathlib.Core.Logic.{⊎_elim}
use mathlib.Core.Path.{◌≡◌, refl, sym, ap, ap₂, ◌∙◌}
use lib.Dec.{T}
use lib.ListN.{length, get_or, length-append, get_or-append}
use lib.Seq.{get_or_at}
use Rattle.schedule.specs.Model.{Model, temporally, by_data, Ordered}
use Rattle.schedule.specs.Plan.{Plan}
use Rattle.schedule.specs.Checks.{count_of, efe_from, efes, efe}
use Rattle.laws.proofs.Tests.{below_suc}
use Rattle.laws.proofs.Sums.{greatest_ext, greatest_bound, greatest_each}

-- a term that counts only where a test passes
if_same : (t : Bool) (x y : ℕ) → (T t → x ≡ y) → cond t x 0 ≡ cond t y 0
if_same true x y h = h tt
if_same false x y h = refl

if_bound : (t : Bool) (x y : ℕ) → (T t → x ≤ y) → cond t x 0 ≤ y
if_bound true x y h = h tt
if_bound false x y h = omega arith

if_taken : (t : Bool) (x : ℕ) → T t → cond t x 0 ≡ x
if_taken true x h = refl
if_taken false x h = absurd h

module _ (m : Model) (p : Plan) where
  length-efes : (k : ℕ) → length (efes m p k) ≡ k
  unfolding efes
  length-efes zero = refl
  length-efes (suc k) =
      length-append (efes m p k) (efe_from m p (λ b. get_or (efes m p k) b 0) k ∷ [])
      ∙ ap (λ (i : ℕ). i + 1) (length-efes k) ∙ add-one k

  -- a longer table begins with a shorter one
  efes-keep : (k n a : ℕ) → k ≤ n → a < k → get_or (efes m p n) a 0 ≡ get_or (efes m p k) a 0
  unfolding efes
  efes-keep k zero a h l = absurd (omega arith)
  efes-keep k (suc n) a h l =
      ⊎_elim (λ (b : k < suc n). longer (efes-keep k n a (omega arith) l) (omega arith))
      (λ (e : k ≡ suc n). ap (λ (i : ℕ). get_or (efes m p i) a 0) (sym e))
      (below_suc k (suc n) (omega arith))
    where
      longer : get_or (efes m p n) a 0 ≡ get_or (efes m p k) a 0 → a < n
          → get_or (efes m p n ++ (efe_from m p (λ b. get_or (efes m p n) b 0) n ∷ [])) a 0 ≡ get_or (efes m p k) a 0
      longer ih l =
          get_or-append (efes m p n) (efe_from m p (λ b. get_or (efes m p n) b 0) n ∷ []) 0 a
          (omega (arith, length-efes n)) ∙ ih

  -- each entry is made from those before it
  efe-made : (a : ℕ) → a < m.activities → efe m p a ≡ efe_from m p (λ b. get_or (efes m p a) b 0) a
  unfolding efe efes
  efe-made a l =
      efes-keep (suc a) m.activities a l (omega arith)
      ∙ get_or_at (efes m p a) (efe_from m p (λ b. get_or (efes m p a) b 0) a) [] 0 a (length-efes a)

  -- "efe(a) is the largest of the thread's release, efe(b) + count(b) + delay(b) over temporal predecessors b, and
  -- efe(b) + count(b) over data predecessors b"
  pub efe_equation : Ordered m → (a : ℕ) → a < m.activities → efe m p a ≡ efe_from m p (efe m p) a
  unfolding efe_from efe
  efe_equation o a l =
      efe-made a l
      ∙ ap₂ (λ (x y : ℕ). max (p.release (m.thread a)) (max x y))
      (greatest_ext m.activities _ _ (λ b lb. if_same (temporally m b a) _ _
      (λ t. ap (λ (e : ℕ). e + count_of m p b + m.delay b) (sym (efes-keep a m.activities b (omega arith) (o.temporal a b l lb t))))))
      (greatest_ext m.activities _ _ (λ b lb. if_same (by_data m b a) _ _
      (λ t. ap (λ (e : ℕ). e + count_of m p b) (sym (efes-keep a m.activities b (omega arith) (o.on_data a b l lb t))))))

  pub efe-release : Ordered m → (a : ℕ) → a < m.activities → p.release (m.thread a) ≤ efe m p a
  unfolding efe_from
  efe-release o a l = omega (arith, efe_equation o a l)

  -- efe is at least what each predecessor lets go
  pub efe-temporal : Ordered m → (a b : ℕ) → a < m.activities → b < m.activities → T (temporally m b a)
      → efe m p b + count_of m p b + m.delay b ≤ efe m p a
  unfolding efe_from
  efe-temporal o a b l lb t =
      let term = greatest_each m.activities (λ b. cond (temporally m b a) (efe m p b + count_of m p b + m.delay b) 0) b lb in
      omega (arith, efe_equation o a l, term, if_taken (temporally m b a) (efe m p b + count_of m p b + m.delay b) t)

  pub efe_data : Ordered m → (a b : ℕ) → a < m.activities → b < m.activities → T (by_data m b a)
      → efe m p b + count_of m p b ≤ efe m p a
  unfolding efe_from
  efe_data o a b l lb t =
      let term = greatest_each m.activities (λ b. cond (by_data m b a) (efe m p b + count_of m p b) 0) b lb in
      omega (arith, efe_equation o a l, term, if_taken (by_data m b a) (efe m p b + count_of m p b) t)

  -- nothing that efe is the largest of passes x, so efe does not
  pub efe_bound : Ordered m → (a x : ℕ) → a < m.activities → p.release (m.thread a) ≤ x
      → ((b : ℕ) → b < m.activities → T (temporally m b a) → efe m p b + count_of m p b + m.delay b ≤ x)
      → ((b : ℕ) → b < m.activities → T (by_data m b a) → efe m p b + count_of m p b ≤ x)
      → efe m p a ≤ x
  unfolding efe_from
  efe_bound o a x l r ht hd =
      omega (
        arith,
        efe_equation o a l,
        r,
        greatest_bound m.activities (λ b. cond (temporally m b a) (efe m p b + count_of m p b + m.delay b) 0) x
            (λ b lb. if_bound (temporally m b a) _ x (ht b lb)),
        greatest_bound m.activities (λ b. cond (by_data m b a) (efe m p b + count_of m p b) 0) x
            (λ b lb. if_bound (by_data m b a) _ x (hd b lb)),
      )
