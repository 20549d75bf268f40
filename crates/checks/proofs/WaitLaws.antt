-- A rule's broken places at a tick, read off masks of the waiting that count and of outranking activities.
-- Assumes nothing.
use Prim.Native.Nat.{ℕ, ◌+◌, ◌^◌, ◌≤◌, ◌<◌}
use native.Mathlib.Omega.{arith}
use mathlib.Core.Bool.{Bool, true, false, ◌&&◌, not, cond, not-not}
use mathlib.Core.Path.{◌≡◌, refl, sym, ap, ◌∙◌}
use lib.Bits.{bit_and}
use lib.Dec.{T, leb, ltb, eqb}
use Rattle.schedule.specs.Bounded.{all, greatest, bit, word_of, ◌⇒◌}
use Rattle.schedule.specs.Model.{Model, priority_of, temporally, by_data}
use Rattle.schedule.specs.Plan.{Plan, active}
use Rattle.schedule.specs.Checks.{waits, load, contends, rule28, rule29, rule30, rule31}
use Rattle.laws.proofs.Tests.{tests, T_leb}
use Rattle.laws.proofs.Counting.{T_ext, all_ext}
use Rattle.laws.proofs.Sums.{greatest_bound, greatest_each}
use Rattle.laws.proofs.Sound.{waits_sound}
use Rattle.laws.proofs.Words.{wordOf_ext, bit_wordOf}
use Rattle.laws.proofs.WordLaws.{and_words, word_none}
use Rattle.tables.specs.declared.ranking.Order.{Order}
use Rattle.checks.specs.Tables.{broken_mask, waits_from}
use Rattle.checks.specs.Ticks.{any, rank_mask, outranking, contending_mask}

-- a term that counts only where a test passes
counted : (t : Bool) (x : ℕ) → T t → cond t x 0 ≡ x
counted true x h = refl
counted false x h = absurd h

if_bound : (t : Bool) (x y : ℕ) → (T t → x ≤ y) → cond t x 0 ≤ y
if_bound true x y h = h tt
if_bound false x y h = omega arith

-- an activity waits where it is not active, from its tick on, before its end
pub waits_when : (m : Model) (p : Plan) (t a : ℕ)
    → waits m p t a ≡ (not (active p t a) && (leb (waits_from m p a) t && ltb t (p.end a)))
unfolding waits_from
waits_when m p t a = T_ext _ _ there back
  where
    ends : ℕ
    ends = greatest m.activities (λ b. cond (temporally m b a) (p.end b + m.delay b) 0)

    last : ℕ
    last = greatest m.activities (λ b. cond (by_data m b a) (p.end b) 0)

    there : T (waits m p t a) → T (not (active p t a) && (leb (waits_from m p a) t && ltb t (p.end a)))
    there x =
        let w = (waits_sound m p t a).0 x in
        let hx : ends ≤ t = greatest_bound m.activities (λ b. cond (temporally m b a) (p.end b + m.delay b) 0) t
        (λ b l. if_bound (temporally m b a) _ t (w.temporal b l)) in
        let hy : last ≤ t = greatest_bound m.activities (λ b. cond (by_data m b a) (p.end b) 0) t
        (λ b l. if_bound (by_data m b a) _ t (w.on_data b l)) in
        simp tests (w.clear, (omega (arith, w.eligible, hx, hy), w.unended))

    back : T (not (active p t a) && (leb (waits_from m p a) t && ltb t (p.end a))) → T (waits m p t a)
    back x =
        let h = simp tests at x in
        (waits_sound m p t a).1 (record {
          clear = h.0;
          eligible = omega (arith, h.1.0);
          unended = h.1.1;
          temporal = λ b l y. omega (
            arith,
            h.1.0,
            counted (temporally m b a) (p.end b + m.delay b) y,
            greatest_each m.activities (λ b. cond (temporally m b a) (p.end b + m.delay b) 0) b l,
          );
          on_data = λ b l y. omega (
            arith,
            h.1.0,
            counted (by_data m b a) (p.end b) y,
            greatest_each m.activities (λ b. cond (by_data m b a) (p.end b) 0) b l,
          );
        })

-- where a test guards a mask: all of it, or nothing
guarded : (n : ℕ) (t : Bool) (p : ℕ → Bool) → word_of n (λ b. not (t ⇒ p b)) ≡ cond t (word_of n (λ b. not (p b))) 0
guarded n true p = refl
guarded n false p = word_none n (λ b. false) (λ b l. refl)

not_implies : (a b : Bool) → not (a ⇒ b) ≡ (a && not b)
not_implies true b = refl
not_implies false b = refl

-- 30: with fewer than c cores taken, whatever counts breaks the rule
pub idle_mask : (m : Model) (p : Plan) (t : ℕ)
    → broken_mask (rule30 m p) t ≡ cond (ltb (load m p t) m.cores) (contending_mask m p t) 0
unfolding broken_mask rule30 contending_mask
idle_mask m p t =
    guarded m.activities (ltb (load m p t) m.cores) (λ b. not (contends m p t b))
    ∙ ap (λ (w : ℕ). cond (ltb (load m p t) m.cores) w 0)
    (wordOf_ext m.activities _ _ (λ b _. not-not (contends m p t b)))

-- some active activity that b outranks, by the test that 29 or 31 makes of the two
any-not : (n : ℕ) (w : ℕ) (q : ℕ → Bool) → not (all n (λ a. bit w a ⇒ not (q a))) ≡ any n (λ a. bit w a && q a)
unfolding any
any-not n w q = ap not (all_ext n _ _ (λ a _. pointwise (bit w a) (q a)))
  where
    pointwise : (a b : Bool) → (a ⇒ not b) ≡ not (a && b)
    pointwise true b = refl
    pointwise false b = refl

pub any_ext : (n : ℕ) (p q : ℕ → Bool) → ((i : ℕ) → i < n → p i ≡ q i) → any n p ≡ any n q
unfolding any
any_ext n p q h = ap not (all_ext n _ _ (λ i l. ap not (h i l)))

-- what breaks 29 or 31 with exactly c cores taken: the waiting that count and stand in the mask of some active activity,
-- where `beats a b` is the test of the two that the rule makes, and mask a holds the b that pass it
contested : (m : Model) (p : Plan) (t : ℕ) → m.activities ≤ 32 → (full : Bool) (mask : ℕ → ℕ) (beats : ℕ → ℕ → Bool)
    → ((a b : ℕ) → a < m.activities → b < m.activities → bit (mask a) b ≡ beats a b)
    → word_of m.activities
    (λ b. not (full ⇒ contends m p t b ⇒ all m.activities (λ a. active p t a ⇒ not (beats a b))))
    ≡ cond full (bit_and (contending_mask m p t) (outranking m.activities mask (p.word t))) 0
unfolding contending_mask outranking
contested m p t few full mask beats h =
    guarded m.activities full (λ b. contends m p t b ⇒ all m.activities (λ a. active p t a ⇒ not (beats a b)))
    ∙ ap (λ (w : ℕ). cond full w 0)
    (wordOf_ext m.activities _ _ (λ b lb.
    not_implies (contends m p t b) (all m.activities (λ a. active p t a ⇒ not (beats a b)))
    ∙ ap (λ (x : Bool). contends m p t b && x)
    (any-not m.activities (p.word t) (λ a. beats a b)
    ∙ any_ext m.activities _ _ (λ a la. ap (λ (x : Bool). active p t a && x) (sym (h a b la lb)))))
    ∙ sym (and_words m.activities 32 (contends m p t)
    (λ b. any m.activities (λ a. active p t a && bit (mask a) b)) few))

pub leb-not-ltb : (x y : ℕ) → leb x y ≡ not (ltb y x)
leb-not-ltb x y = T_ext _ _ (λ h. simp tests (λ l. omega (arith, (T_leb x y).0 h))) (λ h. (T_leb x y).1 (at_most (simp tests at h)))
  where
    at_most : (¬ (y < x)) → x ≤ y
    at_most n = omega arith

-- 29: with exactly c cores taken, the waiting that count with a priority above some active one's
pub preemption_mask : (m : Model) (p : Plan) (t : ℕ) → m.activities ≤ 32
    → broken_mask (rule29 m p) t
    ≡ cond (eqb (load m p t) m.cores)
    (bit_and (contending_mask m p t) (outranking m.activities (rank_mask m Order.Higher) (p.word t))) 0
unfolding broken_mask rule29 rank_mask
preemption_mask m p t few =
    wordOf_ext m.activities _ _ (λ b _. ap (λ (x : Bool). not (eqb (load m p t) m.cores ⇒ contends m p t b ⇒ x))
    (all_ext m.activities _ _ (λ a _. ap (λ (x : Bool). active p t a ⇒ x) (leb-not-ltb (priority_of m b) (priority_of m a)))))
    ∙ contested m p t few (eqb (load m p t) m.cores) (rank_mask m Order.Higher) (λ a b. ltb (priority_of m a) (priority_of m b))
    (λ a b _ lb. bit_wordOf m.activities (λ b. ltb (priority_of m a) (priority_of m b)) b lb)

swapped : (a b c : Bool) → (a ⇒ b ⇒ c) ≡ (b ⇒ a ⇒ c)
swapped true b c = refl
swapped false true c = refl
swapped false false c = refl

not_both : (a b : Bool) → (a ⇒ not b) ≡ not (b && a)
not_both true true = refl
not_both true false = refl
not_both false true = refl
not_both false false = refl

-- 31: with exactly c cores taken, the waiting that count with the priority of some active activity with a larger number
pub tie_mask : (m : Model) (p : Plan) (t : ℕ) → m.activities ≤ 32
    → broken_mask (rule31 m p) t
    ≡ cond (eqb (load m p t) m.cores)
    (bit_and (contending_mask m p t) (outranking m.activities (rank_mask m Order.Level) (p.word t))) 0
unfolding broken_mask rule31 rank_mask
tie_mask m p t few =
    wordOf_ext m.activities _ _ (λ b _. ap not
    (swapped (contends m p t b) (eqb (load m p t) m.cores) _
    ∙ ap (λ (x : Bool). eqb (load m p t) m.cores ⇒ contends m p t b ⇒ x)
    (all_ext m.activities _ _ (λ a _. ap (λ (x : Bool). active p t a ⇒ x)
    (not_both (ltb b a) (eqb (priority_of m b) (priority_of m a)))))))
    ∙ contested m p t few (eqb (load m p t) m.cores) (rank_mask m Order.Level)
    (λ a b. eqb (priority_of m b) (priority_of m a) && ltb b a)
    (λ a b _ lb. bit_wordOf m.activities (λ b. eqb (priority_of m b) (priority_of m a) && ltb b a) b lb)

-- 28: the one place of the row is broken
pub cores_mask : (m : Model) (p : Plan) (t : ℕ)
    → broken_mask (rule28 m p) t ≡ cond (leb (load m p t) m.cores) 0 1
unfolding broken_mask rule28 word_of
cores_mask m p t = one (leb (load m p t) m.cores)
  where
    one : (b : Bool) → 0 + cond (not b) (2 ^ 0) 0 ≡ cond b 0 1
    one true = refl
    one false = refl
