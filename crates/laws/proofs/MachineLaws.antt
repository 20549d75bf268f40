-- Laws of the machine: what makes an activity ready, what a step does to each activity, that owed and done make the duration,
-- and what its ends say.
-- Assumes nothing.
use Prim.Native.Nat.{ℕ, zero, suc, ◌+◌, ◌-◌, ◌≤◌, ◌<◌, ◌^◌}
use native.Mathlib.Numerals.{add-one}
use native.Mathlib.Omega.{arith}
use mathlib.Core.Bool.{Bool, ◌&&◌, cond}
use mathlib.Core.List.{List, [], ◌∷◌, ◌++◌}
use mathlib.Core.Logic.{⊎_elim, ◌↔◌}
use mathlib.Core.Path.{◌≡◌, refl, sym, subst, ap, ap₂, ◌∙◌}
use lib.Dec.{T, eqb, leb, ltb}
use lib.ListN.{length, get_or, length-append, get_or-append}
use lib.Seq.{get_or_at}
use borrow.Author.Tests.{eq-eqb}
use Rattle.schedule.specs.Bounded.{count, table, bit}
use Rattle.schedule.specs.Model.{Model, temporally, by_data}
use Rattle.schedule.specs.Machine.{State, owes, end_of, ended_by, ready, word_at, initial, step, state_at}
use Rattle.schedule.specs.Machine.{machine_word, machine_owes}
use Rattle.laws.proofs.Tests.{tests, below_suc}
use Rattle.laws.proofs.Counting.{dec_t, T_true, T_false, implies_same, weight, one_if, zero_if, count-suc, count-zero, all_ext}
use Rattle.laws.proofs.Words.{bit_wordOf, wordOf_lt}
use Rattle.laws.proofs.Selection.{selected, selected-fits}

pub length-table : {A : Type 0} (n : ℕ) (f : ℕ → A) → length (table n f) ≡ n
unfolding table
length-table zero f = refl
length-table (suc n) f = length-append (table n f) (f n ∷ []) ∙ ap (λ (k : ℕ). k + 1) (length-table n f) ∙ add-one n

pub getD_table : {A : Type 0} (d : A) (n : ℕ) (f : ℕ → A) (i : ℕ) → i < n → get_or (table n f) i d ≡ f i
unfolding table
getD_table d zero f i h = absurd (omega arith)
getD_table d (suc n) f i h = ⊎_elim (lower (getD_table d n f i)) here (below_suc i n h)
  where
    lower : (i < n → get_or (table n f) i d ≡ f i) → i < n → get_or (table n f ++ (f n ∷ [])) i d ≡ f i
    lower ih l = get_or-append (table n f) (f n ∷ []) d i (omega (arith, length-table n f)) ∙ ih l

    here : i ≡ n → get_or (table n f ++ (f n ∷ [])) i d ≡ f i
    here e = get_or_at (table n f) (f n) [] d i (length-table n f ∙ sym e) ∙ ap f (sym e)

pub table_ext : {A : Type 0} (n : ℕ) (f g : ℕ → A) → ((i : ℕ) → i < n → f i ≡ g i) → table n f ≡ table n g
unfolding table
table_ext zero f g h = refl
table_ext {A} (suc n) f g h =
    ap₂ (λ (l : List A) (x : A). l ++ (x ∷ [])) (table_ext n f g (λ i l. h i (omega arith))) (h n (omega arith))

-- "ready", as a statement
pub record Ready (m : Model) (release : ℕ → ℕ) (t : ℕ) (s : State) (a : ℕ) : Type 0 where
  pub owing : 0 < owes s a
  pub released : release (m.thread a) ≤ t
  pub temporal : (b : ℕ) → b < m.activities → T (temporally m b a) → (owes s b ≡ 0) × (end_of s b + m.delay b ≤ t)
  pub on_data : (b : ℕ) → b < m.activities → T (by_data m b a) → (owes s b ≡ 0) × (end_of s b ≤ t)

pub ready_sound : (m : Model) (release : ℕ → ℕ) (t : ℕ) (s : State) (a : ℕ) → T (ready m release t s a) ↔ Ready m release t s a
unfolding ready ended_by
ready_sound m release t s a = (λ x. there (simp tests at x), λ h. simp tests (back h))
  where
    Parts : Type 0
    Parts =
        ((0 < owes s a) × (release (m.thread a) ≤ t))
        × (((b : ℕ) → b < m.activities → T (temporally m b a) → (owes s b ≡ 0) × (end_of s b + m.delay b ≤ t))
        × ((b : ℕ) → b < m.activities → T (by_data m b a) → (owes s b ≡ 0) × (end_of s b + 0 ≤ t)))

    there : Parts → Ready m release t s a
    there h = record {
      owing = h.0.0;
      released = h.0.1;
      temporal = h.1.0;
      on_data = λ b l x. let e = h.1.1 b l x in (e.0, omega arith);
    }

    back : Ready m release t s a → Parts
    back h = ((h.owing, h.released), (h.temporal, λ b l x. let e = h.on_data b l x in (e.0, omega arith)))

-- two states have activity a owe the same, with the same end
pub record SameFor (s s' : State) (a : ℕ) : Type 0 where
  pub owed : owes s a ≡ owes s' a
  pub end : end_of s a ≡ end_of s' a

-- Whether an activity is ready depends only on what it owes, on its thread's release, and on its predecessors.
pub ready_local : (m : Model) (release release' : ℕ → ℕ) (t : ℕ) (s s' : State) (a : ℕ)
    → owes s a ≡ owes s' a → release (m.thread a) ≡ release' (m.thread a)
    → ((b : ℕ) → b < m.activities → T (temporally m b a) → SameFor s s' b)
    → ((b : ℕ) → b < m.activities → T (by_data m b a) → SameFor s s' b)
    → ready m release t s a ≡ ready m release' t s' a
unfolding ready ended_by
ready_local m release release' t s s' a owed released temporal on_data =
    ap₂ ◌&&◌ (ap₂ (λ (o r : ℕ). ltb 0 o && leb r t) owed released)
    (ap₂ ◌&&◌
    (all_ext m.activities _ _ (λ b l. implies_same (temporally m b a) _ _ (λ x. ended_same b (m.delay b) (temporal b l x))))
    (all_ext m.activities _ _ (λ b l. implies_same (by_data m b a) _ _ (λ x. ended_same b 0 (on_data b l x)))))
  where
    ended_same : (b delay : ℕ) → SameFor s s' b → ended_by s b delay t ≡ ended_by s' b delay t
    ended_same b delay h = ap₂ (λ (o e : ℕ). eqb o 0 && leb (e + delay) t) h.owed h.end

module _ (m : Model) (release duration : ℕ → ℕ) where
  -- the machine's state at a tick, and whether it has an activity active there
  abbrev pub at : ℕ → State
  at t = state_at m release duration t

  abbrev pub runs : ℕ → ℕ → Bool
  runs t a = bit (machine_word m release duration t) a

  pub owes-first : (a : ℕ) → a < m.activities → owes (at 0) a ≡ duration a
  unfolding state_at initial
  owes-first a l = getD_table 0 m.activities duration a l

  pub end-first : (a : ℕ) → a < m.activities → end_of (at 0) a ≡ 0
  unfolding state_at initial
  end-first a l = getD_table 0 m.activities (λ _. 0) a l

  pub owes_next : (t a : ℕ) → a < m.activities → owes (at (suc t)) a ≡ owes (at t) a - weight (runs t a)
  unfolding state_at step machine_word
  owes_next t a l = getD_table 0 m.activities _ a l

  pub end_next : (t a : ℕ) → a < m.activities
      → end_of (at (suc t)) a ≡ cond (runs t a && eqb (owes (at t) a) 1) (t + 1) (end_of (at t) a)
  unfolding state_at step machine_word
  end_next t a l = getD_table 0 m.activities _ a l

  -- the active are the selected
  pub runs-selected : (t a : ℕ) → a < m.activities → runs t a ≡ selected m (ready m release t (at t)) a
  unfolding machine_word word_at selected
  runs-selected t a l = bit_wordOf m.activities (selected m (ready m release t (at t))) a l

  pub word_lt : (t : ℕ) → machine_word m release duration t < 2 ^ m.activities
  unfolding machine_word word_at selected
  word_lt t = wordOf_lt m.activities (selected m (ready m release t (at t)))

  pub runs-ready : (t a : ℕ) → a < m.activities → T (runs t a) → Ready m release t (at t) a
  runs-ready t a l x =
      (ready_sound m release t (at t) a).0
      ((selected-fits m (ready m release t (at t))).is_ready a l (subst T (runs-selected t a l) x))

  -- what is owed and what is done make the duration
  pub owed-done : (t a : ℕ) → a < m.activities → owes (at t) a + count t (λ u. runs u a) ≡ duration a
  owed-done zero a l = omega (arith, owes-first a l, count-zero (λ u. runs u a))
  owed-done (suc t) a l =
      ⊎_elim
      (λ x. omega (
        arith,
        owed-done t a l,
        owes_next t a l,
        count-suc t (λ u. runs u a),
        one_if (runs t a) x,
        (runs-ready t a l x).owing,
      ))
      (λ x. omega (arith, owed-done t a l, owes_next t a l, count-suc t (λ u. runs u a), zero_if (runs t a) x))
      (dec_t (runs t a))

  -- an activity that owes nothing at the end has run for its duration
  pub runs-duration : (a : ℕ) → a < m.activities → machine_owes m release duration a ≡ 0
      → count m.horizon (λ t. runs t a) ≡ duration a
  unfolding machine_owes
  runs-duration a l settled = omega (arith, owed-done m.horizon a l)

  -- an activity that does not run keeps its end
  pub end-idle : (t a : ℕ) → a < m.activities → (¬ T (runs t a)) → end_of (at (suc t)) a ≡ end_of (at t) a
  end-idle t a l x =
      end_next t a l
      ∙ ap (λ (b : Bool). cond (b && eqb (owes (at t) a) 1) (t + 1) (end_of (at t) a)) (T_false (runs t a) x)

  -- one that runs its last tick ends just after it
  pub end_last : (t a : ℕ) → a < m.activities → T (runs t a) → owes (at t) a ≡ 1 → end_of (at (suc t)) a ≡ t + 1
  end_last t a l x e =
      end_next t a l
      ∙ ap (λ (b : Bool). cond (b && eqb (owes (at t) a) 1) (t + 1) (end_of (at t) a)) (T_true (runs t a) x)
      ∙ ap (λ (b : Bool). cond b (t + 1) (end_of (at t) a)) (eq-eqb (owes (at t) a) 1 e)

  -- nothing owed stays so, and the end stays
  pub stays : (t u a : ℕ) → a < m.activities → t ≤ u → owes (at t) a ≡ 0
      → (owes (at u) a ≡ 0) × (end_of (at u) a ≡ end_of (at t) a)
  stays t zero a l h e =
      let z : t ≡ 0 = omega arith in
      subst (λ (v : ℕ). (owes (at v) a ≡ 0) × (end_of (at v) a ≡ end_of (at t) a)) z (e, refl)
  stays t (suc u) a l h e =
      ⊎_elim (λ (b : t < suc u). later (stays t u a l (omega arith) e))
      (λ z. subst (λ (v : ℕ). (owes (at v) a ≡ 0) × (end_of (at v) a ≡ end_of (at t) a)) z (e, refl))
      (below_suc t (suc u) (omega arith))
    where
      later : (owes (at u) a ≡ 0) × (end_of (at u) a ≡ end_of (at t) a)
          → (owes (at (suc u)) a ≡ 0) × (end_of (at (suc u)) a ≡ end_of (at t) a)
      later h =
          let idle : ¬ T (runs u a) = λ x. omega (arith, (runs-ready u a l x).owing, h.0) in
          (omega (arith, owes_next u a l, h.0), end-idle u a l idle ∙ h.1)

  -- What the end of an activity that owes nothing says: it ran the tick before, and has not run since.
  pub record Ended (t a : ℕ) : Type 0 where
    pub positive : 0 < end_of (at t) a
    pub past : end_of (at t) a ≤ t
    pub last : T (runs (end_of (at t) a - 1) a)
    pub since : (u : ℕ) → end_of (at t) a ≤ u → u < t → ¬ T (runs u a)

  pub ended : (t a : ℕ) → a < m.activities → 0 < duration a → owes (at t) a ≡ 0 → Ended t a
  ended zero a l d e = absurd (omega (arith, owes-first a l))
  ended (suc t) a l d e = ⊎_elim now_last (λ x. before_now x (ended t a l d (still x))) (dec_t (runs t a))
    where
      still : (¬ T (runs t a)) → owes (at t) a ≡ 0
      still x = omega (arith, owes_next t a l, zero_if (runs t a) x)

      now_last : T (runs t a) → Ended (suc t) a
      now_last x =
          let one : owes (at t) a ≡ 1 =
          omega (arith, owes_next t a l, one_if (runs t a) x, (runs-ready t a l x).owing) in
          let fin : end_of (at (suc t)) a ≡ t + 1 = end_last t a l x one in
          let back : end_of (at (suc t)) a - 1 ≡ t = omega arith in
          record {
            positive = omega arith;
            past = omega arith;
            last = subst (λ (u : ℕ). T (runs u a)) (sym back) x;
            since = λ u lo hi. absurd (omega arith);
          }

      before_now : (¬ T (runs t a)) → Ended t a → Ended (suc t) a
      before_now x h =
          let same : end_of (at (suc t)) a ≡ end_of (at t) a = end-idle t a l x in
          record {
            positive = omega (arith, h.positive);
            past = omega (arith, h.past);
            last = subst (λ (e : ℕ). T (runs (e - 1) a)) (sym same) h.last;
            since = λ u lo hi. ⊎_elim (λ b. h.since u (omega arith) b) (λ z. subst (λ (v : ℕ). ¬ T (runs v a)) (sym z) x)
                (below_suc u t hi);
          }
