-- "The run walks the ready in rank order and takes each whose width still fits" (U7 of 02): what it takes is what fits beside
-- the taken that rank before it. Such a choice is the only one, depends on the ready that rank before an activity and on itself
-- alone, and is the only one that keeps rules 28 to 31 at its tick.
-- Assumes nothing.
use Prim.Native.Nat.{ℕ, zero, suc, ◌+◌, ◌≤◌, ◌<◌}
use native.Mathlib.Decide.{dec_lt}
use native.Mathlib.Omega.{arith}
use mathlib.Core.Bool.{Bool, true, false, ◌&&◌, and-true}
use mathlib.Core.List.{List, [], ◌∷◌}
use mathlib.Core.Logic.{◌⊎◌, inl, inr, ⊎_elim}
use mathlib.Core.Path.{◌≡◌, refl, sym, subst, ap, ◌∙◌}
use lib.Dec.{T, leb, eqb}
use Rattle.schedule.specs.Bounded.{member}
use Rattle.schedule.specs.Model.{Model}
use Rattle.schedule.specs.Machine.{before, insert, in_rank, walk, walked}
use Rattle.schedule.specs.Checks.{cores_of, ahead}
use Rattle.laws.proofs.Tests.{T_and, T_or, T_eqb, T_leb, below_suc}
use Rattle.laws.proofs.Counting.{dec_t, T_ext, and_same}
use Rattle.laws.proofs.Rank.{Before, before-says, before_is, before_trans, before_irreflexive, before-total}
use Rattle.laws.proofs.Rank.{place, place_less}
use Rattle.laws.proofs.Cores.{cost, cores-none, cores_cons, cores_ext, ahead-room, not-ahead}

-- ---- a list in rank order

-- each ranks before all behind it
Sorted : Model → List ℕ → Type 0
Sorted m [] = Unit
Sorted m (a ∷ l) = ((b : ℕ) → T (member b l) → Before m a b) × Sorted m l

-- what stands in a list with one more is that one, or stood there
said : (b a : ℕ) (l : List ℕ) → T (member b (a ∷ l)) → (b ≡ a) ⊎ T (member b l)
unfolding member
said b a l t = ⊎_elim (λ x. inl ((T_eqb b a).0 x)) (λ x. inr x) ((T_or (eqb b a) (member b l)).0 t)

here : (b a : ℕ) (l : List ℕ) → b ≡ a → T (member b (a ∷ l))
unfolding member
here b a l e = (T_or (eqb b a) (member b l)).1 (inl ((T_eqb b a).1 e))

there : (b a : ℕ) (l : List ℕ) → T (member b l) → T (member b (a ∷ l))
unfolding member
there b a l t = (T_or (eqb b a) (member b l)).1 (inr t)

module _ (m : Model) where
  abbrev placed : ℕ → ℕ → List ℕ → Bool → List ℕ
  placed a b l t = elim t [ true ↦ a ∷ b ∷ l | false ↦ b ∷ insert m a l ]

  insert-says : (b a : ℕ) (l : List ℕ) → T (member b (insert m a l)) → (b ≡ a) ⊎ T (member b l)
  unfolding insert
  insert-says b a [] t = said b a [] t
  insert-says b a (c ∷ l) t = one (insert-says b a l) (before m a c) t
    where
      one : (T (member b (insert m a l)) → (b ≡ a) ⊎ T (member b l))
          → (x : Bool) → T (member b (placed a c l x)) → (b ≡ a) ⊎ T (member b (c ∷ l))
      one ih true t = said b a (c ∷ l) t
      one ih false t =
          ⊎_elim (λ e. inr (here b c l e)) (λ t. ⊎_elim (λ e. inl e) (λ t. inr (there b c l t)) (ih t))
          (said b c (insert m a l) t)

  insert_has : (b a : ℕ) (l : List ℕ) → (b ≡ a) ⊎ T (member b l) → T (member b (insert m a l))
  unfolding insert
  insert_has b a [] h = ⊎_elim (λ e. here b a [] e) (λ t. there b a [] t) h
  insert_has b a (c ∷ l) h = one (insert_has b a l) (before m a c)
    where
      one : ((b ≡ a) ⊎ T (member b l) → T (member b (insert m a l))) → (x : Bool) → T (member b (placed a c l x))
      one ih true = ⊎_elim (λ e. here b a (c ∷ l) e) (λ t. there b a (c ∷ l) t) h
      one ih false =
          ⊎_elim (λ e. there b c (insert m a l) (ih (inl e)))
          (λ t. ⊎_elim (λ e. here b c (insert m a l) e) (λ t. there b c (insert m a l) (ih (inr t))) (said b c l t))
          h

  insert_sorted : (a : ℕ) (l : List ℕ) → (¬ T (member a l)) → Sorted m l → Sorted m (insert m a l)
  unfolding insert Sorted member
  insert_sorted a [] new s = (λ b t. absurd t, tt)
  insert_sorted a (c ∷ l) new s =
      one (insert_sorted a l (λ t. new (there a c l t)) s.1) (before m a c) (λ t. before-says m a c t) (λ f h. f (before_is m a c h))
    where
      one : Sorted m (insert m a l) → (x : Bool) → (T x → Before m a c) → ((¬ T x) → ¬ Before m a c) → Sorted m (placed a c l x)
      one ih true is-before _ = (
        λ b t. ⊎_elim (λ e. subst (λ i. Before m a i) (sym e) (is-before tt))
            (λ t. before_trans m a c b (is-before tt) (s.0 b t)) (said b c l t),
        s,
      )
      one ih false _ not-before =
          (λ b t. ⊎_elim (λ e. subst (λ i. Before m c i) (sym e) behind) (λ t. s.0 b t) (insert-says b a l t), ih)
        where
          behind : Before m c a
          behind = ⊎_elim (λ h. h) (λ h. absurd (not-before (λ x. x) h)) (before-total m c a (λ e. new (here a c l (sym e))))

  -- "Rank the ready": the list has the ready, in rank order
  module _ (rdy : ℕ → Bool) where
    abbrev joined : ℕ → Bool → List ℕ
    joined n t = elim t [ true ↦ insert m n (in_rank m rdy n) | false ↦ in_rank m rdy n ]

    ranked_says : (n a : ℕ) → T (member a (in_rank m rdy n)) → (a < n) × T (rdy a)
    unfolding in_rank member
    ranked_says zero a t = absurd t
    ranked_says (suc n) a t = one (ranked_says n a) (rdy n) (λ x. x) t
      where
        one : (T (member a (in_rank m rdy n)) → (a < n) × T (rdy a))
            → (x : Bool) → (T x → T (rdy n)) → T (member a (joined n x)) → (a < suc n) × T (rdy a)
        one ih true is t =
            ⊎_elim (λ e. (omega arith, subst (λ i. T (rdy i)) (sym e) (is tt)))
            (λ t. let h = ih t in (omega arith, h.1))
            (insert-says a n (in_rank m rdy n) t)
        one ih false is t = let h = ih t in (omega arith, h.1)

    ranked_has : (n a : ℕ) → a < n → T (rdy a) → T (member a (in_rank m rdy n))
    unfolding in_rank
    ranked_has zero a l r = absurd (omega arith)
    ranked_has (suc n) a l r = one (λ h. ranked_has n a h r) (rdy n) (λ f e. f (subst (λ i. T (rdy i)) e r)) (below_suc a n l)
      where
        one : (a < n → T (member a (in_rank m rdy n)))
            → (x : Bool) → ((¬ T x) → ¬ (a ≡ n)) → (a < n) ⊎ (a ≡ n) → T (member a (joined n x))
        one ih true is (inl h) = insert_has a n (in_rank m rdy n) (inr (ih h))
        one ih true is (inr e) = insert_has a n (in_rank m rdy n) (inl e)
        one ih false is (inl h) = ih h
        one ih false is (inr e) = absurd (is (λ x. x) e)

    ranked_sorted : (n : ℕ) → Sorted m (in_rank m rdy n)
    unfolding in_rank Sorted
    ranked_sorted zero = tt
    ranked_sorted (suc n) = one (ranked_sorted n) (rdy n)
      where
        one : Sorted m (in_rank m rdy n) → (x : Bool) → Sorted m (joined n x)
        one ih true = insert_sorted n (in_rank m rdy n) (λ t. let h = ranked_says n n t in omega (arith, h.0)) ih
        one ih false = ih

  -- ---- the walk

  abbrev gone_on : ℕ → List ℕ → ℕ → Bool → List ℕ
  gone_on a l used t = elim t [ true ↦ a ∷ walk m l (used + m.width a) | false ↦ walk m l used ]

  -- it takes what stands in the list
  walk-says : (l : List ℕ) (used b : ℕ) → T (member b (walk m l used)) → T (member b l)
  unfolding walk
  walk-says [] used b t = t
  walk-says (a ∷ l) used b t = one (λ u. walk-says l u b) (leb (used + m.width a) m.cores) t
    where
      one : ((u : ℕ) → T (member b (walk m l u)) → T (member b l))
          → (x : Bool) → T (member b (gone_on a l used x)) → T (member b (a ∷ l))
      one ih true t =
          ⊎_elim (λ e. here b a l e) (λ t. there b a l (ih (used + m.width a) t)) (said b a (walk m l (used + m.width a)) t)
      one ih false t = there b a l (ih used t)

  -- In a list of activities in rank order an activity is taken exactly where it fits beside those that are taken and rank
  -- before it.
  abbrev Beside : List ℕ → ℕ → ℕ → Type 0
  Beside w used a = used + (m.width a + ahead m (λ b. member b w) a) ≤ m.cores

  In : List ℕ → Type 0
  In l = (b : ℕ) → T (member b l) → b < m.activities

  -- the first of a list in rank order, and what is taken of those behind it where it is taken itself
  module _ (a : ℕ) (l : List ℕ) (used : ℕ) (s : Sorted m (a ∷ l)) (within : In (a ∷ l)) where
    abbrev onward : List ℕ
    onward = walk m l (used + m.width a)

    fewer : In l
    unfolding In
    fewer b t = within b (there b a l t)

    known : a < m.activities
    unfolding In
    known = within a (here a a l refl)

    rest : Sorted m l
    unfolding Sorted
    rest = s.1

    first : (b : ℕ) → T (member b onward) → Before m a b
    unfolding Sorted
    first b t = s.0 b (walk-says l (used + m.width a) b t)

    new : ¬ T (member a onward)
    new t = before_irreflexive m a (first a t)

    -- nothing ranks before it
    ahead-first : ahead m (λ b. member b (a ∷ onward)) a ≡ 0
    ahead-first =
        cores-none m (λ b. member b (a ∷ onward) && before m b a) (λ b _ t.
        let both = (T_and (member b (a ∷ onward)) (before m b a)).0 t in
        let h = before-says m b a both.1 in
        ⊎_elim (λ e. before_irreflexive m a (subst (λ i. Before m i a) e h))
        (λ x. before_irreflexive m a (before_trans m a b a (first b x) h)) (said b a onward both.0))

    -- its width is ahead of one that it ranks before
    ahead-later : (b : ℕ) → Before m a b → ahead m (λ c. member c (a ∷ onward)) b ≡ ahead m (λ c. member c onward) b + m.width a
    ahead-later b h =
        cores_cons m (λ c. before m c b) a onward known new
        ∙ ap (λ (x : ℕ). ahead m (λ c. member c onward) b + x) (cost (before m a b) (m.width a) (before_is m a b h))

  taken-fits : (l : List ℕ) (used b : ℕ) → Sorted m l → In l → T (member b (walk m l used)) → Beside (walk m l used) used b
  unfolding walk member
  taken-fits [] used b s within t = absurd t
  taken-fits (a ∷ l) used b s within t =
      one (λ u. taken-fits l u b (rest a l used s within) (fewer a l used s within))
      (leb (used + m.width a) m.cores) (λ x. (T_leb (used + m.width a) m.cores).0 x) t
    where
      one : ((u : ℕ) → T (member b (walk m l u)) → Beside (walk m l u) u b) → (x : Bool) → (T x → used + m.width a ≤ m.cores)
          → T (member b (gone_on a l used x)) → Beside (gone_on a l used x) used b
      one ih true fit t =
          ⊎_elim (λ e. subst (λ i. Beside (a ∷ walk m l (used + m.width a)) used i) (sym e)
          (omega (arith, fit tt, ahead-first a l used s within)))
          (λ t. omega (
            arith,
            ih (used + m.width a) t,
            ahead-later a l used s within b (first a l used s within b t),
          ))
          (said b a (walk m l (used + m.width a)) t)
      one ih false fit t = ih used t

  fits-taken : (l : List ℕ) (used b : ℕ) → Sorted m l → In l → T (member b l) → Beside (walk m l used) used b
      → T (member b (walk m l used))
  unfolding walk Sorted member
  fits-taken [] used b s within t h = absurd t
  fits-taken (a ∷ l) used b s within t h =
      one (λ u. fits-taken l u b (rest a l used s within) (fewer a l used s within))
      (leb (used + m.width a) m.cores) (λ f le. f ((T_leb (used + m.width a) m.cores).1 le)) h
    where
      one : ((u : ℕ) → T (member b l) → Beside (walk m l u) u b → T (member b (walk m l u)))
          → (x : Bool) → ((¬ T x) → ¬ (used + m.width a ≤ m.cores)) → Beside (gone_on a l used x) used b
          → T (member b (gone_on a l used x))
      one ih true fit h =
          ⊎_elim (λ e. here b a (walk m l (used + m.width a)) e)
          (λ t. there b a (walk m l (used + m.width a)) (ih (used + m.width a) t
          (omega (arith, h, ahead-later a l used s within b (s.0 b t)))))
          (said b a l t)
      one ih false fit h =
          ⊎_elim (λ e. absurd (fit (λ x. x) (omega (arith, h, ap m.width e)))) (λ t. ih used t h) (said b a l t)

  -- no more cores than there are
  walk-cores : (l : List ℕ) (used : ℕ) → Sorted m l → In l → used ≤ m.cores
      → used + cores_of m (λ b. member b (walk m l used)) ≤ m.cores
  unfolding walk member
  walk-cores [] used s within h = omega (arith, h, cores-none m (λ b. member b []) (λ b _ t. t))
  walk-cores (a ∷ l) used s within h =
      one (λ u. walk-cores l u (rest a l used s within) (fewer a l used s within))
      (leb (used + m.width a) m.cores) (λ x. (T_leb (used + m.width a) m.cores).0 x)
    where
      all_of : (w : List ℕ) → cores_of m (λ b. member b w && true) ≡ cores_of m (λ b. member b w)
      all_of w = cores_ext m (λ b. member b w && true) (λ b. member b w) (λ b _. and-true (member b w))

      one : ((u : ℕ) → u ≤ m.cores → u + cores_of m (λ b. member b (walk m l u)) ≤ m.cores)
          → (x : Bool) → (T x → used + m.width a ≤ m.cores) → used + cores_of m (λ b. member b (gone_on a l used x)) ≤ m.cores
      one ih true fit =
          omega (
            arith,
            ih (used + m.width a) (fit tt),
            cores_cons m (λ _. true) a (walk m l (used + m.width a)) (known a l used s within) (new a l used s within),
            all_of (walk m l (used + m.width a)),
            all_of (a ∷ walk m l (used + m.width a)),
          )
      one ih false fit = ih used h

-- ---- the choice of a tick

-- An activity is active exactly where it is ready and fits beside the active that rank before it.
pub record Fits (m : Model) (rdy act : ℕ → Bool) : Type 0 where
  pub is_ready : (a : ℕ) → a < m.activities → T (act a) → T (rdy a)
  pub has_room : (a : ℕ) → a < m.activities → T (act a) → m.width a + ahead m act a ≤ m.cores
  pub is_active : (a : ℕ) → a < m.activities → T (rdy a) → m.width a + ahead m act a ≤ m.cores → T (act a)

-- the walk's choice: activity a is taken
unfoldable pub selected : Model → (ℕ → Bool) → ℕ → Bool
selected m rdy a = member a (walked m rdy)

pub selected-fits : (m : Model) (rdy : ℕ → Bool) → Fits m rdy (selected m rdy)
unfolding selected walked In
selected-fits m rdy = record {
  is_ready = λ a _ t. (ranked_says m rdy m.activities a (walk-says m (in_rank m rdy m.activities) 0 a t)).1;
  has_room = λ a _ t. omega (arith, taken-fits m (in_rank m rdy m.activities) 0 a (ranked_sorted m rdy m.activities) within t);
  is_active = λ a l r h.
      fits-taken m (in_rank m rdy m.activities) 0 a (ranked_sorted m rdy m.activities) within
      (ranked_has m rdy m.activities a l r) (omega arith);
}
  where
    within : In m (in_rank m rdy m.activities)
    within b t = (ranked_says m rdy m.activities b t).0

pub selected-few : (m : Model) (rdy : ℕ → Bool) → cores_of m (selected m rdy) ≤ m.cores
unfolding selected walked In
selected-few m rdy =
    omega (
      arith,
      walk-cores m (in_rank m rdy m.activities) 0 (ranked_sorted m rdy m.activities)
          (λ b t. (ranked_says m rdy m.activities b t).0) (omega arith),
    )

-- Two that fit agree on an activity if the ready agree on it and on those that rank before it.
module _ (m : Model) (rdy rdy' act act' : ℕ → Bool) (fits : Fits m rdy act) (fits' : Fits m rdy' act') where
  -- the ready agree on those that rank before a
  abbrev Ahead : ℕ → Type 0
  Ahead a = (b : ℕ) → b < m.activities → Before m b a → rdy b ≡ rdy' b

  fits_below : (k a : ℕ) → a < m.activities → place m a < k → rdy a ≡ rdy' a → Ahead a → act a ≡ act' a
  fits_below zero a l h same ahead-same = absurd (omega arith)
  fits_below (suc k) a l h same ahead-same =
      let as_many : ahead m act a ≡ ahead m act' a =
      cores_ext m (λ b. act b && before m b a) (λ b. act' b && before m b a) (λ b lb.
      and_same (act b) (act' b) (before m b a) (λ t.
      let first = before-says m b a t in
      fits_below k b lb (omega (arith, place_less m b a lb first)) (ahead-same b lb first)
      (λ c lc g. ahead-same c lc (before_trans m c b a g first)))) in
      T_ext (act a) (act' a)
      (λ t. fits'.is_active a l (subst T same (fits.is_ready a l t)) (omega (arith, as_many, fits.has_room a l t)))
      (λ t. fits.is_active a l (subst T (sym same) (fits'.is_ready a l t)) (omega (arith, as_many, fits'.has_room a l t)))

  pub fits-same : (a : ℕ) → a < m.activities → rdy a ≡ rdy' a → Ahead a → act a ≡ act' a
  fits-same a l same ahead-same = fits_below (suc (place m a)) a l (omega arith) same ahead-same

-- Whether an activity is selected depends only on the ready that rank before it, and on itself.
pub selected_local : (m : Model) (rdy rdy' : ℕ → Bool) (a : ℕ) → a < m.activities → rdy a ≡ rdy' a
    → ((b : ℕ) → b < m.activities → Before m b a → rdy b ≡ rdy' b)
    → selected m rdy a ≡ selected m rdy' a
selected_local m rdy rdy' a = fits-same m rdy rdy' _ _ (selected-fits m rdy) (selected-fits m rdy') a

-- those that fit are the selected
pub fits-selected : (m : Model) (rdy act : ℕ → Bool) → Fits m rdy act → (a : ℕ) → a < m.activities → act a ≡ selected m rdy a
fits-selected m rdy act fits a l = fits-same m rdy rdy act (selected m rdy) fits (selected-fits m rdy) a l refl (λ _ _ _. refl)

-- What rules 28 to 31 say of a tick whose active are `act`: they are ready, they take at most c cores, and a ready one that is
-- not active, though it would fit beside the active that rank before it, ranks before none where all c are taken, and there is
-- none where fewer are.
pub record Picked (m : Model) (rdy act : ℕ → Bool) : Type 0 where
  pub are_ready : (a : ℕ) → a < m.activities → T (act a) → T (rdy a)
  pub at_most : cores_of m act ≤ m.cores
  pub not-idle : cores_of m act < m.cores → (b : ℕ) → b < m.activities → T (rdy b)
      → m.width b + ahead m act b ≤ m.cores → T (act b)
  pub in_order : cores_of m act ≡ m.cores → (b a : ℕ) → b < m.activities → a < m.activities
      → T (rdy b) → m.width b + ahead m act b ≤ m.cores → (¬ T (act b)) → T (act a) → ¬ Before m b a

-- where every activity takes a core, those are the ones that fit
pub picked_fits : (m : Model) (rdy act : ℕ → Bool) → ((a : ℕ) → a < m.activities → 1 ≤ m.width a)
    → Picked m rdy act → Fits m rdy act
picked_fits m rdy act wide p = record {
  is_ready = p.are_ready;
  has_room = λ a l t. omega (arith, ahead-room m act a l t, p.at_most);
  is_active = λ b l r h. ⊎_elim (λ x. x)
      (λ idle. elim (dec_lt (cores_of m act) m.cores) [
        | yes few ↦ p.not-idle few b l r h
        | no many ↦ absurd (outranks b l r h idle (omega (arith, p.at_most)))
      ])
      (dec_t (act b));
}
  where
    outranks : (b : ℕ) → b < m.activities → T (rdy b) → m.width b + ahead m act b ≤ m.cores → (¬ T (act b))
        → cores_of m act ≡ m.cores → ⊥
    outranks b l r h idle all =
        let found = not-ahead m act b (omega (arith, wide b l)) in
        p.in_order all b found.0 l found.1 r h idle found.2 (
        ⊎_elim (λ x. x) (λ x. absurd (found.3 (before_is m found.0 b x)))
        (before-total m b found.0 (λ e. idle (subst (λ i. T (act i)) (sym e) found.2))))
