-- The walk along the places of the ranking takes what the machine's walk takes of the ready.
-- Assumes nothing.
use Prim.Native.Nat.{ℕ, zero, suc, ◌+◌, ◌-◌, ◌^◌, ◌≤◌, ◌<◌}
use native.Mathlib.Decide.{dec_lt, ℕ_discrete}
use native.Mathlib.Nat.{lt_of_le_of_lt, lt_of_lt_of_le}
use native.Mathlib.Omega.{arith}
use mathlib.Core.Bool.{Bool, ◌&&◌, ◌||◌, not, and-true, or-true, or-false}
use mathlib.Core.List.{List}
use mathlib.Core.Logic.{◌↔◌, ⊎_elim}
use mathlib.Core.Path.{◌≡◌, refl, sym, subst, ap, ap₂, ◌∙◌}
use lib.Bits.{bit_and, bit_or, and_le_l, or_lt, and_zero_l}
use lib.Dec.{T, eqb, leb, ltb}
use lib.ListN.{get_or}
use lib.Pow.{pow_mono}
use borrow.Author.Tests.{le-leb, lt-leb, lt-ltb, eq-eqb, ne_eqb}
use Rattle.schedule.specs.Bounded.{bit, lowest, word_of}
use Rattle.schedule.specs.Model.{Model}
use Rattle.schedule.specs.Machine.{before}
use Rattle.schedule.specs.Checks.{cores_of, ahead}
use Rattle.laws.proofs.Tests.{tests, T_and, below_suc}
use Rattle.laws.proofs.Counting.{T_true, T_false, T_ext}
use Rattle.laws.proofs.Words.{bit_high, bit_wordOf, word_ext, wordOf_ext, wordOf_lt}
use Rattle.laws.proofs.WordLaws.{and_words, bit-bit_and, bit-bit_or, bit_not, word_none, zero_bits}
use Rattle.laws.proofs.Rank.{place}
use Rattle.laws.proofs.Cores.{cores_ext, cores-more, cores-none}
use Rattle.laws.proofs.Selection.{selected, selected-fits}
use Rattle.bits.proofs.Apart.{lowest_set}
use Rattle.machine.specs.declared.inputs.Tables.{Tables}
use Rattle.machine.specs.declared.tick.Walk.{Walk}
use Rattle.machine.proofs.OrderLaws.{place_lt, place_same, before_place}
use Rattle.machine.specs.Masks.{passing, taking, walked_from, at_place, Tabled}

-- ---- words

-- | of two words, and & with the opposite of one
or_words : (n : ℕ) (p q : ℕ → Bool) → bit_or (word_of n p) (word_of n q) ≡ word_of n (λ b. p b || q b)
or_words n p q =
    word_ext n _ _ (or_lt n _ _ (wordOf_lt n p) (wordOf_lt n q)) (wordOf_lt n _) (λ b l.
    bit-bit_or (word_of n p) (word_of n q) b
    ∙ ap₂ ◌||◌ (bit_wordOf n p b l) (bit_wordOf n q b l)
    ∙ sym (bit_wordOf n (λ b. p b || q b) b l))

and_not-words : (n : ℕ) (p q : ℕ → Bool) → n ≤ 32
    → bit_and (word_of n p) ((2 ^ 32 - 1) - word_of n q) ≡ word_of n (λ b. p b && not (q b))
and_not-words n p q few =
    word_ext n _ _ (lt_of_le_of_lt (and_le_l (word_of n p) _) (wordOf_lt n p)) (wordOf_lt n _) (λ b l.
    bit-bit_and (word_of n p) _ b
    ∙ ap₂ ◌&&◌ (bit_wordOf n p b l)
    (bit_not 32 (word_of n q) b (lt_of_lt_of_le (wordOf_lt n q) (pow_mono few)) (omega arith) ∙ ap not (bit_wordOf n q b l))
    ∙ sym (bit_wordOf n (λ b. p b && not (q b)) b l))

-- a word that is 0 has no number
none_in : (n : ℕ) (p : ℕ → Bool) → word_of n p ≡ 0 → (b : ℕ) → b < n → ¬ T (p b)
none_in n p e b l t = subst T (sym (bit_wordOf n p b l) ∙ (zero_bits n (word_of n p) (wordOf_lt n p)).0 e b l) t

-- and another has a lowest number
word_some : (n : ℕ) (p : ℕ → Bool) → n ≤ 32 → ¬ (word_of n p ≡ 0)
    → (lowest 32 (bit (word_of n p)) < n) × T (p (lowest 32 (bit (word_of n p))))
word_some n p few more = (known, subst T (bit_wordOf n p _ known) is_set)
  where
    is_set : T (bit (word_of n p) (lowest 32 (bit (word_of n p))))
    is_set = subst T (sym (lowest_set (word_of n p) _ (lt_of_lt_of_le (wordOf_lt n p) (pow_mono few)) more refl)) tt

    known : lowest 32 (bit (word_of n p)) < n
    known = elim (dec_lt (lowest 32 (bit (word_of n p))) n) [
      | yes l ↦ l
      | no l ↦ absurd (bit_high (word_of n p) n _ (wordOf_lt n p) (omega arith) is_set)
    ]

-- ---- the walk, place by place

-- where none is still to come, no place makes a difference
taking-none : (w : Walk) (width : List ℕ) (mask : ℕ) → w.rest ≡ 0 → taking w width mask ≡ w
unfolding taking
taking-none w width mask e = rw (eq-eqb (bit_and w.rest mask) 0 (ap (λ (x : ℕ). bit_and x mask) e ∙ and_zero_l mask))

pub walk_over : (ready : ℕ) (tables : Tables) (k j : ℕ) → k ≤ j → (walked_from ready tables k).rest ≡ 0
    → walked_from ready tables k ≡ walked_from ready tables j
unfolding walked_from
walk_over ready tables k zero h e = let first : k ≡ 0 = omega arith in ap (walked_from ready tables) first
walk_over ready tables k (suc j) h e = ⊎_elim
    (λ (l : k < suc j).
    let same = walk_over ready tables k j (omega arith) e in
    same ∙ sym (taking-none _ _ _ (ap (λ (w : Walk). w.rest) (sym same) ∙ e)))
    (λ (last : k ≡ suc j). ap (walked_from ready tables) last)
    (below_suc k (suc j) (omega arith))

module _ (m : Model) (release : ℕ → ℕ) (tables : Tables) (tabled : Tabled m release tables) (rdy : ℕ → Bool) where
  abbrev n : ℕ
  n = m.activities

  -- the activity at place k, if it is ready
  here : ℕ → ℕ → Bool
  here k a = rdy a && eqb (place m a) k

  -- the ready from place k on
  later : ℕ → ℕ → Bool
  later k a = rdy a && leb k (place m a)

  -- what the machine selects at the places below k
  so_far : ℕ → ℕ → Bool
  so_far k a = selected m rdy a && ltb (place m a) k

  -- the walk has these still to come, and has taken those; the other cores are left
  Taken : ℕ → Walk → Type 0
  Taken k w = (w.rest ≡ word_of n (later k)) × (w.word ≡ word_of n (so_far k)) × (w.room + cores_of m (so_far k) ≡ m.cores)

  taken_none : Taken 0 (record { rest = word_of n rdy; word = 0; room = tables.cores })
  unfolding Taken later so_far
  taken_none = (
    wordOf_ext n rdy (later 0) (λ b _. sym (ap (λ (t : Bool). rdy b && t) (le-leb 0 (place m b) (omega arith)) ∙ and-true (rdy b))),
    sym (word_none n (so_far 0) (λ b l. T_false (so_far 0 b) (none_yet b l))),
    omega (arith, tabled.sizes.1, cores-none m (so_far 0) none_yet),
  )
    where
      none_yet : (b : ℕ) → b < n → ¬ T (so_far 0 b)
      none_yet b _ t = let h = simp tests at t in omega (arith, h.1)

  -- what place k changes
  here_later : (k b : ℕ) → (later k b && eqb (place m b) k) ≡ here k b
  unfolding later here
  here_later k b =
      T_ext _ _
      (λ t. let h = simp tests at t in simp tests (h.0.0, h.1))
      (λ t. let h = simp tests at t in simp tests ((h.0, omega (arith, h.1)), h.1))

  later_next : (k b : ℕ) → (later k b && not (here k b)) ≡ later (suc k) b
  unfolding later here
  later_next k b =
      T_ext _ _
      (λ t. let h = simp tests at t in let ne : ¬ (place m b ≡ k) = λ e. h.1 (h.0.0, e) in simp tests (h.0.0, omega (arith, h.0.1)))
      (λ t. let h = simp tests at t in simp tests ((h.0, omega (arith, h.1)), λ x. omega (arith, h.1, x.1)))

  soFar_next : (k b : ℕ) → (place m b ≡ k → ¬ T (selected m rdy b)) → so_far k b ≡ so_far (suc k) b
  unfolding so_far
  soFar_next k b other =
      T_ext _ _
      (λ t. let h = simp tests at t in simp tests (h.0, omega (arith, h.1)))
      (λ t. let h = simp tests at t in
      let ne : ¬ (place m b ≡ k) = λ e. other e h.0 in simp tests (h.0, omega (arith, h.1)))

  module _ (k : ℕ) (w : Walk) (taken : Taken k w) where
    -- the activity at place k, if it is ready, as a word
    here_word : bit_and w.rest (at_place m k) ≡ word_of n (here k)
    unfolding Taken at_place
    here_word =
        ap (λ (x : ℕ). bit_and x (at_place m k)) taken.0
        ∙ and_words n n (later k) (λ a. eqb (place m a) k) (omega arith)
        ∙ wordOf_ext n _ (here k) (λ b _. here_later k b)

    -- none is ready there
    taken-same : ((b : ℕ) → b < n → ¬ T (here k b)) → Taken (suc k) w
    unfolding Taken here
    taken-same none_here = (
      taken.0 ∙ wordOf_ext n (later k) (later (suc k)) (λ b l.
          sym (ap (λ (t : Bool). later k b && not t) (T_false (here k b) (none_here b l)) ∙ and-true (later k b)) ∙ later_next k b),
      taken.1 ∙ wordOf_ext n (so_far k) (so_far (suc k)) same,
      omega (arith, taken.2, cores_ext m (so_far k) (so_far (suc k)) same),
    )
      where
        same : (b : ℕ) → b < n → so_far k b ≡ so_far (suc k) b
        same b l = soFar_next k b (λ e t. none_here b l (simp tests ((selected-fits m rdy).is_ready b l t, e)))

    -- one is, a
    module _ (a : ℕ) (l : a < n) (ready : T (here k a)) where
      at_k : place m a ≡ k
      unfolding here
      at_k = let h = simp tests at ready in h.1

      only : (b : ℕ) → b < n → place m b ≡ k → b ≡ a
      only b lb e = place_same m b a lb l (e ∙ sym at_k)

      -- it fits beside what is taken exactly where the machine selects it
      selected_here : (m.width a ≤ w.room) ↔ T (selected m rdy a)
      unfolding Taken here so_far
      selected_here = (
        λ h. (selected-fits m rdy).is_active a l ((T_and (rdy a) _).0 ready).0 (omega (arith, beside)),
        λ t. omega (arith, beside, (selected-fits m rdy).has_room a l t),
      )
        where
          beside : w.room + ahead m (selected m rdy) a ≡ m.cores
          beside =
              omega (
                arith,
                taken.2,
                cores_ext m (λ b. selected m rdy b && before m b a) (so_far k) (λ b lb.
                    ap (λ (t : Bool). selected m rdy b && t) (before_place m b a lb l ∙ ap (λ (j : ℕ). ltb (place m b) j) at_k)),
              )

      -- it is still to come no more
      rest_next : bit_and w.rest ((2 ^ 32 - 1) - word_of n (here k)) ≡ word_of n (later (suc k))
      unfolding Taken
      rest_next =
          ap (λ (x : ℕ). bit_and x ((2 ^ 32 - 1) - word_of n (here k))) taken.0
          ∙ and_not-words n (later k) (here k) tabled.few
          ∙ wordOf_ext n _ (later (suc k)) (λ b _. later_next k b)

      -- the others stand elsewhere
      others : (b : ℕ) → b < n → ¬ (b ≡ a) → so_far k b ≡ so_far (suc k) b
      others b lb ne = soFar_next k b (λ e _. ne (only b lb e))

      -- it is taken
      taken_more : m.width a ≤ w.room
          → Taken (suc k) (record {
            rest = bit_and w.rest ((2 ^ 32 - 1) - word_of n (here k));
            word = bit_or w.word (word_of n (here k));
            room = w.room - m.width a;
          })
      unfolding Taken here so_far
      taken_more fits = (
        rest_next,
        ap (λ (x : ℕ). bit_or x (word_of n (here k))) taken.1
            ∙ or_words n (so_far k) (here k)
            ∙ wordOf_ext n _ (so_far (suc k)) with_it,
        omega (arith, taken.2, cores-more m (so_far k) (so_far (suc k)) a l was now others),
      )
        where
          was : ¬ T (so_far k a)
          was t = let h = simp tests at t in omega (arith, h.1, at_k)

          now : T (so_far (suc k) a)
          now = simp tests (selected_here.0 fits, omega (arith, at_k))

          with_it : (b : ℕ) → b < n → (so_far k b || here k b) ≡ so_far (suc k) b
          with_it b lb = elim (ℕ_discrete b a) [
            | yes e ↦ subst (λ i. (so_far k i || here k i) ≡ so_far (suc k) i) (sym e)
                (ap (λ (t : Bool). so_far k a || t) (T_true (here k a) ready) ∙ or-true (so_far k a) ∙ sym (T_true (so_far (suc k) a) now))
            | no ne ↦
                ap (λ (t : Bool). so_far k b || t) (T_false (here k b) (λ t. let h = simp tests at t in ne (only b lb h.1)))
                ∙ or-false (so_far k b)
                ∙ others b lb ne
          ]

      -- it is not
      taken-past : w.room < m.width a
          → Taken (suc k) (record {
            rest = bit_and w.rest ((2 ^ 32 - 1) - word_of n (here k));
            word = w.word;
            room = w.room;
          })
      unfolding Taken
      taken-past wide = (
        rest_next,
        taken.1 ∙ wordOf_ext n (so_far k) (so_far (suc k)) same,
        omega (arith, taken.2, cores_ext m (so_far k) (so_far (suc k)) same),
      )
        where
          same : (b : ℕ) → b < n → so_far k b ≡ so_far (suc k) b
          same b lb = soFar_next k b (λ e t.
              let fits = selected_here.1 (subst (λ i. T (selected m rdy i)) (only b lb e) t) in omega arith)

      taken_there : Taken (suc k) (passing w (m.width a) (word_of n (here k)))
      unfolding passing
      taken_there = elim (dec_lt w.room (m.width a)) [
        | yes wide ↦ rw (lt-leb (m.width a) w.room wide) (taken-past wide)
        | no fits ↦ rw (le-leb (m.width a) w.room (omega arith)) (taken_more (omega arith))
      ]

    -- the walk past place k
    taken_next : k < n → Taken (suc k) (taking w tables.widths (get_or tables.order k 0))
    unfolding taking
    taken_next lk =
        rw (tabled.rank_order k lk, here_word)
        (elim (ℕ_discrete (word_of n (here k)) 0) [
          | yes e ↦ rw (eq-eqb (word_of n (here k)) 0 e) (taken-same (none_in n (here k) e))
          | no ne ↦
              let some_one = word_some n (here k) tabled.few ne in
              rw (ne_eqb (word_of n (here k)) 0 ne, tabled.width_cores _ some_one.0) (taken_there _ some_one.0 some_one.1)
        ])

  taken-all : (k : ℕ) → k ≤ n → Taken k (walked_from (word_of n rdy) tables k)
  unfolding walked_from
  taken-all zero h = taken_none
  taken-all (suc k) h = taken_next k _ (taken-all k (omega arith)) (omega arith)

  -- the word of the walk is that of what the machine selects
  pub walk_is : (walked_from (word_of n rdy) tables n).word ≡ word_of n (selected m rdy)
  unfolding Taken so_far
  walk_is =
      (taken-all n (omega arith)).1
      ∙ wordOf_ext n (so_far n) (selected m rdy) (λ b l.
      ap (λ (t : Bool). selected m rdy b && t) (lt-ltb (place m b) n (place_lt m b l)) ∙ and-true (selected m rdy b))
