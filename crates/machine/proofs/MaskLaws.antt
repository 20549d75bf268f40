-- What the tables say of a tick: the masks are the machine's ready and selected activities.
-- Assumes nothing.
use Prim.Native.Nat.{ℕ, ◌+◌, ◌-◌, ◌^◌, ◌≤◌, ◌<◌}
use native.Mathlib.Decide.{ℕ_discrete}
use native.Mathlib.Nat.{lt_of_le_of_lt, lt_of_lt_of_le}
use native.Mathlib.Numerals.{add-one}
use native.Mathlib.Omega.{arith}
use mathlib.Core.Bool.{Bool, true, false, ◌&&◌, not, cond, and-true}
use mathlib.Core.List.{List}
use mathlib.Core.Logic.{◌↔◌, ⊎_elim}
use mathlib.Core.Path.{◌≡◌, refl, sym, subst, ap, ap₂, ◌∙◌}
use lib.Bits.{bit_and, and_le_l}
use lib.Dec.{T, eqb, leb, ltb}
use lib.ListN.{length, get_or, set, replicate, get_or-replicate, length-set}
use lib.Seq.{get_or-set_same, get_or-set_other}
use lib.Pow.{pow_mono}
use borrow.Author.Tests.{lt-ltb}
use Rattle.schedule.specs.Bounded.{all, bit, lowest, word_of, ◌⇒◌}
use Rattle.schedule.specs.Model.{Model, temporally, by_data}
use Rattle.schedule.specs.Machine.{State, owes, ended_by, ready, word_at, initial, state_at, machine_word}
use Rattle.laws.proofs.Tests.{T_and, T_not, T_all, T_implies, T_eqb, T_ltb}
use Rattle.laws.proofs.Counting.{dec_t, T_ext, T_true, T_false, all_ext}
use Rattle.laws.proofs.MachineLaws.{owes_next, end_next, getD_table}
use Rattle.laws.proofs.Words.{wordOf_ext, wordOf_lt, bit_wordOf}
use Rattle.laws.proofs.WordLaws.{bit-bit_and, bit_not, bit-zero, zero_bits}
use Rattle.bits.proofs.Apart.{lowest_lt, lowest_set, gone, kept, still_within, none-taken}
use Rattle.schedule.specs.Bounded.{without_bit}
use Rattle.machine.specs.Masks.{covered, ended_from, ended_mask, ready_from, walked_from, ready_mask, tick_word}
use Rattle.machine.specs.declared.inputs.Tables.{Tables}
use Rattle.machine.specs.Masks.{Tabled, Keeps, Stepped}
use Rattle.tables.specs.Columns.{TableOf, among_activities}
use Rattle.tables.proofs.TableLaws.{among_lt, bit-among}
use Rattle.machine.proofs.WalkLaws.{walk_is}
use Rattle.laws.proofs.Selection.{selected}

-- every bit of x is a bit of y, bit by bit
pub covered-says : (x y : ℕ) → x < 2 ^ 32 → y < 2 ^ 32 → T (covered x y) ↔ ((b : ℕ) → b < 32 → T (bit x b) → T (bit y b))
unfolding covered
covered-says x y hx hy = (there, back)
  where
    rest : ℕ
    rest = (2 ^ 32 - 1) - y

    small : bit_and x rest < 2 ^ 32
    small = lt_of_le_of_lt (and_le_l x rest) hx

    bit-rest : (b : ℕ) → b < 32 → bit (bit_and x rest) b ≡ (bit x b && not (bit y b))
    bit-rest b l = bit-bit_and x rest b ∙ ap (λ (t : Bool). bit x b && t) (bit_not 32 y b hy l)

    there : T (eqb (bit_and x rest) 0) → (b : ℕ) → b < 32 → T (bit x b) → T (bit y b)
    there t b l hb =
        let none_left = (zero_bits 32 (bit_and x rest) small).0 ((T_eqb (bit_and x rest) 0).0 t) b l in
        ⊎_elim (λ h. h)
        (λ h. absurd (subst T (sym (bit-rest b l) ∙ none_left) ((T_and (bit x b) (not (bit y b))).1 (hb, (T_not (bit y b)).1 h))))
        (dec_t (bit y b))

    back : ((b : ℕ) → b < 32 → T (bit x b) → T (bit y b)) → T (eqb (bit_and x rest) 0)
    back h =
        (T_eqb (bit_and x rest) 0).1 ((zero_bits 32 (bit_and x rest) small).1
        (λ b l. bit-rest b l ∙ T_false _ (λ t.
        let both = (T_and (bit x b) (not (bit y b))).0 t in
        (T_not (bit y b)).0 both.1 (h b l both.0))))

and_assoc : (a b c : Bool) → (a && (b && c)) ≡ ((a && b) && c)
and_assoc true b c = refl
and_assoc false b c = refl

-- a mask whose bits stand below n is covered by the word of a predicate exactly when all its bits have the property
covered-all : (n x : ℕ) (p : ℕ → Bool) → n ≤ 32 → x < 2 ^ 32 → ((b : ℕ) → b < 32 → T (bit x b) → b < n)
    → covered x (word_of n p) ≡ all n (λ b. bit x b ⇒ p b)
covered-all n x p few small low = T_ext _ _ there back
  where
    narrow : word_of n p < 2 ^ 32
    narrow = lt_of_lt_of_le (wordOf_lt n p) (pow_mono few)

    there : T (covered x (word_of n p)) → T (all n (λ b. bit x b ⇒ p b))
    there t =
        (T_all n (λ b. bit x b ⇒ p b)).1 (λ b l. (T_implies (bit x b) (p b)).1 (λ h.
        subst T (bit_wordOf n p b l) ((covered-says x (word_of n p) small narrow).0 t b (omega arith) h)))

    back : T (all n (λ b. bit x b ⇒ p b)) → T (covered x (word_of n p))
    back t =
        (covered-says x (word_of n p) small narrow).1 (λ b l h.
        let lb = low b l h in
        subst T (sym (bit_wordOf n p b lb)) ((T_implies (bit x b) (p b)).0 ((T_all n (λ b. bit x b ⇒ p b)).0 t b lb) h))

-- the same of a mask of activities
covered-among : (m : Model) (q p : ℕ → Bool) → m.activities ≤ 32
    → covered (among_activities m q) (word_of m.activities p) ≡ all m.activities (λ b. q b ⇒ p b)
covered-among m q p few =
    covered-all m.activities (among_activities m q) p few (among_lt m q) (λ b l h. low b (subst T (bit-among m q b l) h))
    ∙ all_ext m.activities _ _ (λ b l.
    ap (λ (t : Bool). t ⇒ p b)
    (bit-among m q b (omega arith) ∙ ap (λ (t : Bool). t && q b) (lt-ltb b m.activities l)))
  where
    low : (b : ℕ) → T (ltb b m.activities && q b) → b < m.activities
    low b h = (T_ltb b m.activities).0 ((T_and (ltb b m.activities) (q b)).0 h).0

module _ (m : Model) (release : ℕ → ℕ) (tables : Tables) (tabled : Tabled m release tables) where
  -- the activities that have ended with their delay are those of the definition
  ended_is : (s : State) (owed ends waits : List ℕ) (delay : ℕ → ℕ) (t : ℕ) → Keeps m s owed ends → TableOf m waits delay
      → ended_mask m.activities owed ends waits t ≡ word_of m.activities (λ b. ended_by s b (delay b) t)
  unfolding ended_from ended_mask ended_by
  ended_is s owed ends waits delay t keeps held =
      wordOf_ext m.activities _ _ (λ b l.
      ap₂ ◌&&◌ (ap (λ (x : ℕ). eqb x 0) (keeps.owed_ticks b l))
      (ap₂ (λ (x y : ℕ). leb (x + y) t) (keeps.end_ticks b l) (held b l)))

  ready_is : (s : State) (owed ends none : List ℕ) (t : ℕ) → Keeps m s owed ends → TableOf m none (λ _. 0)
      → (a : ℕ) → a < m.activities
      → ready_from tables owed (ended_mask m.activities owed ends tables.delays t)
      (ended_mask m.activities owed ends none t) t a
      ≡ ready m release t s a
  unfolding ready_from ready
  ready_is s owed ends none t keeps held a l =
      ap₂ ◌&&◌ (ap (λ (x : ℕ). ltb 0 x) (keeps.owed_ticks a l))
      (ap₂ ◌&&◌ (ap (λ (x : ℕ). leb x t) (tabled.release_ticks a l))
      (ap₂ ◌&&◌
      (ap₂ covered (tabled.temporal_masks a l)
      (ended_is s owed ends tables.delays m.delay t keeps tabled.delay_ticks)
      ∙ covered-among m (λ b. temporally m b a) (λ b. ended_by s b (m.delay b) t) tabled.few)
      (ap₂ covered (tabled.data_masks a l) (ended_is s owed ends none (λ _. 0) t keeps held)
      ∙ covered-among m (λ b. by_data m b a) (λ b. ended_by s b 0 t) tabled.few)))
      ∙ and_assoc (ltb 0 (owes s a)) (leb (release (m.thread a)) t) _

  -- the ready mask holds the ready
  pub ready_mask_is : (s : State) (owed ends none : List ℕ) (t : ℕ) → Keeps m s owed ends → TableOf m none (λ _. 0)
      → ready_mask tables none owed ends t ≡ word_of m.activities (ready m release t s)
  unfolding ready_mask
  ready_mask_is s owed ends none t keeps held =
      ap (λ (n : ℕ). word_of n (ready_from tables owed (ended_mask n owed ends tables.delays t) (ended_mask n owed ends none t) t))
      tabled.sizes.0
      ∙ wordOf_ext m.activities _ _ (ready_is s owed ends none t keeps held)

  -- a tick on whole words is the machine's
  pub tick_is : (s : State) (owed ends : List ℕ) (t : ℕ) → Keeps m s owed ends
      → tick_word tables owed ends t ≡ word_at m release t s
  unfolding tick_word word_at selected
  tick_is s owed ends t keeps =
      ap₂ (λ (w k : ℕ). (walked_from w tables k).word)
      (ready_mask_is s owed ends (replicate 32 0) t keeps (λ b l. get_or-replicate 32 b 0 0 (omega (arith, tabled.few))))
      tabled.sizes.0
      ∙ walk_is m release tables tabled (ready m release t s)

-- ---- the tables from tick to tick

-- at the beginning: each activity owes its duration, and no end is known
pub keeps-first : (m : Model) (release duration : ℕ → ℕ) (owed ends : List ℕ) → TableOf m owed duration → TableOf m ends (λ _. 0)
    → Keeps m (state_at m release duration 0) owed ends
unfolding state_at initial
keeps-first m release duration owed ends h k = record {
  owed_ticks = λ a l. h a l ∙ sym (getD_table 0 m.activities duration a l);
  end_ticks = λ a l. k a l ∙ sym (getD_table 0 m.activities (λ _. 0) a l);
}

-- after a tick with the machine's word
pub keeps_next : (m : Model) (release duration : ℕ → ℕ) (t word : ℕ) (owed ends owed' ends' : List ℕ)
    → word ≡ machine_word m release duration t
    → Keeps m (state_at m release duration t) owed ends → Stepped m.activities word t owed ends owed' ends'
    → Keeps m (state_at m release duration (t + 1)) owed' ends'
keeps_next m release duration t word owed ends owed' ends' e keeps next =
    rw (add-one t)
    (record {
      owed_ticks = λ a l.
          next.owed_less a l
          ∙ ap₂ (λ (x w : ℕ). x - cond (bit w a) 1 0) (keeps.owed_ticks a l) e
          ∙ sym (owes_next m release duration t a l);
      end_ticks = λ a l.
          next.ends_next a l
          ∙ ap (λ (x : ℕ). cond (bit word a && eqb x 1) (t + 1) (get_or ends a 0)) (keeps.owed_ticks a l)
          ∙ ap₂ (λ (x w : ℕ). cond (bit w a && eqb (owes (state_at m release duration t) a) 1) (t + 1) x) (keeps.end_ticks a l) e
          ∙ sym (end_next m release duration t a l);
    })

-- ---- the tests

-- what is not nothing is something
pub pos-ltb : (x : ℕ) → (x ≡ 0 → ⊥) → ltb 0 x ≡ true
pos-ltb x h = lt-ltb 0 x (omega arith)

-- ---- a step, bit by bit of the word

-- the tables with the activities stepped that the word has and the rest has not
pub record Stepping (word t rest : ℕ) (owed ends owed' ends' : List ℕ) : Type 0 where
  pub fits : rest < 2 ^ 32
  pub within : (a : ℕ) → a < 32 → T (bit rest a) → T (bit word a)
  pub sized : (length owed' ≡ 32) × (length ends' ≡ 32)
  pub owed_less : (a : ℕ) → a < 32 → get_or owed' a 0 ≡ get_or owed a 0 - cond (bit word a && not (bit rest a)) 1 0
  pub ends_next : (a : ℕ) → a < 32
      → get_or ends' a 0 ≡ cond ((bit word a && not (bit rest a)) && eqb (get_or owed a 0) 1) (t + 1) (get_or ends a 0)

-- nothing is taken where a test fails
pub nothing_less : (x : ℕ) (t : Bool) → t ≡ false → x ≡ x - cond t 1 0
nothing_less x t e = omega (arith, ap (λ (b : Bool). x - cond b 1 0) e)

pub stepping_start : (word t : ℕ) (owed ends : List ℕ) → word < 2 ^ 32 → length owed ≡ 32 → length ends ≡ 32
    → Stepping word t word owed ends owed ends
stepping_start word t owed ends fits h k = record {
  fits = fits;
  within = λ a l x. x;
  sized = (h, k);
  owed_less = λ a l. nothing_less (get_or owed a 0) (bit word a && not (bit word a)) (none-taken (bit word a));
  ends_next = λ a l. sym (ap (λ (x : Bool). cond (x && eqb (get_or owed a 0) 1) (t + 1) (get_or ends a 0)) (none-taken (bit word a)));
}

-- the lowest of the rest is stepped
pub stepping_next : (word t rest a less end : ℕ) (owed ends owed' ends' : List ℕ) → Stepping word t rest owed ends owed' ends'
    → ¬ (rest ≡ 0) → a ≡ lowest 32 (bit rest) → without_bit rest a < 2 ^ 32
    → less ≡ get_or owed' a 0 - 1 → end ≡ cond (eqb (get_or owed' a 0) 1) (t + 1) (get_or ends' a 0)
    → Stepping word t (without_bit rest a) owed ends (set owed' a less) (set ends' a end)
stepping_next word t rest a less end owed ends owed' ends' h more low fits o f = record {
  fits = fits;
  within = still_within rest a h.fits more low word h.within;
  sized = (length-set owed' a less ∙ h.sized.0, length-set ends' a end ∙ h.sized.1);
  owed_less = λ i l. elim (ℕ_discrete i a) [
    | yes e ↦ subst (λ (j : ℕ). get_or (set owed' a less) j 0
        ≡ get_or owed j 0 - cond (bit word j && not (bit (without_bit rest a) j)) 1 0) (sym e)
        (get_or-set_same owed' a less 0 (omega (arith, here, h.sized.0)) ∙ o ∙ ap (λ (x : ℕ). x - 1) was
        ∙ sym (ap (λ (x : Bool). get_or owed a 0 - cond x 1 0) stepped))
    | no ne ↦ get_or-set_other owed' a i less 0 ne ∙ h.owed_less i l
        ∙ sym (ap (λ (x : Bool). get_or owed i 0 - cond (bit word i && not x) 1 0) (kept rest a h.fits more low i l ne))
  ];
  ends_next = λ i l. elim (ℕ_discrete i a) [
    | yes e ↦ subst (λ (j : ℕ). get_or (set ends' a end) j 0
        ≡ cond ((bit word j && not (bit (without_bit rest a) j)) && eqb (get_or owed j 0) 1) (t + 1) (get_or ends j 0)) (sym e)
        (get_or-set_same ends' a end 0 (omega (arith, here, h.sized.1)) ∙ f
        ∙ ap₂ (λ (x y : ℕ). cond (eqb x 1) (t + 1) y) was
        (h.ends_next a here ∙ ap (λ (x : Bool). cond (x && eqb (get_or owed a 0) 1) (t + 1) (get_or ends a 0)) waits)
        ∙ sym (ap (λ (x : Bool). cond (x && eqb (get_or owed a 0) 1) (t + 1) (get_or ends a 0)) stepped))
    | no ne ↦ get_or-set_other ends' a i end 0 ne ∙ h.ends_next i l
        ∙ sym (ap (λ (x : Bool). cond ((bit word i && not x) && eqb (get_or owed i 0) 1) (t + 1) (get_or ends i 0))
        (kept rest a h.fits more low i l ne))
  ];
}
  where
    here : a < 32
    here = lowest_lt rest a h.fits more low

    is_set : bit rest a ≡ true
    is_set = lowest_set rest a h.fits more low

    has : bit word a ≡ true
    has = T_true (bit word a) (h.within a here (subst T (sym is_set) tt))

    waits : (bit word a && not (bit rest a)) ≡ false
    waits = ap₂ (λ (x y : Bool). x && not y) has is_set

    stepped : (bit word a && not (bit (without_bit rest a) a)) ≡ true
    stepped = ap₂ (λ (x y : Bool). x && not y) has (gone rest a h.fits more low)

    was : get_or owed' a 0 ≡ get_or owed a 0
    was = h.owed_less a here ∙ sym (nothing_less (get_or owed a 0) (bit word a && not (bit rest a)) waits)

-- nothing is left
pub stepping_end : (word t rest : ℕ) (owed ends owed' ends' : List ℕ) → Stepping word t rest owed ends owed' ends' → rest ≡ 0
    → Stepped 32 word t owed ends owed' ends'
stepping_end word t rest owed ends owed' ends' h e = record {
  sized = h.sized;
  owed_less = λ a l. h.owed_less a l ∙ ap (λ (x : Bool). get_or owed a 0 - cond x 1 0) (all_done a);
  ends_next = λ a l. h.ends_next a l ∙ ap (λ (x : Bool). cond (x && eqb (get_or owed a 0) 1) (t + 1) (get_or ends a 0)) (all_done a);
}
  where
    all_done : (a : ℕ) → (bit word a && not (bit rest a)) ≡ bit word a
    all_done a = ap (λ (x : Bool). bit word a && not x) (ap (λ (w : ℕ). bit w a) e ∙ bit-zero a) ∙ and-true (bit word a)

-- a step of more activities than there are
pub stepped_fewer : (n word t : ℕ) (owed ends owed' ends' : List ℕ) → n ≤ 32 → Stepped 32 word t owed ends owed' ends'
    → Stepped n word t owed ends owed' ends'
stepped_fewer n word t owed ends owed' ends' few h = record {
  sized = h.sized;
  owed_less = λ a l. h.owed_less a (omega arith);
  ends_next = λ a l. h.ends_next a (omega arith);
}
