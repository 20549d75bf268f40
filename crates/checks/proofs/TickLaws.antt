-- What the tables say of a tick: the mask that `breaking` answers is the mask of the rule's broken places.
-- Assumes nothing.
use Prim.Native.Nat.{ℕ, ◌+◌, ◌^◌, ◌≤◌, ◌<◌}
use native.Mathlib.Decide.{dec_lt}
use native.Mathlib.Nat.{lt_of_le_of_lt, lt_of_lt_of_le}
use native.Mathlib.Omega.{arith}
use mathlib.Core.Bool.{Bool, true, false, ◌&&◌, ◌||◌, not, cond, and-true, and-false, or-true, or-false}
use mathlib.Core.List.{List}
use mathlib.Core.Path.{◌≡◌, refl, sym, subst, ap, ap₂, ◌∙◌}
use lib.Bits.{bit_and, and_le_l, and_zero_l}
use lib.Dec.{T, leb, ltb, eqb}
use lib.ListN.{get_or}
use lib.Pow.{pow_mono}
use borrow.Author.Tests.{le-leb, eq-eqb, ne_eqb}
use Rattle.schedule.specs.declared.TickRule.{TickRule}
use Rattle.schedule.specs.Bounded.{all, bit, with_bit, word_of}
use Rattle.schedule.specs.Model.{Model, priority_of}
use Rattle.schedule.specs.Plan.{Plan, active}
use Rattle.schedule.specs.Machine.{before}
use Rattle.schedule.specs.Checks.{waits, cores_of, ahead, contends}
use Rattle.schedule.specs.Opened.{check_rules}
use Rattle.laws.proofs.Tests.{T_all, T_and, T_eqb}
use Rattle.laws.proofs.Cores.{cores-more}
use Rattle.laws.proofs.Counting.{T_ext, T_false}
use Rattle.laws.proofs.Rank.{before-says, before_irreflexive}
use Rattle.laws.proofs.Words.{bit_high, bit_wordOf, word_ext, wordOf_ext, wordOf_lt}
use Rattle.laws.proofs.WordLaws.{bit-bit_and, bit-zero, bit_with, with_lt, and_words, word_none}
use Rattle.tables.specs.declared.loads.Widths.{Widths}
use Rattle.tables.specs.declared.ranking.Order.{Order}
use Rattle.tables.specs.Columns.{among_activities}
use Rattle.tables.specs.Loads.{widths_of, load_from}
use Rattle.tables.specs.Ranking.{ranks, ranking_of}
use Rattle.tables.proofs.LoadLaws.{load_is, load-none}
use Rattle.tables.proofs.TableLaws.{by_table, by_beyond, among-all}
use Rattle.checks.specs.declared.tick.Snapshot.{Snapshot}
use Rattle.checks.specs.Windows.{open_of, without}
use Rattle.checks.specs.declared.page.Tables.{Tables}
use Rattle.checks.specs.Tables.{broken_mask, Tabulated}
use Rattle.checks.specs.Ticks.{tick_rule, any, rank_mask, outranking, outranking_of, Ranked, contending_mask}
use Rattle.checks.specs.Ticks.{fits_from, contending_of, waiting_in, overloaded_of, contested_of, idle_of, breaking_of}
use Rattle.checks.proofs.WaitLaws.{waits_when, idle_mask, preemption_mask, tie_mask, cores_mask}

-- where nothing waits, nothing counts, and nothing breaks a rule that is tried of the waiting
none-contends : (widths : Widths) (befores : List ℕ) (word c waiting : ℕ) → waiting ≡ 0
    → contending_of widths befores word c waiting ≡ 0
unfolding contending_of
none-contends widths befores word c waiting e =
    word_none 32 _ (λ b _. ap (λ (w : ℕ). bit w b && fits_from widths befores word c b) e
    ∙ ap (λ (x : Bool). x && fits_from widths befores word c b) (bit-zero b))

either : (t : Bool) (x : ℕ) → x ≡ 0 → 0 ≡ cond t x 0
either true x e = sym e
either false x e = refl

pub none-idle : (widths : Widths) (befores : List ℕ) (c : ℕ) (tick : Snapshot) → waiting_in tick ≡ 0
    → 0 ≡ idle_of widths befores c tick
unfolding idle_of
none-idle widths befores c tick e =
    either (ltb (load_from widths tick.word) c) _ (none-contends widths befores tick.word c (waiting_in tick) e)

pub none_contested : (widths : Widths) (outranked befores : List ℕ) (c : ℕ) (tick : Snapshot) → waiting_in tick ≡ 0
    → 0 ≡ contested_of widths outranked befores c tick
unfolding contested_of
none_contested widths outranked befores c tick e =
    either (eqb (load_from widths tick.word) c) _
    (none-contends widths befores tick.word c (bit_and (waiting_in tick) (outranking_of outranked tick.word))
    (ap (λ (w : ℕ). bit_and w (outranking_of outranked tick.word)) e ∙ and_zero_l (outranking_of outranked tick.word)))

-- a tick at which nothing is active and nothing open breaks nothing
pub nothing-shown : (rule : TickRule) (widths : Widths) (outranked befores : List ℕ) (c : ℕ)
    → breaking_of rule widths outranked befores c (record { word = 0; opened = 0 }) ≡ 0
unfolding without overloaded_of
nothing-shown rule widths outranked befores c = by rule
  where
    tick : Snapshot
    tick = record { word = 0; opened = 0 }

    nobody : waiting_in tick ≡ 0
    nobody = word_none 32 _ (λ a _. ap (λ (x : Bool). x && not (bit 0 a)) (bit-zero a))

    by : (rule : TickRule) → breaking_of rule widths outranked befores c tick ≡ 0
    by TickRule.Cores = ap (λ (x : ℕ). cond (leb x c) 0 1) (load-none widths) ∙ ap (λ (x : Bool). cond x 0 1) (le-leb 0 c (omega arith))
    by TickRule.Preemption = sym (none_contested widths outranked befores c tick nobody)
    by TickRule.Idle = sym (none-idle widths befores c tick nobody)
    by TickRule.Tie = sym (none_contested widths outranked befores c tick nobody)

-- a tick that shows what another shows breaks nothing where that one does not
pub shown_again : (breaks : Snapshot → ℕ) (tick passed : Snapshot)
    → (eqb tick.word passed.word && eqb tick.opened passed.opened) ≡ true → breaks passed ≡ 0 → breaks tick ≡ 0
shown_again breaks tick passed same e =
    let both = (T_and (eqb tick.word passed.word) (eqb tick.opened passed.opened)).0 (subst T (sym same) tt) in
    let w = (T_eqb tick.word passed.word).0 both.0 in
    let o = (T_eqb tick.opened passed.opened).0 both.1 in
    let alike : tick ≡ passed = λ i. record { word = w i; opened = o i } in
    ap breaks alike ∙ e

-- the word of fewer bits, where there are no others
fewer_bits : (n : ℕ) (p q : ℕ → Bool) → n ≤ 32 → ((b : ℕ) → b < n → p b ≡ q b) → ((b : ℕ) → n ≤ b → p b ≡ false)
    → word_of 32 p ≡ word_of n q
fewer_bits n p q few h none =
    word_ext 32 (word_of 32 p) (word_of n q) (wordOf_lt 32 p) (lt_of_lt_of_le (wordOf_lt n q) (pow_mono few)) (λ b l.
    bit_wordOf 32 p b l
    ∙ elim (dec_lt b n) [
      | yes k ↦ h b k ∙ sym (bit_wordOf n q b k)
      | no k ↦ none b (omega arith) ∙ sym (T_false (bit (word_of n q) b) (bit_high (word_of n q) n b (wordOf_lt n q) (omega arith)))
    ])

-- the same of some activity
fewer_any : (n : ℕ) (p q : ℕ → Bool) → n ≤ 32 → ((b : ℕ) → b < n → p b ≡ q b) → ((b : ℕ) → n ≤ b → p b ≡ false)
    → any 32 p ≡ any n q
unfolding any
fewer_any n p q few h none = ap not same
  where
    same : all 32 (λ i. not (p i)) ≡ all n (λ i. not (q i))
    same = T_ext _ _
        (λ t. (T_all n (λ i. not (q i))).1 (λ i l.
        subst (λ (x : Bool). T (not x)) (h i l) ((T_all 32 (λ i. not (p i))).0 t i (omega (arith, few, l)))))
        (λ t. (T_all 32 (λ i. not (p i))).1 (λ i l. elim (dec_lt i n) [
          | yes k ↦ subst (λ (x : Bool). T (not x)) (sym (h i k)) ((T_all n (λ i. not (q i))).0 t i k)
          | no k ↦ subst (λ (x : Bool). T (not x)) (sym (none i (omega (arith, k)))) tt
        ]))

module _ (m : Model) (p : Plan) (tables : Tables) (h : Tabulated m p tables) where
  -- the word of the activities with a property has no other bits
  no_higher : (q : ℕ → Bool) (a : ℕ) → m.activities ≤ a → bit (word_of m.activities q) a ≡ false
  no_higher q a l =
      T_false (bit (word_of m.activities q) a)
      (bit_high (word_of m.activities q) m.activities a (wordOf_lt m.activities q) l)

  -- what is open and not active waits
  waiting_is : (t : ℕ)
      → without (open_of m.activities tables.froms tables.ends t) (p.word t) ≡ word_of m.activities (waits m p t)
  unfolding without open_of
  waiting_is t =
      fewer_bits m.activities _ (waits m p t) h.few
      (λ a l. ap (λ (x : Bool). x && not (active p t a)) (bit_wordOf m.activities inside a l)
      ∙ swap (inside a) (not (active p t a))
      ∙ ap₂ (λ (x y : ℕ). not (active p t a) && (leb x t && ltb t y)) (h.from_ticks a l) (h.end_ticks a l)
      ∙ sym (waits_when m p t a))
      (λ a l. ap (λ (x : Bool). x && not (active p t a)) (no_higher inside a l))
    where
      inside : ℕ → Bool
      inside a = leb (get_or tables.froms a 0) t && ltb t (get_or tables.ends a 0)

      swap : (x y : Bool) → (x && y) ≡ (y && x)
      swap true true = refl
      swap true false = refl
      swap false true = refl
      swap false false = refl

  -- the masks of a ranking, by activity
  ranked_below : (order : Order) (masks : List ℕ) → masks ≡ ranking_of order m
      → (a : ℕ) → a < m.activities → get_or masks a 0 ≡ word_of m.activities (λ b. ranks order (priority_of m) b a)
  unfolding ranking_of
  ranked_below order masks e a l =
      by_table m _ masks h.few e a l ∙ among-all m (λ b. ranks order (priority_of m) b a) h.few

  outranking_is : (order : Order) (masks : List ℕ) → masks ≡ ranking_of order m → (word : ℕ)
      → outranking_of masks word ≡ outranking m.activities (rank_mask m order) word
  unfolding outranking_of outranking rank_mask ranking_of
  outranking_is order masks e word =
      wordOf_ext 32 _ _ (λ b _. fewer_any m.activities _ _ h.few
      (λ a l. ap (λ (x : ℕ). bit word a && bit x b) (ranked_below order masks e a l))
      (λ a l. ap (λ (x : ℕ). bit word a && bit x b) (beyond a l)
      ∙ ap (λ (x : Bool). bit word a && x) (bit-zero b) ∙ and-false (bit word a)))
    where
      beyond : (a : ℕ) → m.activities ≤ a → get_or masks a 0 ≡ 0
      beyond a l =
          ap (λ (x : List ℕ). get_or x a 0) e
          ∙ by_beyond m (λ a. among_activities m (λ b. ranks order (priority_of m) b a)) a l

  module _ (narrow : (a : ℕ) → m.width a < 256) (t : ℕ) (small : p.word t < 2 ^ 32) where
    -- the cores of an activity and of the active ones that rank before it
    ahead_is : (b : ℕ) → b < m.activities
        → load_from (widths_of m) (with_bit (bit_and (p.word t) (get_or tables.befores b 0)) b) ≡ m.width b + ahead m (active p t) b
    unfolding before
    ahead_is b l =
        load_is m narrow (with_bit beside b) fits
        ∙ omega (
          arith,
          cores-more m (λ a. active p t a && before m a b) (bit (with_bit beside b)) b l not_itself (subst T (sym itself) tt) others,
        )
      where
        here : b < 32
        here = omega (arith, h.few)

        beside : ℕ
        beside = bit_and (p.word t) (get_or tables.befores b 0)

        fits : with_bit beside b < 2 ^ 32
        fits = with_lt beside b (lt_of_le_of_lt (and_le_l (p.word t) (get_or tables.befores b 0)) small)

        itself : bit (with_bit beside b) b ≡ true
        itself = bit_with beside b b here ∙ ap (λ (x : Bool). bit beside b || x) (eq-eqb b b refl) ∙ or-true (bit beside b)

        not_itself : ¬ T (active p t b && before m b b)
        not_itself x = before_irreflexive m b (before-says m b b ((T_and (active p t b) (before m b b)).0 x).1)

        others : (i : ℕ) → i < m.activities → ¬ (i ≡ b) → (active p t i && before m i b) ≡ bit (with_bit beside b) i
        others i k ne = sym (
            bit_with beside b i here
            ∙ ap (λ (x : Bool). bit beside i || x) (ne_eqb i b ne)
            ∙ or-false (bit beside i)
            ∙ bit-bit_and (p.word t) (get_or tables.befores b 0) i
            ∙ ap (λ (x : ℕ). active p t i && bit x i) (ranked_below Order.Before tables.befores h.before_masks b l)
            ∙ ap (λ (x : Bool). active p t i && x) (bit_wordOf m.activities (λ i. ranks Order.Before (priority_of m) i b) i k))

    -- the waiting of a word that count
    contending_is : (x : ℕ) (q : ℕ → Bool) → ((b : ℕ) → b < m.activities → bit x b ≡ (waits m p t b && q b))
        → ((b : ℕ) → m.activities ≤ b → bit x b ≡ false)
        → contending_of (widths_of m) tables.befores (p.word t) m.cores x
        ≡ word_of m.activities (λ b. contends m p t b && q b)
    unfolding contending_of fits_from contends
    contending_is x q known none =
        fewer_bits m.activities _ _ h.few
        (λ b l. ap₂ (λ (y : Bool) (k : ℕ). y && leb k m.cores) (known b l) (ahead_is b l)
        ∙ turned (waits m p t b) (q b) (leb (m.width b + ahead m (active p t) b) m.cores))
        (λ b l. ap (λ (y : Bool). y && fits_from (widths_of m) tables.befores (p.word t) m.cores b) (none b l))
      where
        turned : (a b c : Bool) → ((a && b) && c) ≡ ((a && c) && b)
        turned true true c = sym (and-true c)
        turned true false c = sym (and-false c)
        turned false b c = refl

    waiting-contends : contending_of (widths_of m) tables.befores (p.word t) m.cores (word_of m.activities (waits m p t))
        ≡ contending_mask m p t
    unfolding contending_mask
    waiting-contends =
        contending_is (word_of m.activities (waits m p t)) (λ _. true)
        (λ b l. bit_wordOf m.activities (waits m p t) b l ∙ sym (and-true (waits m p t b)))
        (no_higher (waits m p t))
        ∙ wordOf_ext m.activities _ _ (λ b _. and-true (contends m p t b))

    outranking-contends : (n : ℕ) (mask : ℕ → ℕ)
        → contending_of (widths_of m) tables.befores (p.word t) m.cores
        (bit_and (word_of m.activities (waits m p t)) (outranking n mask (p.word t)))
        ≡ bit_and (contending_mask m p t) (outranking n mask (p.word t))
    unfolding contending_mask outranking
    outranking-contends n mask =
        contending_is (bit_and (word_of m.activities (waits m p t)) (outranking n mask (p.word t))) above
        (λ b l. bit-bit_and (word_of m.activities (waits m p t)) (outranking n mask (p.word t)) b
        ∙ ap₂ (λ (x y : Bool). x && y) (bit_wordOf m.activities (waits m p t) b l) (bit_wordOf 32 above b (omega (arith, h.few))))
        (λ b l. bit-bit_and (word_of m.activities (waits m p t)) (outranking n mask (p.word t)) b
        ∙ ap (λ (x : Bool). x && bit (outranking n mask (p.word t)) b) (no_higher (waits m p t) b l))
        ∙ sym (and_words m.activities 32 (contends m p t) above h.few)
      where
        above : ℕ → Bool
        above b = any n (λ a. bit (p.word t) a && bit (mask a) b)

    -- the tick as the code sees it
    abbrev shown : Snapshot
    shown = record { word = p.word t; opened = open_of m.activities tables.froms tables.ends t }

    loaded : load_from (widths_of m) (p.word t) ≡ cores_of m (active p t)
    loaded = load_is m narrow (p.word t) small

    contested_is : (order : Order) (masks : List ℕ) → masks ≡ ranking_of order m
        → contested_of (widths_of m) masks tables.befores m.cores shown
        ≡ cond (eqb (cores_of m (active p t)) m.cores)
        (bit_and (contending_mask m p t) (outranking m.activities (rank_mask m order) (p.word t))) 0
    unfolding contested_of
    contested_is order masks e =
        ap₂ (λ (k x : ℕ). cond (eqb k m.cores) x 0) loaded
        (ap₂ (λ (x y : ℕ). contending_of (widths_of m) tables.befores (p.word t) m.cores (bit_and x y))
        (waiting_is t) (outranking_is order masks e (p.word t))
        ∙ outranking-contends m.activities (rank_mask m order))

    -- the mask of a rule's broken places at a tick
    tick_mask : (rule : TickRule) (masks : List ℕ) → Ranked rule m masks
        → breaking_of rule (widths_of m) masks tables.befores m.cores shown ≡ broken_mask (tick_rule rule m p) t
    unfolding overloaded_of idle_of
    tick_mask TickRule.Cores masks r = ap (λ (k : ℕ). cond (leb k m.cores) 0 1) loaded ∙ sym (cores_mask m p t)
    tick_mask TickRule.Preemption masks r = contested_is Order.Higher masks r ∙ sym (preemption_mask m p t h.few)
    tick_mask TickRule.Idle masks r =
        ap₂ (λ (k x : ℕ). cond (ltb k m.cores) x 0) loaded
        (ap (λ (x : ℕ). contending_of (widths_of m) tables.befores (p.word t) m.cores x) (waiting_is t) ∙ waiting-contends)
        ∙ sym (idle_mask m p t)
    tick_mask TickRule.Tie masks r = contested_is Order.Level masks r ∙ sym (tie_mask m p t h.few)

-- a rule of ticks is tried at H ticks and at no more than 32 columns
pub tick-shape : (rule : TickRule) (m : Model) (p : Plan)
    → ((tick_rule rule m p).rows ≡ m.horizon) × (m.activities ≤ 32 → (tick_rule rule m p).columns ≤ 32)
unfolding check_rules
tick-shape TickRule.Cores m p = (refl, λ h. omega arith)
tick-shape TickRule.Preemption m p = (refl, λ h. h)
tick-shape TickRule.Idle m p = (refl, λ h. h)
tick-shape TickRule.Tie m p = (refl, λ h. h)

-- the mask of a tick, from what the code reads: its word, its open windows, the cores and the widths
pub tick_read : (rule : TickRule) (m : Model) (p : Plan) (tables : Tables) (masks : List ℕ) → Tabulated m p tables
    → Ranked rule m masks → ((a : ℕ) → m.width a < 256) → (t word cores n opened : ℕ) (widths : Widths)
    → word < 2 ^ 32 → word ≡ p.word t → cores ≡ m.cores → widths ≡ widths_of m
    → opened ≡ open_of n tables.froms tables.ends t → n ≡ m.activities
    → breaking_of rule widths masks tables.befores cores (record { word = word; opened = opened })
    ≡ broken_mask (tick_rule rule m p) t
tick_read rule m p tables masks h r narrow t word cores n opened widths small w c v o k =
    ap₂ (λ (x : ℕ) (y : ℕ). breaking_of rule widths masks tables.befores cores (record { word = x; opened = y })) w
    (o ∙ ap (λ (x : ℕ). open_of x tables.froms tables.ends t) k)
    ∙ ap₂ (λ (x : ℕ) (y : Widths). breaking_of rule y masks tables.befores x (shown m p tables h narrow t known)) c v
    ∙ tick_mask m p tables h narrow t known rule masks r
  where
    known : p.word t < 2 ^ 32
    known = subst (λ (x : ℕ). x < 2 ^ 32) w small
