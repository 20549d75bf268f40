-- The first tick of each activity, found in one pass over the words.
-- Assumes nothing.
use Prim.Native.Nat.{ℕ, ◌+◌, ◌-◌, ◌^◌, ◌<◌}
use native.Mathlib.Decide.{ℕ_discrete}
use native.Mathlib.Omega.{arith}
use mathlib.Core.Bool.{Bool, true, ◌&&◌, not, cond, and-true, and-false}
use mathlib.Core.List.{List}
use mathlib.Core.Logic.{inl, inr, ⊎_elim}
use mathlib.Core.Path.{◌≡◌, refl, sym, subst, ap, ap₂, ◌∙◌}
use lib.Bits.{bit_and, bit_or, or_lt}
use lib.Dec.{T}
use lib.ListN.{length, get_or, set, replicate, get_or-replicate, length-set}
use lib.Seq.{get_or-set_same, get_or-set_other}
use Rattle.schedule.specs.Bounded.{bit, lowest, table}
use Rattle.schedule.specs.Plan.{word_in}
use Rattle.schedule.specs.Bounded.{without_bit}
use Rattle.laws.proofs.Tests.{T_or}
use Rattle.laws.proofs.Counting.{dec_t, T_true, T_false}
use Rattle.laws.proofs.WordLaws.{bit-bit_and, bit_not, bit-bit_or, bit-zero}
use Rattle.bits.proofs.Apart.{lowest_lt, lowest_set, gone, kept, still_within, none-taken}
use Rattle.run.specs.Front.{start_in, Entered}
use Rattle.tables.proofs.TableLaws.{table-whole}
use Rattle.laws.proofs.Lowest.{Clear, clear_none, clear-more, found_here, found_none}

-- ---- one tick

-- the activities start that the word has and the rest has not
pub record Entering (word t rest : ℕ) (starts starts' : List ℕ) : Type 0 where
  pub fits : rest < 2 ^ 32
  pub within : (a : ℕ) → a < 32 → T (bit rest a) → T (bit word a)
  pub sized : length starts' ≡ 32
  pub entered : (a : ℕ) → a < 32 → get_or starts' a 0 ≡ cond (bit word a && not (bit rest a)) t (get_or starts a 0)

pub entering_start : (word t : ℕ) (starts : List ℕ) → word < 2 ^ 32 → length starts ≡ 32 → Entering word t word starts starts
entering_start word t starts fits h = record {
  fits = fits;
  within = λ a l x. x;
  sized = h;
  entered = λ a l. sym (ap (λ (x : Bool). cond x t (get_or starts a 0)) (none-taken (bit word a)));
}

pub entering_next : (word t rest a : ℕ) (starts starts' : List ℕ) → Entering word t rest starts starts'
    → ¬ (rest ≡ 0) → a ≡ lowest 32 (bit rest) → without_bit rest a < 2 ^ 32
    → Entering word t (without_bit rest a) starts (set starts' a t)
entering_next word t rest a starts starts' h more low fits = record {
  fits = fits;
  within = still_within rest a h.fits more low word h.within;
  sized = length-set starts' a t ∙ h.sized;
  entered = λ i l. elim (ℕ_discrete i a) [
    | yes e ↦ subst (λ (j : ℕ). get_or (set starts' a t) j 0
        ≡ cond (bit word j && not (bit (without_bit rest a) j)) t (get_or starts j 0)) (sym e)
        (get_or-set_same starts' a t 0 (omega (arith, here, h.sized))
        ∙ sym (ap₂ (λ (x y : Bool). cond (x && not y) t (get_or starts a 0)) has (gone rest a h.fits more low)))
    | no ne ↦ get_or-set_other starts' a i t 0 ne ∙ h.entered i l
        ∙ sym (ap (λ (x : Bool). cond (bit word i && not x) t (get_or starts i 0)) (kept rest a h.fits more low i l ne))
  ];
}
  where
    here : a < 32
    here = lowest_lt rest a h.fits more low

    has : bit word a ≡ true
    has = T_true (bit word a) (h.within a here (subst T (sym (lowest_set rest a h.fits more low)) tt))

pub entering_end : (word t rest : ℕ) (starts starts' : List ℕ) → Entering word t rest starts starts' → rest ≡ 0
    → Entered word t starts starts'
entering_end word t rest starts starts' h e = record {
  sized = h.sized;
  entered = λ a l.
      h.entered a l
      ∙ ap (λ (x : Bool). cond x t (get_or starts a 0))
      (ap (λ (x : Bool). bit word a && not x) (ap (λ (w : ℕ). bit w a) e ∙ bit-zero a) ∙ and-true (bit word a));
}

-- ---- tick by tick

-- the activities seen before tick t have their first tick, the others none so far
pub record Seen (word : ℕ → ℕ) (h t seen : ℕ) (starts : List ℕ) : Type 0 where
  pub fits : seen < 2 ^ 32
  pub sized : length starts ≡ 32
  pub started : (a : ℕ) → a < 32 → T (bit seen a) → get_or starts a 0 ≡ lowest h (λ v. bit (word v) a)
  pub idle : (a : ℕ) → a < 32 → (¬ T (bit seen a)) → Clear (λ v. bit (word v) a) t
  pub unset : (a : ℕ) → a < 32 → (¬ T (bit seen a)) → get_or starts a 0 ≡ h

pub seen_start : (word : ℕ → ℕ) (h : ℕ) → Seen word h 0 0 (replicate 32 h)
seen_start word h = record {
  fits = omega arith;
  sized = refl;
  started = λ a l x. absurd (subst T (bit-zero a) x);
  idle = λ a l x. clear_none (λ v. bit (word v) a);
  unset = λ a l x. get_or-replicate 32 a h 0 l;
}

pub seen_next : (word : ℕ → ℕ) (h t seen w : ℕ) (starts starts' : List ℕ) → Seen word h t seen starts → t < h → w < 2 ^ 32
    → w ≡ word t → Entered (bit_and w ((2 ^ 32 - 1) - seen)) t starts starts'
    → Seen word h (t + 1) (bit_or seen w) starts'
seen_next word h t seen w starts starts' s l fits e entered = record {
  fits = or_lt 32 seen w s.fits fits;
  sized = entered.sized;
  started = λ a la x. ⊎_elim (before a la) (now_first a la x) (dec_t (bit seen a));
  idle = λ a la x. clear-more (λ v. bit (word v) a) t (bit w a) (s.idle a la (λ y. x (seen_more a y)))
      (ap (λ (k : ℕ). bit k a) e) (λ y. x (word_more a y));
  unset = λ a la x. entered.entered a la
      ∙ ap (λ (b : Bool). cond b t (get_or starts a 0))
      (fresh a la ∙ ap (λ (b : Bool). b && not (bit seen a)) (T_false (bit w a) (λ y. x (word_more a y))))
      ∙ s.unset a la (λ y. x (seen_more a y));
}
  where
    fresh : (a : ℕ) → a < 32 → bit (bit_and w ((2 ^ 32 - 1) - seen)) a ≡ (bit w a && not (bit seen a))
    fresh a la = bit-bit_and w ((2 ^ 32 - 1) - seen) a ∙ ap (λ (b : Bool). bit w a && b) (bit_not 32 seen a s.fits la)

    seen_more : (a : ℕ) → T (bit seen a) → T (bit (bit_or seen w) a)
    seen_more a y = subst T (sym (bit-bit_or seen w a)) ((T_or (bit seen a) (bit w a)).1 (inl y))

    word_more : (a : ℕ) → T (bit w a) → T (bit (bit_or seen w) a)
    word_more a y = subst T (sym (bit-bit_or seen w a)) ((T_or (bit seen a) (bit w a)).1 (inr y))

    before : (a : ℕ) → a < 32 → T (bit seen a) → get_or starts' a 0 ≡ lowest h (λ v. bit (word v) a)
    before a la y =
        entered.entered a la
        ∙ ap (λ (b : Bool). cond b t (get_or starts a 0))
        (fresh a la ∙ ap (λ (b : Bool). bit w a && not b) (T_true (bit seen a) y) ∙ and-false (bit w a))
        ∙ s.started a la y

    now_first : (a : ℕ) → a < 32 → T (bit (bit_or seen w) a) → (¬ T (bit seen a)) → get_or starts' a 0 ≡ lowest h (λ v. bit (word v) a)
    now_first a la x y =
        let z : T (bit w a) = ⊎_elim (λ u. absurd (y u)) (λ u. u) ((T_or (bit seen a) (bit w a)).0 (subst T (bit-bit_or seen w a) x)) in
        entered.entered a la
        ∙ ap (λ (b : Bool). cond b t (get_or starts a 0))
        (fresh a la ∙ ap₂ (λ (b d : Bool). b && not d) (T_true (bit w a) z) (T_false (bit seen a) y))
        ∙ found_here h (λ v. bit (word v) a) t (bit w a) l (s.idle a la y) (ap (λ (k : ℕ). bit k a) e) z

pub seen_end : (grid : List ℕ) (h : ℕ) (t seen : ℕ) (starts : List ℕ) → t ≡ h → Seen (word_in grid) h t seen starts
    → starts ≡ table 32 (start_in grid h)
unfolding start_in
seen_end grid h t seen starts e s =
    table-whole 32 _ starts s.sized (λ a l.
    ⊎_elim (s.started a l)
    (λ x. s.unset a l x ∙ sym e ∙ found_none h (λ v. bit (word_in grid v) a) t (omega arith) (omega arith) (s.idle a l x))
    (dec_t (bit seen a)))
