-- A word that stays: until something passes or ends, the tables give the same word at each tick.
-- Assumes nothing.
use Prim.Native.Nat.{ℕ, ◌+◌, ◌-◌, ◌^◌, ◌≤◌, ◌<◌, min}
use native.Mathlib.Decide.{ℕ_discrete}
use native.Mathlib.Omega.{arith}
use mathlib.Core.Bool.{Bool, ◌&&◌, cond}
use mathlib.Core.List.{List}
use mathlib.Core.Logic.{⊎_elim}
use mathlib.Core.Path.{◌≡◌, refl, sym, subst, ap, ap₂, ◌∙◌}
use lib.Dec.{T, eqb, leb, ltb}
use lib.ListN.{get_or, replicate}
use borrow.Author.Tests.{lt-ltb, ne_eqb}
use Rattle.schedule.specs.Bounded.{bit, lowest}
use Rattle.laws.proofs.Tests.{up_to}
use Rattle.laws.proofs.Between.{between_leb, sooner_le}
use Rattle.laws.proofs.Counting.{dec_t, T_true, T_false}
use Rattle.laws.proofs.Steps.{zeros_at}
use Rattle.laws.proofs.Words.{wordOf_ext}
use Rattle.schedule.specs.Bounded.{without_bit}
use Rattle.laws.proofs.WordLaws.{bit-zero}
use Rattle.bits.proofs.Apart.{kept}
use Rattle.ticks.specs.declared.Kept.{Kept}
use Rattle.ticks.proofs.KeptLaws.{quiet_start, quiet_next, quiet_sooner, stands_unknown}
use Rattle.machine.specs.declared.inputs.Tables.{Tables}
use Rattle.machine.specs.Masks.{covered, ended_from, ended_mask, ready_from}
use Rattle.machine.specs.Masks.{walked_from, ready_mask, tick_word, Stepped}
use Rattle.machine.proofs.MaskLaws.{nothing_less}
use Rattle.machine.specs.Stretches.{Unchanged, Busy, Lasts}

module _ (tables : Tables) where
  -- a tick's word depends on the tables and the tick by these tests alone
  tick_ext : (owed ends owed' ends' : List ℕ) (t t' : ℕ)
      → ((a : ℕ) → a < tables.activities → ltb 0 (get_or owed a 0) ≡ ltb 0 (get_or owed' a 0))
      → ((a : ℕ) → a < tables.activities → leb (get_or tables.releases a 0) t ≡ leb (get_or tables.releases a 0) t')
      → ((b : ℕ) → b < tables.activities → ended_from owed ends tables.delays t b ≡ ended_from owed' ends' tables.delays t' b)
      → ((b : ℕ) → b < tables.activities → ended_from owed ends (replicate 32 0) t b ≡ ended_from owed' ends' (replicate 32 0) t' b)
      → tick_word tables owed ends t
      ≡ tick_word tables owed' ends' t'
  unfolding tick_word ready_mask ended_mask ready_from
  tick_ext owed ends owed' ends' t t' owes released past over =
      ap (λ (w : ℕ). (walked_from w tables tables.activities).word)
      (wordOf_ext tables.activities _ _ (λ a l.
      ap₂ (λ (x : Bool) (y : Bool). x && y) (owes a l)
      (ap₂ (λ (x : Bool) (y : Bool). x && y) (released a l)
      (ap₂ (λ (x y : ℕ). covered' a x y) (wordOf_ext tables.activities _ _ past) (wordOf_ext tables.activities _ _ over)))))
    where
      covered' : ℕ → ℕ → ℕ → Bool
      covered' a x y = covered (get_or tables.temporal a 0) x && covered (get_or tables.by_data a 0) y

  -- nothing passes from t to v
  pub tick_quiet : (owed ends : List ℕ) (t u v : ℕ) → Unchanged tables.activities tables ends t u → t ≤ v → v < u
      → tick_word tables owed ends v
      ≡ tick_word tables owed ends t
  unfolding ended_from
  tick_quiet owed ends t u v q h l =
      tick_ext owed ends owed ends v t (λ a la. refl)
      (λ a la. between_leb (get_or tables.releases a 0) t v h (λ k. omega (arith, q.released a la k)))
      (λ b lb. ap (λ (x : Bool). eqb (get_or owed b 0) 0 && x)
      (between_leb (get_or ends b 0 + get_or tables.delays b 0) t v h (λ k. omega (arith, q.delayed b lb k))))
      (λ b lb. ap (λ (x : Bool). eqb (get_or owed b 0) 0 && x)
      (between_leb (get_or ends b 0 + get_or (replicate 32 0) b 0) t v h
      (λ k. omega (arith, zeros_at 32 b, q.ended b lb (omega (arith, k, zeros_at 32 b))))))

  -- no activity of the word ends at tick t
  tick_stepped : (word t u v : ℕ) (owed ends owed' ends' : List ℕ) → Busy word owed t u → t + 1 < u
      → Stepped 32 word t owed ends owed' ends'
      → tick_word tables owed' ends' v
      ≡ tick_word tables owed ends v
  unfolding ended_from
  tick_stepped word t u v owed ends owed' ends' busy l stepped =
      tick_ext owed' ends' owed ends v v (λ a la. (kept a la).0) (λ a la. refl)
      (λ b lb. ended tables.delays b lb) (λ b lb. ended (replicate 32 0) b lb)
    where
      kept : (a : ℕ) → a < tables.activities → (ltb 0 (get_or owed' a 0) ≡ ltb 0 (get_or owed a 0))
          × (eqb (get_or owed' a 0) 0 ≡ eqb (get_or owed a 0) 0) × (get_or ends' a 0 ≡ get_or ends a 0)
      kept a la = ⊎_elim active idle (dec_t (bit word a))
        where
          less : get_or owed' a 0 ≡ get_or owed a 0 - cond (bit word a) 1 0
          less = stepped.owed_less a (omega (arith, tables.few))

          next : get_or ends' a 0 ≡ cond (bit word a && eqb (get_or owed a 0) 1) (t + 1) (get_or ends a 0)
          next = stepped.ends_next a (omega (arith, tables.few))

          active : T (bit word a) → (ltb 0 (get_or owed' a 0) ≡ ltb 0 (get_or owed a 0))
              × (eqb (get_or owed' a 0) 0 ≡ eqb (get_or owed a 0) 0) × (get_or ends' a 0 ≡ get_or ends a 0)
          active h =
              let two : u ≤ t + get_or owed a 0 = busy a (omega (arith, tables.few)) h in
              let one : get_or owed' a 0 ≡ get_or owed a 0 - 1 = less
              ∙ ap (λ (x : Bool). get_or owed a 0 - cond x 1 0) (T_true (bit word a) h) in (
                lt-ltb 0 (get_or owed' a 0) (omega (arith, one, two)) ∙ sym (lt-ltb 0 (get_or owed a 0) (omega (arith, two))),
                ne_eqb (get_or owed' a 0) 0 (omega (arith, one, two)) ∙ sym (ne_eqb (get_or owed a 0) 0 (omega (arith, two))),
                next ∙ ap₂ (λ (x y : Bool). cond (x && y) (t + 1) (get_or ends a 0)) (T_true (bit word a) h)
                    (ne_eqb (get_or owed a 0) 1 (omega (arith, two))),
              )

          idle : (¬ T (bit word a)) → (ltb 0 (get_or owed' a 0) ≡ ltb 0 (get_or owed a 0))
              × (eqb (get_or owed' a 0) 0 ≡ eqb (get_or owed a 0) 0) × (get_or ends' a 0 ≡ get_or ends a 0)
          idle h =
              let same : get_or owed' a 0 ≡ get_or owed a 0 = less
              ∙ sym (nothing_less (get_or owed a 0) (bit word a) (T_false (bit word a) h)) in (
                ap (ltb 0) same,
                ap (λ (x : ℕ). eqb x 0) same,
                next ∙ ap (λ (x : Bool). cond (x && eqb (get_or owed a 0) 1) (t + 1) (get_or ends a 0)) (T_false (bit word a) h),
              )

      ended : (waits : List ℕ) (b : ℕ) → b < tables.activities → ended_from owed' ends' waits v b ≡ ended_from owed ends waits v b
      ended waits b lb =
          ap₂ (λ (x : Bool) (y : ℕ). x && leb (y + get_or waits b 0) v) (kept b lb).1 (kept b lb).2

  pub lasts_unknown : (owed ends : List ℕ) (known : Kept) (t : ℕ) → known ≡ record { word = 0; until = 0 }
      → Lasts tables owed ends known t
  lasts_unknown owed ends known t e =
      let z : known.until ≡ 0 = ap (λ (y : Kept). y.until) e in
      record { same = stands_unknown _ known t e; busy = λ a l h. omega (arith, z) }

  -- a word of tick t, kept where nothing passes and all of it owe something
  pub lasts_fresh : (owed ends : List ℕ) (known : Kept) (t change : ℕ)
      → known.word ≡ tick_word tables owed ends t
      → Unchanged tables.activities tables ends t change → known.until ≤ change → Busy known.word owed t known.until
      → Lasts tables owed ends known t
  lasts_fresh owed ends known t change e q h busy =
      record { same = λ v k l. tick_quiet owed ends t change v q k (omega arith) ∙ sym e; busy = busy }

  -- after a tick with its word
  pub lasts_next : (owed ends owed' ends' : List ℕ) (known : Kept) (t : ℕ)
      → Lasts tables owed ends known t
      → Stepped 32 known.word t owed ends owed' ends'
      → Lasts tables owed' ends' known (t + 1)
  lasts_next owed ends owed' ends' known t h stepped = record {
    same = λ v k l.
        tick_stepped known.word t known.until v owed ends owed' ends' h.busy (omega arith) stepped
        ∙ h.same v (omega arith) l;
    busy = λ a l k.
        let one : get_or owed' a 0 ≡ get_or owed a 0 - 1 =
        stepped.owed_less a l ∙ ap (λ (x : Bool). get_or owed a 0 - cond x 1 0) (T_true (bit known.word a) k) in
        omega (arith, one, h.busy a l k);
  }

-- ---- the next change

pub unchanged_start : (tables : Tables) (ends : List ℕ) (t u : ℕ) → Unchanged 0 tables ends t u
unchanged_start tables ends t u =
    record { released = quiet_start _ t u; ended = quiet_start _ t u; delayed = quiet_start _ t u }

-- one activity more: its release, its end, and its end and delay
pub unchanged_next : (n : ℕ) (tables : Tables) (ends : List ℕ) (t u v w x late : ℕ) → t < 65536
    → v ≡ cond (ltb t (get_or tables.releases n 0) && ltb (get_or tables.releases n 0) u) (get_or tables.releases n 0) u
    → w ≡ cond (ltb t (get_or ends n 0) && ltb (get_or ends n 0) v) (get_or ends n 0) v
    → late ≡ min (get_or ends n 0 + get_or tables.delays n 0) 4294967295
    → x ≡ cond (ltb t late && ltb late w) late w
    → Unchanged n tables ends t u → Unchanged (n + 1) tables ends t x
unchanged_next n tables ends t u v w x late soon e f g k q = record {
  released = quiet_sooner _ _ t w x late k (quiet_sooner _ _ t v w _ f (quiet_next n _ t u v e q.released));
  ended = quiet_sooner _ _ t w x late k (quiet_next n _ t v w f (quiet_sooner _ _ t u v _ e q.ended));
  delayed = λ a l. up_to (λ a. t < get_or ends a 0 + get_or tables.delays a 0 → x ≤ get_or ends a 0 + get_or tables.delays a 0) n
      (quiet_sooner n _ t w x late k (quiet_sooner n _ t v w _ f (quiet_sooner n _ t u v _ e q.delayed)))
      (λ h. omega (arith, g, (sooner_le w late t x k).1 (omega (arith, g, h, soon)))) a (omega arith);
}

-- ---- the next end

-- the activities that the word has and the rest has not owe something up to tick `next`
pub record Ending (word rest : ℕ) (owed : List ℕ) (t change next : ℕ) : Type 0 where
  pub fits : rest < 2 ^ 32
  pub no_later : next ≤ change
  pub busy : (a : ℕ) → a < 32 → T (bit word a) → (¬ T (bit rest a)) → next ≤ t + get_or owed a 0

pub ending_start : (word : ℕ) (owed : List ℕ) (t change : ℕ) → word < 2 ^ 32 → Ending word word owed t change change
ending_start word owed t change fits = record { fits = fits; no_later = omega arith; busy = λ a l x y. absurd (y x) }

pub ending_next : (word rest a : ℕ) (owed : List ℕ) (t change next end next' : ℕ) → Ending word rest owed t change next
    → ¬ (rest ≡ 0) → a ≡ lowest 32 (bit rest) → without_bit rest a < 2 ^ 32
    → end ≡ min (t + get_or owed a 0) 4294967295 → next' ≡ min next end
    → Ending word (without_bit rest a) owed t change next'
ending_next word rest a owed t change next end next' h more low fits e f = record {
  fits = fits;
  no_later = omega (arith, f, h.no_later);
  busy = λ i l x y. elim (ℕ_discrete i a) [
    | yes k ↦ subst (λ (j : ℕ). next' ≤ t + get_or owed j 0) (sym k) (omega (arith, e, f))
    | no ne ↦ omega (arith, f, h.busy i l x (λ z. y (subst T (sym (kept rest a h.fits more low i l ne)) z)))
  ];
}

pub ending_end : (word rest : ℕ) (owed : List ℕ) (t change next : ℕ) → Ending word rest owed t change next → rest ≡ 0
    → (next ≤ change) × Busy word owed t next
ending_end word rest owed t change next h e =
    (h.no_later, λ a l x. h.busy a l x (λ z. subst T (ap (λ (w : ℕ). bit w a) e ∙ bit-zero a) z))
