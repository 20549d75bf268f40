-- What the code keeps on its way: whether a bit is as the edit wants it, and the row of the ticks that it has passed.
-- Assumes nothing.
use Prim.Native.Nat.{ℕ, ◌+◌}
use native.Mathlib.Omega.{arith}
use mathlib.Core.Bool.{Bool, true, false, not, cond}
use mathlib.Core.Logic.{◌⊎◌, inl, inr}
use mathlib.Core.Path.{◌≡◌, sym, ap₂, ◌∙◌}
use lib.Dec.{T, eqb}
use borrow.Author.Tests.{eq-eqb, ne_eqb}
use Rattle.edit_rules.specs.Edits.{first_marked, past_marked}
use Rattle.edit_rules.proofs.MarkedLaws.{first-start, past-start, first_next, past_next}
use Rattle.edit_rules.proofs.AnswerLaws.{free}

-- ---- the bit

-- the bit is as the edit wants it, by the code's test
abbrev pub so : Bool → Bool → Bool
so on now = cond on now (not now)

pub so_taken : (on now told : Bool) → told ≡ so on now → told ≡ true → ¬ T (free on now)
so_taken true true told e t x = x
so_taken true false told e t x = let c : ◌≡◌ {A = ℕ} 0 1 = cc in omega arith
so_taken false true told e t x = let c : ◌≡◌ {A = ℕ} 0 1 = cc in omega arith
so_taken false false told e t x = x

pub so_free : (on now told : Bool) → told ≡ so on now → told ≡ false → T (free on now)
so_free true true told e f = let c : ◌≡◌ {A = ℕ} 0 1 = cc in absurd (omega arith)
so_free true false told e f = tt
so_free false true told e f = tt
so_free false false told e f = let c : ◌≡◌ {A = ℕ} 0 1 = cc in absurd (omega arith)

-- ---- the row

-- the row so far with a marked tick more, as the code makes it
pub seen_start : (marked : Bool) (start end t x : ℕ) → marked ≡ true → ((end ≡ 0) × (x ≡ t)) ⊎ ((¬ (end ≡ 0)) × (x ≡ start))
    → x ≡ cond marked (cond (eqb end 0) t start) start
seen_start marked start end t x on (inl (none, is)) =
    is ∙ sym (ap₂ (λ (b d : Bool). cond b (cond d t start) start) on (eq-eqb end 0 none))
seen_start marked start end t x on (inr (some, is)) =
    is ∙ sym (ap₂ (λ (b d : Bool). cond b (cond d t start) start) on (ne_eqb end 0 some))

-- the row of the ticks below t
pub record RowTo (p : ℕ → Bool) (t start end : ℕ) : Type 0 where
  pub from_first : start ≡ first_marked t p
  pub to_last : end ≡ past_marked t p

pub row-start : (p : ℕ → Bool) → RowTo p 0 0 0
row-start p = record { from_first = sym (first-start p); to_last = sym (past-start p) }

pub row_next : (p : ℕ → Bool) (t start end start' end' : ℕ) (marked : Bool) → RowTo p t start end → marked ≡ p t
    → start' ≡ cond marked (cond (eqb end 0) t start) start → end' ≡ cond marked (t + 1) end → RowTo p (t + 1) start' end'
row_next p t start end start' end' marked h e s n = record {
  from_first = rw (h.from_first, h.to_last, e) at s ∙ sym (first_next t p);
  to_last = rw (h.to_last, e) at n ∙ sym (past_next t p);
}
