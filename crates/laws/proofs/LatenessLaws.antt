-- The deadline less an end as a signed number, and the list whose first rows the report writes.
-- Assumes nothing.
use Prim.Native.Nat.{ℕ, zero, suc, ◌+◌, ◌-◌, ◌≤◌, ◌<◌}
use native.Mathlib.Decide.{dec_lt, ℕ_discrete}
use native.Mathlib.Numerals.{add-one}
use native.Mathlib.Omega.{arith}
use mathlib.Core.Bool.{true, false}
use mathlib.Core.List.{List, [], ◌∷◌, ◌++◌, append_assoc}
use mathlib.Core.Path.{◌≡◌, refl, sym, subst, ap, ◌∙◌}
use lib.IntN.{ℤ, pos, negsuc, sub_ℕ, ◌-ℤ◌}
use lib.ListN.{length, set, drop, get_or, length-append, length-drop, get_or-append}
use lib.Seq.{drop-cons, set_at, get_or-append-add, get_or-drop}
use lib.Signed.{mag}
use borrow.Author.Tests.{lt-ltb, le-ltb, eq-eqb, ne_eqb}
use Rattle.schedule.specs.Bounded.{table}
use Rattle.schedule.specs.Model.{Model}
use Rattle.schedule.specs.Timing.{deadline}
use Rattle.schedule.specs.Choice.{Choice}
use Rattle.schedule.specs.Machine.{end_of, state_at, machine_end}
use Rattle.schedule.specs.Answers.{Answer, Written}
use Rattle.schedule.specs.Report.{dash, lateness, report_row, fills, rows_after}
use Rattle.laws.proofs.MachineLaws.{length-table, getD_table, table_ext}
use Rattle.laws.proofs.MachinePlan.{end_le}

-- ---- the difference of two numbers

sub-late : (d e : ℕ) → d < e → sub_ℕ d e ≡ negsuc (e - suc d)
sub-late d e l = rw (lt-ltb d e l)

pub sub-kept : (d e : ℕ) → e ≤ d → sub_ℕ d e ≡ pos (d - e)
sub-kept d e l = rw (le-ltb d e l)

-- it is the difference of the two as integers
pub sub_is : (d e : ℕ) → pos d -ℤ pos e ≡ sub_ℕ d e
sub_is d zero = ap pos (omega arith) ∙ sym (sub-kept d 0 (omega arith))
sub_is d (suc e) = refl

-- and no larger than the larger of them
pub sub_small : (d e k : ℕ) → d < k → e ≤ k → mag (sub_ℕ d e) < k
sub_small d e k h j = elim (dec_lt d e) [
  | yes l ↦ rw (sub-late d e l) (omega arith)
  | no l ↦ rw (sub-kept d e (omega arith)) (omega arith)
]

-- ---- the figure of an activity

pub without-period : (release period end : ℕ) → period ≡ 0 → lateness release period end ≡ dash
without-period release period end e = rw (eq-eqb period 0 e)

with_period : (release period end : ℕ) → (¬ (period ≡ 0))
    → lateness release period end ≡ sub_ℕ (deadline release period) end
with_period release period end e = rw (ne_eqb period 0 e)

-- late, and in time
pub figure-late : (release period end : ℕ) → (¬ (period ≡ 0)) → deadline release period < end
    → lateness release period end ≡ negsuc (end - suc (deadline release period))
figure-late release period end has late = with_period release period end has ∙ sub-late (deadline release period) end late

pub figure-kept : (release period end : ℕ) → (¬ (period ≡ 0)) → end ≤ deadline release period
    → lateness release period end ≡ pos (deadline release period - end)
figure-kept release period end has kept = with_period release period end has ∙ sub-kept (deadline release period) end kept

-- what holds of the dash, of the numbers below 0 by no more than the end, and of those up to the deadline, holds of a figure
figure-holds : (P : ℤ → Type 0) (release period end : ℕ) → P dash → ((n : ℕ) → n < end → P (negsuc n))
    → ((n : ℕ) → n ≤ deadline release period → P (pos n)) → P (lateness release period end)
figure-holds P release period end none late kept = elim (ℕ_discrete period 0) [
  | yes e ↦ subst P (sym (without-period release period end e)) none
  | no e ↦ elim (dec_lt (deadline release period) end) [
    | yes l ↦ subst P (sym (figure-late release period end e l)) (late (end - suc (deadline release period)) (omega arith))
    | no l ↦ subst P (sym (figure-kept release period end e (omega arith))) (kept (deadline release period - end) (omega arith))
  ]
]

-- 32 bits hold it
pub figure-fits : (release period end : ℕ) → release < 65536 → period < 65536 → end < 65536
    → mag (lateness release period end) < 2147483648
figure-fits release period end r p e =
    figure-holds (λ z. mag z < 2147483648) release period end (omega arith) (λ n h. omega arith) (λ n h. omega arith)

-- so of a row, where a figure late by no more than H has it, and one early by no more than a deadline
pub row-holds : (m : Model) (q : Choice) (a : ℕ) → a < m.activities
    → (P : ℤ → Type 0) (k : ℕ) → ((j : ℕ) → deadline (q.release j) (q.period j) < k) → P dash
    → ((n : ℕ) → n < m.horizon → P (negsuc n)) → ((n : ℕ) → n < k → P (pos n)) → P (report_row m q a)
unfolding report_row machine_end
row-holds m q a l P k deadlines none late kept =
    figure-holds P (q.release (m.thread a)) (q.period (m.thread a))
    (end_of (state_at m q.release q.duration m.horizon) a) none
    (λ n h. late n (omega (arith, end_le m q.release q.duration m.horizon a l)))
    (λ n h. kept n (omega (arith, deadlines (m.thread a))))

-- ---- rows written from the front

-- the first rows of a list, the others as they were
abbrev pub rows_then : {A : Type 0} → ℕ → (ℕ → A) → List A → List A
rows_then n f l = table n f ++ drop n l

pub rows_none : {A : Type 0} (f : ℕ → A) (l : List A) → l ≡ rows_then 0 f l
unfolding table
rows_none f l = refl

-- one row more
pub rows_next : {A : Type 0} (n : ℕ) (f : ℕ → A) (l : List A) (v : A) → n < length l → v ≡ f n
    → set (rows_then n f l) n v ≡ rows_then (n + 1) f l
unfolding table
rows_next {A} n f l v room e =
    ap (λ (rest : List A). set (table n f ++ rest) n v) (drop-cons l n v room)
    ∙ set_at (table n f) _ (drop (suc n) l) v n (length-table n f)
    ∙ ap (λ (x : A). table n f ++ (x ∷ drop (suc n) l)) e
    ∙ sym (append_assoc (table n f) (f n ∷ []) (drop (suc n) l))
    ∙ ap (λ (k : ℕ). rows_then k f l) (sym (add-one n))

pub length-rows : {A : Type 0} (n : ℕ) (f : ℕ → A) (l : List A) → n ≤ length l → length (rows_then n f l) ≡ length l
length-rows n f l room = simp (length-append, length-drop, length-table) (omega arith)

-- they depend on what is below their number alone
pub rows_ext : {A : Type 0} (n : ℕ) (f g : ℕ → A) (l : List A) → ((a : ℕ) → a < n → f a ≡ g a)
    → rows_then n f l ≡ rows_then n g l
rows_ext {A} n f g l h = ap (λ (rows : List A). rows ++ drop n l) (table_ext n f g h)

-- a row that is written, and one that is not
pub rows_at : {A : Type 0} (d : A) (n : ℕ) (f : ℕ → A) (l : List A) (a : ℕ) → a < n → get_or (rows_then n f l) a d ≡ f a
rows_at d n f l a h =
    get_or-append (table n f) (drop n l) d a (omega (arith, length-table n f)) ∙ getD_table d n f a h

pub rows_beyond : {A : Type 0} (d : A) (n : ℕ) (f : ℕ → A) (l : List A) (a : ℕ) → n ≤ a
    → get_or (rows_then n f l) a d ≡ get_or l a d
rows_beyond d n f l a h =
    let at : a ≡ length (table n f) + (a - n) = omega (arith, length-table n f) in
    let there : n + (a - n) ≡ a = omega arith in
    ap (λ (i : ℕ). get_or (rows_then n f l) i d) at
    ∙ get_or-append-add (table n f) (drop n l) (a - n) d
    ∙ get_or-drop n l (a - n) d
    ∙ ap (λ (i : ℕ). get_or l i d) there

-- ---- what an answer leaves in the list

module _ (said : Answer Written) (m : Model) (q : Choice) (list : List ℤ) where
  pub rows-filled : fills said ≡ true → rows_after said m q list ≡ rows_then m.activities (report_row m q) list
  unfolding rows_after
  rows-filled e = rw (e, rows_after)

  pub rows-kept : fills said ≡ false → rows_after said m q list ≡ list
  unfolding rows_after
  rows-kept e = rw (e, rows_after)
