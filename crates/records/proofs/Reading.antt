-- A rule with no columns, tried row by row, and rules tried one after the other.
-- Assumes nothing.
use Prim.Native.Nat.{ℕ, ◌+◌, ◌<◌}
use native.Mathlib.Omega.{arith}
use mathlib.Core.Bool.{Bool, true, false, cond}
use mathlib.Core.List.{List, [], ◌∷◌, ◌++◌}
use mathlib.Core.Option.{Option, some, none}
use mathlib.Core.Path.{◌≡◌, refl, sym, ap, ap₂, ◌∙◌}
use Rattle.std.specs.Prelude.{Result, Ok, Err}
use Rattle.schedule.specs.Bounded.{first}
use Rattle.schedule.specs.Rule
use Rattle.schedule.specs.Rule.{Rule, break, first_break}
use Rattle.schedule.specs.Answers.{Answer, accepted, refused, answer}
use Rattle.schedule.specs.Numbers.{refusal_numbers}
use Rattle.schedule.specs.declared.Refusal.{Refusal}
use Rattle.laws.proofs.Tests.{up_to}
use Rattle.laws.proofs.FirstBreak.{first_some, first_ext}
use Rattle.laws.proofs.RowLaws.{refusal_at, row_break}
use Rattle.records.specs.declared.rows.Row.{Row}
use Rattle.records.specs.Reads.{refusal_of, answer_at, row_answer, row_read_numbers, pass_numbers, pick}

-- a call that tells a test said no, or yes
pub told_no : {r s : Bool} → r ≡ s → r ≡ false → s ≡ false
told_no e n = sym e ∙ n

pub told-yes : {r s : Bool} → r ≡ s → r ≡ true → s ≡ true
told-yes e n = sym e ∙ n

-- ---- a row

-- the answer at a row of which the test and the row are known
pub row_answered : (r : Rule) (a : ℕ) (o : Answer Row) (t : Bool) (row wanted : Row) → o ≡ answer_at t row r.number a
    → t ≡ r.test a 0 → row ≡ wanted → o ≡ row_answer r a wanted
unfolding row_answer
row_answered r a o t row wanted e test same = rw (← test, ← same) e

-- a row's answer is the row's break
row-break : (r : Rule) (a : ℕ) (row : Row) → r.columns ≡ 1 → row_break r a ≡ refusal_of (row_answer r a row)
unfolding row_break row_answer first
row-break r a row e =
    ap (λ (n : ℕ). first n (λ b. cond (r.test a b) none (some (refusal_at r a b)))) e ∙ one (r.test a 0)
  where
    one : (t : Bool) → cond t none (some (refusal_at r a 0)) ≡ refusal_of (answer_at t row r.number a)
    one true = refl
    one false = refl

-- rows read one by one, whose answers are those of f: before row i none is refused, and row i is read
module _ (f : ℕ → Answer Row) (i : ℕ) (read : Result Row Refusal) (clear : (a : ℕ) → a < i → refusal_of (f a) ≡ none)
    (e : row_read_numbers read ≡ f i) where
  told-at : (x : Result Row Refusal) → read ≡ x → refusal_of (f i) ≡ refusal_of (row_read_numbers x)
  told-at x told = ap refusal_of (sym e) ∙ ap (λ (y : Result Row Refusal). refusal_of (row_read_numbers y)) told

  -- it is taken, and none up to it is refused
  pub row-taken : (kept : Row) → read ≡ Ok kept → (a : ℕ) → a < i + 1 → refusal_of (f a) ≡ none
  row-taken kept told a l = up_to (λ (a : ℕ). refusal_of (f a) ≡ none) i clear (told-at _ told) a (omega arith)

  -- it is refused, and first
  pub row-refused : (rows : ℕ) (x : Refusal) (pass : Result (Unit {0}) Refusal) → i < rows → read ≡ Err x → pass ≡ Err x
      → pass_numbers pass ≡ first rows (λ a. refusal_of (f a))
  row-refused rows x pass l told p =
      ap pass_numbers p
      ∙ sym ((first_some rows (λ a. refusal_of (f a)) (refusal_numbers x)).1 (
        i,
        record { below = l; found = told-at _ told; earlier = clear },
      ))

-- the first refusal of a rule's rows is its break
pub rows_break : (r : Rule) (rows : ℕ) (row : ℕ → Row) (o : Option Rule.Refusal) → rows ≡ r.rows → r.columns ≡ 1
    → o ≡ first rows (λ a. refusal_of (row_answer r a (row a))) → o ≡ break r
unfolding break row_break
rows_break r rows row o e single told =
    told ∙ ap (λ (n : ℕ). first n (λ a. refusal_of (row_answer r a (row a)))) e
    ∙ first_ext r.rows _ (row_break r) (λ a l. sym (row-break r a (row a) single))

-- ---- one rule after the other

-- the first of two that is something
abbrev pub or_else : Option Rule.Refusal → Option Rule.Refusal → Option Rule.Refusal
or_else (some x) p = some x
or_else none p = p

pub orElse_none : (o : Option Rule.Refusal) → or_else o none ≡ o
orElse_none (some x) = refl
orElse_none none = refl

pub orElse_pick : (t : Bool) (number : ℕ) (o rest : Option Rule.Refusal)
    → or_else (pick t number o) rest ≡ pick t number (or_else o rest)
orElse_pick true number o rest = refl
orElse_pick false number o rest = refl

-- a pass p over the first of some rules, whose first break is o: it is refused, and that is the break, or it holds, and the
-- rest decides
module _ (o p rest : Option Rule.Refusal) (pass : Result (Unit {0}) Refusal) (whole : o ≡ or_else p rest) (e : pass_numbers pass ≡ p) where
  pub pass_refused : (x : Refusal) → pass ≡ Err x → some (refusal_numbers x) ≡ o
  pass_refused x told = sym (whole ∙ ap (λ (q : Option Rule.Refusal). or_else q rest) (sym e ∙ ap pass_numbers told))

  pub pass_holds : pass ≡ Ok tt → o ≡ rest
  pass_holds told = whole ∙ ap (λ (q : Option Rule.Refusal). or_else q rest) (sym e ∙ ap pass_numbers told)

-- the pass over the last of them
module _ (o : Option Rule.Refusal) (pass : Result (Unit {0}) Refusal) (e : pass_numbers pass ≡ o) where
  pub last_refused : (x : Refusal) → pass ≡ Err x → some (refusal_numbers x) ≡ o
  last_refused x told = sym (ap pass_numbers told) ∙ e

  pub last_holds : pass ≡ Ok tt → none ≡ o
  last_holds told = sym (ap pass_numbers told) ∙ e

next : (o p : Option Rule.Refusal) → elim o [ some x ↦ some x | none ↦ p ] ≡ or_else o p
next (some x) p = refl
next none p = refl

pub rule_next : (r : Rule) (rs : List Rule) → first_break (r ∷ rs) ≡ or_else (break r) (first_break rs)
unfolding first_break
rule_next r rs = next (break r) (first_break rs)

pub rule_end : first_break [] ≡ none
unfolding first_break
rule_end = refl

orElse_assoc : (o p q : Option Rule.Refusal) → or_else (or_else o p) q ≡ or_else o (or_else p q)
orElse_assoc (some x) p q = refl
orElse_assoc none p q = refl

-- two lists of rules, one after the other
pub rules_next : (rules more : List Rule) → first_break (rules ++ more) ≡ or_else (first_break rules) (first_break more)
rules_next [] more = ap (λ (o : Option Rule.Refusal). or_else o (first_break more)) (sym rule_end)
rules_next (r ∷ rules) more =
    rule_next r (rules ++ more)
    ∙ ap (or_else (break r)) (rules_next rules more)
    ∙ sym (orElse_assoc (break r) (first_break rules) (first_break more))
    ∙ ap (λ (o : Option Rule.Refusal). or_else o (first_break more)) (sym (rule_next r rules))

-- a rule that names no row, at the head of a list
pub rule_picked : (r : Rule) (rs : List Rule) → r.rows ≡ 1 → r.columns ≡ 1
    → first_break (r ∷ rs) ≡ pick (r.test 0 0) r.number (first_break rs)
unfolding break first
rule_picked r rs e f =
    rule_next r rs
    ∙ ap (λ (n : ℕ). or_else (first n (λ a. first r.columns (λ b. cond (r.test a b) none (some (refusal_at r a b)))))
    (first_break rs)) e
    ∙ ap (λ (n : ℕ). or_else (first 1 (λ a. first n (λ b. cond (r.test a b) none (some (refusal_at r a b)))))
    (first_break rs)) f
    ∙ one (r.test 0 0)
  where
    one : (t : Bool)
        → or_else (cond t none (some (refusal_at r 0 0))) (first_break rs) ≡ pick t r.number (first_break rs)
    one true = refl
    one false = refl

-- ---- a record's answer

pub answer-refusal : {F : Type 0} (o : Option Rule.Refusal) (pass : F) → refusal_of (answer o pass) ≡ o
unfolding answer
answer-refusal none pass = refl
answer-refusal (some x) pass = refl

pub answer-refused : {F : Type 0} (o : Option Rule.Refusal) (pass : F) (x : Rule.Refusal) → some x ≡ o
    → refused x ≡ answer o pass
unfolding answer
answer-refused o pass x e = ap (λ (o : Option Rule.Refusal). answer o pass) e

pub answer-accepted : {F : Type 0} (o : Option Rule.Refusal) (pass wanted : F) → none ≡ o → pass ≡ wanted
    → accepted pass ≡ answer o wanted
unfolding answer
answer-accepted o pass wanted e same = ap₂ answer e same

-- the same read backwards
pub answer-refuses : {F : Type 0} (o : Option Rule.Refusal) (pass : F) (x : Rule.Refusal) → refused x ≡ answer o pass → o ≡ some x
unfolding answer
answer-refuses none pass x e = cc
answer-refuses (some y) pass x e = cc

pub answer-accepts : {F : Type 0} (o : Option Rule.Refusal) (pass f : F) → accepted f ≡ answer o pass → o ≡ none
unfolding answer
answer-accepts none pass f e = refl
answer-accepts (some y) pass f e = cc
