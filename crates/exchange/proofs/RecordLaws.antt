-- One record by its tests, and beside the one standing so far; two byte strings compared byte by byte.
-- Assumes nothing.
use Prim.Native.Nat.{ℕ, ◌-◌}
use native.Mathlib.Decide.{dec_lt, ℕ_discrete}
use native.Mathlib.Omega.{arith}
use mathlib.Core.Bool.{Bool, true, false, ◌&&◌, ◌||◌, cond}
use mathlib.Core.List.{List, [], ◌∷◌}
use mathlib.Core.Option.{Option, some, none}
use mathlib.Core.Path.{◌≡◌, refl, sym, subst, ap, ◌∙◌}
use lib.Dec.{eqb, leb, ltb}
use lib.ListN.{length, take, drop, length-drop}
use lib.Seq.{take_all}
use Rattle.std.specs.Cmp.Lexicographic.{pointwise}
use Rattle.std.specs.Prelude.{Result, Ok, Err, is_ok, not, Some}
use Rattle.std.proofs.Common.{Less, Equal, Greater}
use Rattle.std.specs.Ordering.{is_lt, is_some_and, nat_cmp, partial_ordering_then}
use borrow.Author.Tests.{ne_eqb, le-leb, lt-leb}
use Rattle.schedule.specs.Bounded.{first, ◌⇒◌}
use Rattle.schedule.specs.Fields.{field}
use Rattle.schedule.specs.Rule.{Refusal, break, first_break}
use Rattle.schedule.specs.Model.{model_form}
use Rattle.schedule.specs.Records.{within}
use Rattle.schedule.specs.Answers.{Answer, accepted, refused, answer}
use Rattle.schedule.specs.Numbers.{refusal_numbers}
use Rattle.schedule.specs.declared.Refusal as declared
use Rattle.records.specs.declared.model.Sizes.{Sizes}
use Rattle.records.specs.Reads.{model_read_numbers}
use Rattle.schedule.specs.Exchange.{issue, withdrawn, wrapped, unbroken, flag_rule, wrapper_form, wrapper_rule, series_rule}
use Rattle.schedule.specs.Exchange.{same, copy_rule, record_rules, outranks}
use Rattle.schedule.specs.Opened.{form_rules}
use Rattle.laws.proofs.FirstBreak.{or_else}
use Rattle.laws.proofs.VerdictLaws.{accepted_is_not-refused}
use Rattle.laws.proofs.WrappedLaws.{is_right, one_series, none_other, answer_by_tests, unless}

-- ---- one record

-- all that is left from a place on
pub left_from : (f : List ℕ) (at : ℕ) → take (length f - at) (drop at f) ≡ drop at f
left_from f at = take_all (length f - at) (drop at f) (omega (arith, length-drop at f))

-- what the reading of a model answers tells whether its rules are unbroken
read_whole : (o : Option Refusal) (y f : Sizes) → accepted f ≡ answer o y → true ≡ unbroken o
unfolding answer
read_whole none y f e = refl
read_whole (some x) y f e = absurd (accepted_is_not-refused f x e)

read_refused : (o : Option Refusal) (y : Sizes) (x : Refusal) → refused x ≡ answer o y → false ≡ unbroken o
unfolding answer
read_refused none y x e = absurd (accepted_is_not-refused y x (sym e))
read_refused (some z) y x e = refl

pub model-tells : (w : List ℕ) (r : Result Sizes declared.Refusal) (y : Sizes)
    → model_read_numbers r ≡ answer (first_break (model_form (take (length w - 12) (drop 12 w)))) y
    → is_ok r ≡ unbroken (first_break (model_form (wrapped w)))
model-tells w (Ok f) y said =
    read_whole (first_break (model_form (take (length w - 12) (drop 12 w)))) y f said
    ∙ ap (λ (s : List ℕ). unbroken (first_break (model_form s))) (left_from w 12)
model-tells w (Err x) y said =
    read_refused (first_break (model_form (take (length w - 12) (drop 12 w)))) y (refusal_numbers x) said
    ∙ ap (λ (s : List ℕ). unbroken (first_break (model_form s))) (left_from w 12)

one_only : (v : ℕ) → within 1 1 v ≡ eqb v 1
one_only v = elim (ℕ_discrete v 1) [
  | yes e ↦ subst (λ (k : ℕ). within 1 1 k ≡ eqb k 1) (sym e) refl
  | no e ↦ elim (dec_lt v 1) [
    | yes l ↦ simp (lt-leb 1 v l, ne_eqb v 1 e)
    | no l ↦ simp (le-leb 1 v (omega (arith, l)), lt-leb v 1 (omega (arith, l, e)), ne_eqb v 1 e)
  ]
]

-- 54 by its tests
pub right_by : (w : List ℕ)
    → unbroken (first_break (wrapper_form w))
    ≡ ((leb 12 (length w) && eqb (field w 0 4) (length w)) && (eqb (field w 4 1) 1 && (leb (withdrawn w) 1
    && unbroken (first_break (model_form (wrapped w))))))
unfolding wrapper_form first_break break first flag_rule form_rules
right_by w =
    by (leb 12 (length w) && eqb (field w 0 4) (length w)) (within 1 1 (field w 4 1)) (leb (withdrawn w) 1)
    (first_break (model_form (wrapped w)))
    ∙ ap (λ (b : Bool). (leb 12 (length w) && eqb (field w 0 4) (length w)) && (b && (leb (withdrawn w) 1
    && unbroken (first_break (model_form (wrapped w)))))) (one_only (field w 4 1))
  where
    by : (a b c : Bool) (rest : Option Refusal)
        → unbroken (or_else (unless a 54) (or_else (unless b 54) (or_else (unless c 54) rest))) ≡ (a && (b && (c && unbroken rest)))
    by false b c rest = refl
    by true false c rest = refl
    by true true false rest = refl
    by true true true rest = refl

-- ---- beside the one standing so far

-- 56's test, by whether one of the three fields differs
pub fields_differ : (series issue flag bytes : Bool)
    → ((series && (issue && flag)) ⇒ bytes) ≡ cond (not ((series && issue) && flag)) true bytes
fields_differ false issue flag bytes = refl
fields_differ true false flag bytes = refl
fields_differ true true false bytes = refl
fields_differ true true true bytes = refl

-- by the issue, then by the flag, as pairs are ordered
pub outranks_by : (x y : List ℕ) (i f j g : ℕ) → i ≡ issue y → f ≡ withdrawn y → j ≡ issue x → g ≡ withdrawn x
    → is_some_and is_lt (partial_ordering_then (Some (nat_cmp i j)) (Some (nat_cmp f g))) ≡ outranks x y
unfolding outranks
outranks_by x y i f j g ei ef ej eg =
    rw (ei, ef, ej, eg)
    (by (ltb (issue y) (issue x)) (eqb (issue y) (issue x)) (ltb (withdrawn y) (withdrawn x)) (eqb (withdrawn y) (withdrawn x)))
  where
    by : (a b d e : Bool)
        → is_some_and is_lt (partial_ordering_then (Some (cond a Less (cond b Equal Greater))) (Some (cond d Less (cond e Equal Greater))))
        ≡ (a || (b && d))
    by true b d e = refl
    by false false d e = refl
    by false true true e = refl
    by false true false true = refl
    by false true false false = refl

-- what a record is found to be, by its tests
pub compared_by : (x w : List ℕ)
    → answer (first_break (record_rules x w)) (outranks w x)
    ≡ answer_by_tests (is_right w) (one_series x w) (none_other x w) (outranks w x) 0 (accepted true) (accepted false)
unfolding answer first_break break first wrapper_rule series_rule copy_rule
compared_by x w = by (is_right w) (one_series x w) (none_other x w) (outranks w x)
  where
    by : (right one copy above : Bool)
        → answer (or_else (unless right 54) (or_else (unless one 55) (or_else (unless copy 56) none))) above
        ≡ answer_by_tests right one copy above 0 (accepted true) (accepted false)
    by false one copy above = refl
    by true false copy above = refl
    by true true false above = refl
    by true true true true = refl
    by true true true false = refl

pub taken_above : (a b : Bool) → a ≡ b → ◌≡◌ {A = Answer Bool} (accepted a) (cond b (accepted true) (accepted false))
taken_above a true e = ap accepted e
taken_above a false e = ap accepted e

-- ---- two byte strings

-- what the language's own comparison answers
pub same_as : (x y : List ℕ) → pointwise eqb x y ≡ same x y
unfolding same
same_as [] [] = refl
same_as [] (b ∷ y) = refl
same_as (a ∷ x) [] = refl
same_as (a ∷ x) (b ∷ y) = ap (λ (t : Bool). eqb a b && t) (same_as x y)
