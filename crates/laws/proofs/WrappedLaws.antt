-- Wrapped records: what their tests decide, and a step along a list of them by its tests.
-- Assumes nothing.
use Prim.Native.Nat.{ℕ, suc, ◌+◌, ◌<◌}
use mathlib.Core.Bool.{Bool, true, false, ◌&&◌, ◌||◌, cond}
use mathlib.Core.List.{List, [], ◌∷◌}
use mathlib.Core.Logic.Iff
use mathlib.Core.Logic.{◌⊎◌, inl, inr, ◌↔◌, ⊎_elim}
use mathlib.Core.Option.{Option, some, none, some-ne-none}
use native.Mathlib.Omega.{arith}
use mathlib.Core.Path.{◌≡◌, refl, sym, subst, ap, ap₂, ◌∙◌}
use lib.Dec.{T, eqb, ltb, eqb→eq, eqb_refl}
use lib.ListN.{length}
use Rattle.schedule.specs.Bounded.{first}
use Rattle.schedule.specs.Rule.{Refusal, break, first_break, AllHold}
use Rattle.schedule.specs.Answers.{Answer, accepted, refused}
use Rattle.schedule.specs.Exchange.{series, issue, withdrawn, wrapped, flag_rule, wrapper_form, unbroken, wrapper_rule}
use Rattle.schedule.specs.Exchange.{series_rule, same, copy_rule, Outranks, outranks, at_record, along, standing}
use Rattle.schedule.specs.Exchange.{Part, part_of, placed}
use Rattle.schedule.specs.Opened.{form_rules}
use Rattle.laws.proofs.Tests.{T_and, T_or, T_ltb, T_eqb, tests}
use Rattle.laws.proofs.FirstBreak.{or_else, AllSound, none_iff, ◌&◌}
use Rattle.laws.proofs.Sound.{model_form_sound}
use Rattle.laws.proofs.VerdictLaws.{accepted_is_not-refused}

-- ---- the tests

-- two byte strings are equal
pub same_sound : (x y : List ℕ) → T (same x y) ↔ (x ≡ y)
unfolding same
same_sound x y = (there x y, λ e. subst (λ (z : List ℕ). T (same x z)) e (itself x))
  where
    there : (x y : List ℕ) → T (same x y) → x ≡ y
    there [] [] t = refl
    there [] (b ∷ y) t = absurd t
    there (a ∷ x) [] t = absurd t
    there (a ∷ x) (b ∷ y) t =
        let both = (T_and (eqb a b) (same x y)).0 t in
        ap₂ (λ (c : ℕ) (z : List ℕ). c ∷ z) (eqb→eq a b both.0) (there x y both.1)

    itself : (x : List ℕ) → T (same x x)
    itself [] = tt
    itself (a ∷ x) = (T_and (eqb a a) (same x x)).1 (eqb_refl a, itself x)

-- by the issue, then by the flag
by_two : (i j f g : ℕ) → T (ltb i j || (eqb i j && ltb f g)) ↔ ((i < j) ⊎ ((i ≡ j) × (f < g)))
by_two i j f g = (
  λ t. ⊎_elim (λ l. inl ((T_ltb i j).0 l)) (λ e. inr (both.0 ((T_and (eqb i j) (ltb f g)).0 e))) (either.0 t),
  λ h. either.1 (⊎_elim (λ l. inl ((T_ltb i j).1 l)) (λ e. inr ((T_and (eqb i j) (ltb f g)).1 (both.1 e))) h),
)
  where
    either : T (ltb i j || (eqb i j && ltb f g)) ↔ (T (ltb i j) ⊎ T (eqb i j && ltb f g))
    either = T_or (ltb i j) (eqb i j && ltb f g)

    both : (T (eqb i j) × T (ltb f g)) ↔ ((i ≡ j) × (f < g))
    both = Iff.and (T_eqb i j) (T_ltb f g)

pub outranks_sound : (x y : List ℕ) → T (outranks x y) ↔ Outranks x y
unfolding outranks
outranks_sound x y = by_two (issue y) (issue x) (withdrawn y) (withdrawn x)

-- a flag of 0 or 1 beside what every record has
pub wrapper_form_sound : (w : List ℕ) → AllSound (wrapper_form w)
unfolding wrapper_form flag_rule form_rules
wrapper_form_sound w =
    (λ a b. simp tests Iff.rfl) & (λ a b. simp tests Iff.rfl) & (λ a b. simp tests Iff.rfl) & model_form_sound (wrapped w)

unbroken_iff : (o : Option Refusal) → T (unbroken o) ↔ (o ≡ none)
unbroken_iff none = (λ t. refl, λ e. tt)
unbroken_iff (some x) = (λ t. absurd t, some-ne-none x)

-- 54, 55 and 56: a record's tests beside the one standing so far
abbrev pub is_right : List ℕ → Bool
is_right w = (wrapper_rule w).test 0 0

abbrev pub one_series : List ℕ → List ℕ → Bool
one_series x w = (series_rule x w).test 0 0

abbrev pub none_other : List ℕ → List ℕ → Bool
none_other x w = (copy_rule x w).test 0 0

pub right_sound : (w : List ℕ) → T (is_right w) ↔ AllHold (wrapper_form w)
unfolding wrapper_rule
right_sound w = Iff.trans (unbroken_iff (first_break (wrapper_form w))) (none_iff (wrapper_form w) (wrapper_form_sound w))

pub series_sound : (x w : List ℕ) → T (one_series x w) ↔ (series w ≡ series x)
unfolding series_rule
series_sound x w = T_eqb (series w) (series x)

ruleset with-same = (tests, same_sound)

pub copy_sound : (x w : List ℕ)
    → T (none_other x w) ↔ (series w ≡ series x → issue w ≡ issue x → withdrawn w ≡ withdrawn x → w ≡ x)
unfolding copy_rule
copy_sound x w = simp with-same (λ h i j k. h (i, (j, k)), λ h e. h e.0 e.1.0 e.1.1)

-- ---- a step

-- refused at record k by a number
abbrev pub turned : {F : Type 0} → ℕ → ℕ → Answer F
turned number k = refused (record { number = number; A = k; B = 0 })

-- one of the three refusals, or an answer where w outranks the one standing and one where it does not
abbrev pub answer_by_tests : {F : Type 0} → Bool → Bool → Bool → Bool → ℕ → Answer F → Answer F → Answer F
answer_by_tests right one copy above k new old =
    cond right (cond one (cond copy (cond above new old) (turned 56 k)) (turned 55 k)) (turned 54 k)

-- what holds of each of the five holds of the one
pub by_tests : {F : Type 0} (P : Answer F → Type 0) (right one copy above : Bool) (k : ℕ) (new old : Answer F)
    → (¬ T right → P (turned 54 k))
    → (T right → ¬ T one → P (turned 55 k))
    → (T right → T one → ¬ T copy → P (turned 56 k))
    → (T right → T one → T copy → T above → P new)
    → (T right → T one → T copy → ¬ T above → P old)
    → P (answer_by_tests right one copy above k new old)
by_tests P false one copy above k new old r54 r55 r56 n o = r54 (λ t. t)
by_tests P true false copy above k new old r54 r55 r56 n o = r55 tt (λ t. t)
by_tests P true true false above k new old r54 r55 r56 n o = r56 tt tt (λ t. t)
by_tests P true true true true k new old r54 r55 r56 n o = n tt tt tt tt
by_tests P true true true false k new old r54 r55 r56 n o = o tt tt tt (λ t. t)

-- the answer that follows the first break of a record's rules
abbrev pub onwards : Option Refusal → Bool → ℕ → Answer ℕ → Answer ℕ → Answer ℕ
onwards o above k new old = elim o [ some x ↦ refused (at_record k x) | none ↦ elim above [ true ↦ new | false ↦ old ] ]

-- a rule that names no place
abbrev pub unless : Bool → ℕ → Option Refusal
unless passed number = cond passed none (some (record { number = number; A = 0; B = 0 }))

pub along-step : (k r : ℕ) (x w : List ℕ) (ws : List (List ℕ))
    → along k r x (w ∷ ws)
    ≡ answer_by_tests (is_right w) (one_series x w) (none_other x w) (outranks w x) k (along (k + 1) k w ws) (along (k + 1) r x ws)
unfolding along first_break break first wrapper_rule series_rule copy_rule
along-step k r x w ws =
    by (is_right w) (one_series x w) (none_other x w) (outranks w x) (along (k + 1) k w ws) (along (k + 1) r x ws)
  where
    by : (right one copy above : Bool) (new old : Answer ℕ)
        → onwards (or_else (unless right 54) (or_else (unless one 55) (or_else (unless copy 56) none))) above k new old
        ≡ answer_by_tests right one copy above k new old
    by false one copy above new old = refl
    by true false copy above new old = refl
    by true true false above new old = refl
    by true true true true new old = refl
    by true true true false new old = refl

-- the first record of all is tried by 54 alone
pub standing-first : (w : List ℕ) (ws : List (List ℕ)) → standing (w ∷ ws) ≡ cond (is_right w) (along 1 0 w ws) (turned 54 0)
unfolding standing first_break break first wrapper_rule
standing-first w ws = by (is_right w) (along 1 0 w ws)
  where
    by : (right : Bool) (new : Answer ℕ)
        → onwards (or_else (unless right 54) none) true 0 new new ≡ cond right new (turned 54 0)
    by false new = refl
    by true new = refl

-- ---- the answers

abbrev number_of : Answer ℕ → ℕ
number_of (accepted r) = r
number_of (refused x) = 0

no_pass : {F : Type 0} (x : Refusal) (f : F) → ¬ (refused x ≡ accepted f)
no_pass x f e = accepted_is_not-refused f x (sym e)

-- the one that stands is one of them
along_lt : (ws : List (List ℕ)) (k r : ℕ) (x : List ℕ) → r < k
    → (s : ℕ) → along k r x ws ≡ accepted s → s < k + length ws
unfolding along
along_lt [] k r x l s e = omega (arith, l, ap number_of e)
along_lt (w ∷ ws) k r x l s e =
    by_tests (λ a. a ≡ accepted s → s < k + suc (length ws))
    (is_right w) (one_series x w) (none_other x w) (outranks w x) k (along (k + 1) k w ws) (along (k + 1) r x ws)
    (λ _ z. absurd (no_pass _ s z)) (λ _ _ z. absurd (no_pass _ s z)) (λ _ _ _ z. absurd (no_pass _ s z))
    (λ _ _ _ _ z. omega (arith, along_lt ws (k + 1) k w (omega arith) s z))
    (λ _ _ _ _ z. omega (arith, along_lt ws (k + 1) r x (omega (arith, l)) s z))
    (sym (along-step k r x w ws) ∙ e)

pub standing_lt : (ws : List (List ℕ)) (s : ℕ) → standing ws ≡ accepted s → s < length ws
unfolding standing
standing_lt [] s e = absurd (no_pass _ s e)
standing_lt (w ∷ ws) s e = by (is_right w) (sym (standing-first w ws) ∙ e)
  where
    by : (right : Bool) → cond right (along 1 0 w ws) (turned 54 0) ≡ accepted s → s < suc (length ws)
    by false z = absurd (no_pass _ s z)
    by true z = omega (arith, along_lt ws 1 0 w (omega arith) s z)

-- from the answer with the part, the answer
pub placed-from : (offset : ℕ → ℕ) (ws : List (List ℕ)) (a : Answer ℕ) (x : Part) → placed offset ws a ≡ accepted x
    → (a ≡ accepted x.index) × (part_of offset ws x.index ≡ x)
unfolding placed
placed-from offset ws (accepted r) x e =
    let same : part_of offset ws r ≡ x = cc in
    (ap (λ (y : Part). accepted y.index) same, subst (λ (y : Part). part_of offset ws y.index ≡ y) same refl)
placed-from offset ws (refused y) x e = absurd (no_pass y x e)

pub refused-from : (offset : ℕ → ℕ) (ws : List (List ℕ)) (a : Answer ℕ) (x : Refusal) → placed offset ws a ≡ refused x
    → a ≡ refused x
unfolding placed
refused-from offset ws (accepted r) x e = absurd (accepted_is_not-refused _ x e)
refused-from offset ws (refused y) x e = cc
