-- Rules of rows that no row can break, by the version, the rounds or the cores of a page.
-- Assumes nothing.
use Prim.Native.Nat.{ℕ}
use native.Mathlib.Omega.{arith}
use mathlib.Core.Bool.{Bool, true, false, not}
use mathlib.Core.List.{List}
use mathlib.Core.Option.{none}
use mathlib.Core.Path.{◌≡◌, sym, subst, ap, ◌∙◌}
use lib.Dec.{T, leb, ltb}
use borrow.Author.Tests.{leb-true, le-ltb, not-false, not-true}
use Rattle.schedule.specs.Rule.{Rule, break}
use Rattle.schedule.specs.Model.{Page, page, period_rule, loop_rule, width_rule}
use Rattle.laws.proofs.RowLaws.{ClearTo, clear-end, row-clear}
use Rattle.records.specs.Rows.{oldest, older}

-- a rule whose test passes everywhere has no break
unbroken : (r : Rule) → ((a b : ℕ) → T (r.test a b)) → break r ≡ none
unfolding ClearTo
unbroken r h = clear-end r (λ a l. row-clear r a (λ b k. h a b))

-- 52, in one round
pub period_settled : (p : Page) (rounds : ℕ) → rounds ≡ p.rounds → leb rounds 1 ≡ true → break (period_rule p) ≡ none
unfolding period_rule
period_settled p rounds e most =
    let one : ltb 1 p.rounds ≡ false = le-ltb 1 p.rounds (omega (arith, leb-true rounds 1 most, e)) in
    unbroken (period_rule p) (λ a b. rw (one) tt)

-- 53, where there are no loop bytes
pub loop_settled : (s : List ℕ) (loops : Bool) → loops ≡ not (oldest s) → not loops ≡ true
    → break (loop_rule (page s)) ≡ none
unfolding loop_rule page
loop_settled s loops e none-there =
    let is-oldest : oldest s ≡ true = not-false _ (sym e ∙ not-true loops none-there) in
    unbroken (loop_rule (page s)) (λ a b. rw (is-oldest) tt)

-- 57, where there are no widths and at least one core
pub width_settled : (s : List ℕ) (widths : Bool) (cores : ℕ) → widths ≡ not (older s)
    → cores ≡ (page s).plain.cores → widths ≡ false → leb 1 cores ≡ true → break (width_rule (page s).plain) ≡ none
unfolding width_rule page
width_settled s widths cores e same none-there core =
    let is-older : older s ≡ true = not-false _ (sym e ∙ none-there) in
    let held : T (leb 1 (page s).plain.cores) = subst T (sym (ap (leb 1) (sym same) ∙ core)) tt in
    unbroken (width_rule (page s).plain) (λ a b. rw (is-older) held)
