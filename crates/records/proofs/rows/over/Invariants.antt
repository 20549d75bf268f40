-- `rows::over` meets its contract. The invariant: no row before a is refused.
-- Assumes nothing.
use Prim.Native.Nat.{ℕ, ◌<◌}
use mathlib.Core.Option.{none}
use mathlib.Core.Path.{◌≡◌}
use Rattle.std.specs.Prelude.{Result}
use Rattle.schedule.specs.Answers.{Answer}
use Rattle.schedule.specs.declared.Refusal.{Refusal}
use Rattle.records.specs.declared.rows.Row.{Row}
use Rattle.records.specs.Reads.{refusal_of, row_read_numbers}
use Rattle.records.proofs.rows.over.Given as goal

abbrev pub invariant-loop-a : goal.invariant-loop-a
invariant-loop-a g l =
    (f : ℕ → Answer Row)
    → ((a : ℕ) (y : Result Row Refusal) → a < l.rows → goal.F-post g l.read a y → row_read_numbers y ≡ f a)
    → (a : ℕ) → a < l.a → refusal_of (f a) ≡ none
