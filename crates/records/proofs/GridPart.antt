-- The part of a plan's bytes from where the grid begins: it holds the words of all ticks, and lies there.
-- Assumes nothing.
use Prim.Native.Nat.{ℕ, ◌+◌, ◌-◌, ◌≤◌, ◌<◌, min}
use native.Mathlib.Decide.{dec_le}
use native.Mathlib.Nat.{min-eq_left, min-eq_right}
use native.Mathlib.Omega.{arith}
use mathlib.Core.List.{List}
use mathlib.Core.Path.{◌≡◌, sym, ap, ◌∙◌}
use lib.ListN.{length, take, drop, length-drop, drop_of_length-le}
use lib.Seq.{take_all, drop-length}
use Rattle.schedule.specs.Plan.{plan, grid_at, plan_grid, plan_grid_at}

-- nothing is left to drop behind the end
drop-least : (k : ℕ) (s : List ℕ) → drop (min k (length s)) s ≡ drop k s
drop-least k s = elim (dec_le k (length s)) [
  | yes l ↦ ap (λ (i : ℕ). drop i s) (min-eq_left l)
  | no l ↦
      ap (λ (i : ℕ). drop i s) (min-eq_right {m = k} (omega arith))
      ∙ drop-length s
      ∙ sym (drop_of_length-le s {i = k} (omega arith))
]

-- the part from there to the end, of a slice whose first byte has this address
pub grid_part : (r : List ℕ) (b o from : ℕ) → from ≡ plan_grid_at r
    → (take (length r - from) (drop from r) ≡ plan_grid r) × ◌≡◌ {A = ℕ × ℕ} (b, from + o) (b, plan_grid_at r + o)
grid_part r b o from e = (
  take_all (length r - from) (drop from r) (omega (arith, length-drop from r))
      ∙ ap (λ (k : ℕ). drop k r) e
      ∙ drop-least (grid_at (plan r).threads (plan r).activities) r,
  ap (λ (k : ℕ). (b, k + o)) e,
)

-- where the grid begins, in bytes that reach so far and in others
pub begins_behind : (at n end : ℕ) → at ≡ n → at ≤ end → at ≡ min n end
begins_behind at n end e l = e ∙ sym (min-eq_left {n = n} (omega arith))

pub begins_at_end : (at n end : ℕ) → at ≡ n → end < at → end ≡ min n end
begins_at_end at n end e l = sym (min-eq_right {m = n} (omega arith))
