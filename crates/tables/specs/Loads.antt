-- The widths of a model's activities by binary digits, and the cores that a word's activities take by them.
-- Assumes nothing.
use Rattle.std.specs.Prelude.{ℕ, ◌^◌, min, cond, ltb, get_or}
use Rattle.schedule.specs.Bounded.{bit, total, greatest, lowest, table}
use Rattle.schedule.specs.Model.{Model}
use Rattle.tables.specs.Columns.{among_activities}
use Rattle.tables.specs.declared.loads.Widths.{Widths}

-- the activities whose width has the digit worth 2 to the power j
abbrev pub plane_of : Model → ℕ → ℕ
plane_of m j = among_activities m (λ a. bit (m.width a) j)

-- how many digits the widest has: a width is a byte
abbrev pub depth_of : Model → ℕ
depth_of m = lowest 8 (λ d. ltb (greatest (min m.activities 32) m.width) (2 ^ d))

unfoldable pub widths_of : Model → Widths
widths_of m = record { planes = table 8 (plane_of m); depth = depth_of m }

-- the width that the planes give activity a
abbrev pub width_in : Widths → ℕ → ℕ
width_in widths a = total (min widths.depth 8) (λ j. cond (bit (get_or widths.planes j 0) a) (2 ^ j) 0)

-- the cores that a word's activities take by them: the sum of their widths
unfoldable pub load_from : Widths → ℕ → ℕ
load_from widths word = total 32 (λ a. cond (bit word a) (width_in widths a) 0)
