-- The lines of the report of lateness: how many there are, and a row as it is written.
-- Assumes nothing.
use Rattle.std.specs.Prelude.{ℕ, Bool, true, false, cond, List, [], ◌∷◌, ◌++◌, ℤ, pos, negsuc, nat_abs, get_or}
use Rattle.schedule.specs.Answers.{Answer, Written}
use Rattle.schedule.specs.Report.{is_dash, fills}
use Rattle.schedule.specs.Lines.{late_line}
use Rattle.text.specs.declared.late.Row.{Row}
use Rattle.text.specs.declared.late.Row.TheVariants.{Dash, Figure}
use Rattle.text.specs.Appended.{number}

-- how many activities have a line: all n of them, where the report has filled its rows
unfoldable pub lines_of : Answer Written → ℕ → ℕ
lines_of answer n = cond (fills answer) n 0

-- the line of activity a
unfoldable pub late_text : List ℤ → ℕ → List ℕ
late_text rows a = late_line a (get_or rows a (pos 0))

-- what is printed of a figure
abbrev pub is_negative : ℤ → Bool
is_negative (pos n) = false
is_negative (negsuc n) = true

abbrev pub row_of : ℤ → Row
row_of z = cond (is_dash z) Dash (Figure (is_negative z) (nat_abs z))

-- a minus sign, or none
unfoldable pub minus : Bool → List ℕ
minus true = 45 ∷ []
minus false = []

-- a row and the end of its line, and the whole line
unfoldable pub row_end : Row → List ℕ
row_end Dash = 45 ∷ 10 ∷ []
row_end (Figure negative size) = minus negative ++ number size 10

unfoldable pub row_line : ℕ → Row → List ℕ
row_line a r = number a 32 ++ row_end r
