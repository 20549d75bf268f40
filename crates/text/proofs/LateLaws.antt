-- The parts that the lines of the report of lateness are made of, in the order in which they are written, and their lengths.
-- Assumes nothing.
use Prim.Native.Nat.{ℕ, ◌+◌}
use native.Mathlib.Omega.{arith}
use mathlib.Core.Bool.{Bool, true, false}
use mathlib.Core.List.{List, [], ◌∷◌, ◌++◌, append_assoc}
use mathlib.Core.Path.{◌≡◌, refl, sym, ap, ◌∙◌}
use lib.IntN.{ℤ, pos, negsuc}
use lib.ListN.{length, get_or, length-append}
use Rattle.schedule.specs.Answers
use Rattle.schedule.specs.Answers.{Answer, accepted, refused}
use Rattle.schedule.specs.Bounded.{chain}
use Rattle.schedule.specs.Report.{is_dash, fills}
use Rattle.schedule.specs.Lines.{decimal, shown, last_line, signed, row_text, late_line, late_lines}
use Rattle.text.specs.declared.Said.{Said}
use Rattle.text.specs.declared.late.Row.{Row}
use Rattle.text.specs.declared.late.Row.TheVariants.{Dash, Figure}
use Rattle.text.specs.Said.{run_said, run_name, verdict_word, line}
use Rattle.text.specs.Appended.{number}
use Rattle.text.specs.Rows.{lines_of, late_text, row_of, minus, row_end, row_line}
use Rattle.text.proofs.TextLaws.{length-number, chain_next}

-- ---- a row

pub dash-end : {r : Row} → r ≡ Dash → row_end r ≡ 45 ∷ 10 ∷ []
unfolding row_end
dash-end e = rw (e, row_end)

module _ {r : Row} {negative : Bool} {size : ℕ} (e : r ≡ Figure negative size) where
  pub figure-end : row_end r ≡ minus negative ++ number size 10
  unfolding row_end
  figure-end = rw (e, row_end)

  pub length-figure : length (row_end r) ≡ length (minus negative) + length (number size 10)
  length-figure = ap length figure-end ∙ length-append (minus negative) (number size 10)

-- ---- lines

pub length-row-line : (a : ℕ) (r : Row) → length (row_line a r) ≡ length (decimal a) + 1 + length (row_end r)
unfolding row_line
length-row-line a r = omega (arith, length-append (number a 32) (row_end r), length-number a 32)

-- the row of a figure, and the line
row-said : (z : ℤ) (b : Bool) → is_dash z ≡ b → row_text z ++ (10 ∷ []) ≡ row_end (row_of z)
unfolding row_text signed row_end minus number
row-said z true h = rw (h, row_text)
row-said (pos n) false h = refl
row-said (negsuc n) false h = rw (h, row_text)

line-said : (a : ℕ) (z : ℤ) → late_line a z ≡ row_line a (row_of z)
unfolding late_line row_line number
line-said a z =
    append_assoc (decimal a) (32 ∷ row_text z) (10 ∷ [])
    ∙ ap (λ (l : List ℕ). decimal a ++ (32 ∷ l)) (row-said z (is_dash z) refl)
    ∙ sym (append_assoc (decimal a) (32 ∷ []) (row_end (row_of z)))

module _ (rows : List ℤ) (a : ℕ) {r : Row} (e : r ≡ row_of (get_or rows a (pos 0))) where
  pub late_text_is : late_text rows a ≡ row_line a r
  unfolding late_text
  late_text_is = line-said a (get_or rows a (pos 0)) ∙ ap (row_line a) (sym e)

  -- the lines of one activity more
  pub lines_next : chain (a + 1) (late_text rows) ≡ chain a (late_text rows) ++ row_line a r
  lines_next = chain_next a (late_text rows) ∙ ap (λ (l : List ℕ). chain a (late_text rows) ++ l) late_text_is

  pub length_next : length (chain (a + 1) (late_text rows))
      ≡ length (chain a (late_text rows)) + (length (decimal a) + 1 + length (row_end r))
  length_next =
      ap length lines_next
      ∙ length-append (chain a (late_text rows)) (row_line a r)
      ∙ ap (λ (n : ℕ). length (chain a (late_text rows)) + n) (length-row-line a r)

-- ---- all of them

last_said : (v : Answer Answers.Written) → last_line v ≡ line run_name (run_said v)
unfolding shown line verdict_word
last_said (accepted w) = refl
last_said (refused x) = refl

late-said : (v : Answer Answers.Written) (n : ℕ) (rows : List ℤ) (b : Bool) → fills v ≡ b
    → late_lines v n rows ≡ chain (lines_of v n) (late_text rows) ++ last_line v
unfolding late_lines lines_of late_text chain
late-said v n rows true h = rw (h, late_lines)
late-said v n rows false h = rw (h, late_lines)

pub late-parts : (v : Answer Answers.Written) (n : ℕ) (rows : List ℤ) {count : ℕ} {said : Said} → count ≡ lines_of v n
    → said ≡ run_said v → late_lines v n rows ≡ chain count (late_text rows) ++ line run_name said
late-parts v n rows e d = simp (e, d, ← last_said v) (late-said v n rows (fills v) refl)
