-- The lines made of the report's answer on the two records of what was read, and of the list that it leaves, are all that
-- `gridlate` prints, and they fit.
-- Assumes nothing.
use Prim.Native.Nat.{ℕ, ◌≤◌}
use native.Mathlib.Nat.{le_trans}
use mathlib.Core.List.{List}
use mathlib.Core.Path.{◌≡◌, sym, ap, ap₂, ◌∙◌}
use lib.IntN.{ℤ, pos}
use lib.ListN.{length, take, replicate}
use Rattle.schedule.specs.Fields.{Bytes}
use Rattle.schedule.specs.Model.{model}
use Rattle.schedule.specs.Answers.{Answer, Written}
use Rattle.schedule.specs.Report.{rows_needed, report_answer, report_rows}
use Rattle.schedule.specs.Streams.{input_limit, first_record, second_record}
use Rattle.schedule.specs.Lines.{late_lines, gridlate}
use Rattle.laws.proofs.LinesLaws.{taken-whole}
use Rattle.demands.proofs.Fits.{gridlate-fits}
use Rattle.text.specs.Printed.{leaves, printed}
use Rattle.text.proofs.PrintedLaws.{printed-fits}

-- the rows that are lent
abbrev pub blank : List ℤ
blank = replicate rows_needed (pos 0)

lines : (s m q : List ℕ) (said : Answer Written) (n : ℕ) (rows : List ℤ) → length s ≤ input_limit
    → m ≡ first_record s → q ≡ second_record s → n ≡ (model m).activities
    → said ≡ report_answer m q rows_needed → rows ≡ report_rows m q blank → late_lines said n rows ≡ gridlate s
unfolding gridlate
lines s m q said n rows h first second en e f =
    let whole = sym (taken-whole s h) in
    ap₂ (λ (v : Answer Written) (k : ℕ). late_lines v k rows) e en
    ∙ ap (late_lines (report_answer m q rows_needed) (model m).activities) f
    ∙ ap₂ (λ (x y : List ℕ). late_lines (report_answer x y rows_needed) (model x).activities (report_rows x y blank))
    (first ∙ ap first_record whole) (second ∙ ap second_record whole)

-- printed into an array that holds 366 bytes
pub answered : (s m q : List ℕ) (said : Answer Written) (n : ℕ) (rows : List ℤ) (old : List ℕ) {new : List ℕ} {r : ℕ}
    → length s ≤ input_limit → Bytes s → m ≡ first_record s → q ≡ second_record s → n ≡ (model m).activities
    → said ≡ report_answer m q rows_needed → rows ≡ report_rows m q blank
    → 366 ≤ length old → leaves r new ≡ printed (late_lines said n rows) old
    → (r ≡ length (gridlate s)) × (take r new ≡ gridlate s)
answered s m q said n rows old h bytes first second en e f fits p =
    printed-fits (gridlate s) old (le_trans (gridlate-fits s bytes) fits)
    (p ∙ ap (λ (l : List ℕ). printed l old) (lines s m q said n rows h first second en e f))
