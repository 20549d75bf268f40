-- The lines made of the run's answer on the two records of what was read, and of the buffer that it leaves, are all that
-- `gridrun` prints, and they fit.
-- Assumes nothing.
use Prim.Native.Nat.{ℕ, ◌≤◌}
use native.Mathlib.Nat.{le_trans}
use mathlib.Core.List.{List}
use mathlib.Core.Path.{◌≡◌, sym, subst, ap, ap₂, ◌∙◌}
use lib.ListN.{length, take}
use Rattle.schedule.specs.Fields.{Bytes}
use Rattle.schedule.specs.Model.{model}
use Rattle.schedule.specs.Choice.{choice}
use Rattle.schedule.specs.Plan.{plan}
use Rattle.schedule.specs.Answers.{Answer, Written, machine_plan, run_answer, run_buffer}
use Rattle.schedule.specs.Streams.{input_limit, first_record, second_record, taken}
use Rattle.schedule.specs.Lines.{run_room, run_lines, gridrun}
use Rattle.laws.proofs.LinesLaws.{taken-whole, second-bytes}
use Rattle.demands.proofs.Fits.{gridrun-fits}
use Rattle.demands.proofs.Page.{page-written}
use Rattle.text.specs.Printed.{leaves, printed}
use Rattle.text.proofs.PrintedLaws.{printed-fits}

lines : (s m q buffer buffer' : List ℕ) (verdict : Answer Written) → length s ≤ input_limit → Bytes s
    → m ≡ first_record s → q ≡ second_record s → length buffer ≡ run_room → verdict ≡ run_answer m q (length buffer)
    → buffer' ≡ run_buffer m q buffer → run_lines verdict (plan buffer') ≡ gridrun s
unfolding gridrun
lines s m q buffer buffer' verdict h bytes first second room e f =
    let whole = sym (taken-whole s h) in
    let second-whole : q ≡ second_record (taken s) = second ∙ ap second_record whole in
    ap₂ (λ (v : Answer Written) (b : List ℕ). run_lines v (plan b)) e f
    ∙ page-written m q buffer (subst Bytes (sym second-whole) (second-bytes s bytes))
    ∙ ap (λ (k : ℕ). run_lines (run_answer m q k) (machine_plan (model m) (choice q))) room
    ∙ ap₂ (λ (x y : List ℕ). run_lines (run_answer x y run_room) (machine_plan (model x) (choice y)))
    (first ∙ ap first_record whole) second-whole

-- printed into an array that holds 57,390 bytes
pub answered : (s m q buffer buffer' : List ℕ) (verdict : Answer Written) (old : List ℕ) {new : List ℕ} {r : ℕ}
    → length s ≤ input_limit → Bytes s → m ≡ first_record s → q ≡ second_record s
    → length buffer ≡ run_room → verdict ≡ run_answer m q (length buffer) → buffer' ≡ run_buffer m q buffer
    → 57390 ≤ length old → leaves r new ≡ printed (run_lines verdict (plan buffer')) old
    → (r ≡ length (gridrun s)) × (take r new ≡ gridrun s)
answered s m q buffer buffer' verdict old h bytes first second room e f fits p =
    let made = lines s m q buffer buffer' verdict h bytes first second room e f in
    printed-fits (gridrun s) old (le_trans (gridrun-fits s bytes) fits)
    (p ∙ ap (λ (l : List ℕ). printed l old) made)
