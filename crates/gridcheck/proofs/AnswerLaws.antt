-- The lines made of the two verdicts on the two records of what was read are all that `gridcheck` prints, and they fit.
-- Assumes nothing.
use Prim.Native.Nat.{ℕ, ◌≤◌}
use native.Mathlib.Nat.{le_trans}
use mathlib.Core.List.{List}
use mathlib.Core.Path.{◌≡◌, ap, ◌∙◌}
use lib.ListN.{length, take}
use Rattle.schedule.specs.Answers.{Answer, Figures, plain_verdict, strict_verdict}
use Rattle.schedule.specs.Streams.{input_limit, first_record, second_record}
use Rattle.schedule.specs.Lines.{check_lines, gridcheck}
use Rattle.laws.proofs.LinesLaws.{taken-whole}
use Rattle.demands.proofs.Fits.{gridcheck-fits}
use Rattle.text.specs.Printed.{leaves, printed}
use Rattle.text.proofs.PrintedLaws.{printed-fits}

lines : (s : List ℕ) {m p : List ℕ} {plain strict : Answer Figures} → length s ≤ input_limit → m ≡ first_record s
    → p ≡ second_record s → plain ≡ plain_verdict m p → strict ≡ strict_verdict m p
    → check_lines plain strict ≡ gridcheck s
unfolding gridcheck
lines s h first second plain strict = cc (taken-whole s h)

-- printed into an array that holds 97 bytes
pub answered : (s : List ℕ) {m p : List ℕ} {plain strict : Answer Figures} (old : List ℕ) {new : List ℕ} {r : ℕ}
    → length s ≤ input_limit → m ≡ first_record s → p ≡ second_record s
    → plain ≡ plain_verdict m p → strict ≡ strict_verdict m p → 97 ≤ length old
    → leaves r new ≡ printed (check_lines plain strict) old → (r ≡ length (gridcheck s)) × (take r new ≡ gridcheck s)
answered s old h first second plain strict room e =
    printed-fits (gridcheck s) old (le_trans (gridcheck-fits s) room)
    (e ∙ ap (λ (l : List ℕ). printed l old) (lines s h first second plain strict))
