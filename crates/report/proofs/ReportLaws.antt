-- The report from tables by activity: its rows, the figures of a run that succeeds, and what its answer leaves in the list.
-- Assumes nothing.
use Prim.Native.Nat.{ℕ, ◌*◌, ◌-◌, ◌≤◌, ◌<◌}
use native.Mathlib.Nat.{mul-le-mul}
use native.Mathlib.Omega.{arith}
use mathlib.Core.List.{List}
use mathlib.Core.Option.{some, none}
use mathlib.Core.Path.{◌≡◌, refl, sym, subst, ap, ap₂, ◌∙◌}
use lib.IntN.{ℤ}
use lib.ListN.{length, get_or}
use Rattle.schedule.specs.Bounded.{total, greatest, least}
use Rattle.schedule.specs.Rule.{Refusal, first_break}
use Rattle.schedule.specs.declared.Refusal.{Refusal as Declared}
use Rattle.schedule.specs.declared.RunRefusal.{RunRefusal}
use Rattle.std.specs.Prelude.{Err}
use Rattle.schedule.specs.Numbers.{RunVerdict}
use Rattle.schedule.specs.Numbers.{refusal_numbers, run_number, run_numbers}
use Rattle.schedule.specs.Model.{Model, model}
use Rattle.schedule.specs.Choice.{Choice, choice}
use Rattle.schedule.specs.Machine.{machine_end}
use Rattle.schedule.specs.Answers.{Answer, accepted, refused, Figures, figures, Written, machine_plan, owed_rule, run_rules}
use Rattle.schedule.specs.Answers.{answer, written, run_checks}
use Rattle.schedule.specs.Report.{lateness, report_row, rows_needed, report_answer, rows_after, report_rows}
use Rattle.laws.proofs.FirstBreak.{none_iff, says}
use Rattle.laws.proofs.LatenessLaws.{rows-kept}
use Rattle.laws.proofs.MachinePlan.{end_le}
use Rattle.laws.proofs.Sound.{run_rules_sound}
use Rattle.laws.proofs.Sums.{total_ext, greatest_ext}
use Rattle.laws.proofs.Usage.{usage-durations}
use Rattle.laws.proofs.VerdictLaws.{input-number, report-from-input, report-past-input, rows_short, rows_enough}
use Rattle.tables.specs.Columns.{TableOf}
use Rattle.report.specs.Tables.{row_from, Small, HasEnds, AllEnded}
use Rattle.report.specs.Reports.{past_input, past_rows, Reports}

-- ---- the rows

module _ (m : Model) (q : Choice) (releases periods ends : List ℕ) (has : HasEnds m q ends)
    (released : TableOf m releases (λ a. q.release (m.thread a)))
    (timed : TableOf m periods (λ a. q.period (m.thread a))) where
  pub row_is : (a : ℕ) → a < m.activities → row_from releases periods ends a ≡ report_row m q a
  unfolding row_from report_row
  row_is a l =
      ap (λ (release : ℕ). lateness release (get_or periods a 0) (get_or ends a 0)) (released a l)
      ∙ ap₂ (λ (period end : ℕ). lateness (q.release (m.thread a)) period end) (timed a l) (has.end_ticks a l)

  pub tables-small : ((j : ℕ) → q.release j < 65536) → ((j : ℕ) → q.period j < 65536)
      → Small m.activities releases periods ends
  unfolding machine_end
  tables-small release period = record {
    release = λ a l. omega (arith, released a l, release (m.thread a));
    period = λ a l. omega (arith, timed a l, period (m.thread a));
    end = λ a l.
        omega (
          arith,
          has.end_ticks a l,
          end_le m q.release q.duration m.horizon a l,
          has.formed.horizon.1,
        );
  }

-- ---- the figures

-- the first break is none: nothing is owed
pub all-ended : (m : Model) (q : Choice) (ends : List ℕ) → HasEnds m q ends → first_break (run_rules m q) ≡ none
    → AllEnded m q ends
unfolding run_rules owed_rule
all-ended m q ends has e = record {
  has_ends = has;
  nothing_owed = λ a l.
      says (run_number RunRefusal.Owed) (run_rules m q) ((none_iff (run_rules m q) (run_rules_sound m q)).0 e) a 0 l (omega arith);
}

pub figures_are : (m : Model) (q : Choice) (ends durations widths : List ℕ) (used span : ℕ) → AllEnded m q ends
    → TableOf m durations q.duration → TableOf m widths m.width
    → used ≡ total m.activities (λ a. get_or durations a 0 * get_or widths a 0)
    → span ≡ greatest m.activities (λ a. get_or ends a 0) - least m.threads q.release
    → ◌≡◌ {A = Figures} (record { usage = used; capacity = m.cores * m.horizon; makespan = span })
    (figures m (machine_plan m q))
unfolding figures machine_plan
figures_are m q ends durations widths used span h lasting wide u s =
    let sum = u ∙ total_ext m.activities _ _ (λ a l. ap₂ ◌*◌ (lasting a l) (wide a l))
    ∙ sym (usage-durations m q h.nothing_owed) in
    let last = s ∙ ap (λ (x : ℕ). x - least m.threads q.release)
    (greatest_ext m.activities _ (machine_end m q.release q.duration) h.has_ends.end_ticks) in
    λ i. record { usage = sum i; capacity = m.cores * m.horizon; makespan = last i }

-- a duration times a width fits
pub worth_most : (x y : ℕ) → x < 65536 → y < 256 → x * y ≤ 16711425
worth_most x y h k = mul-le-mul {n₁ = x} {m₁ = y} {n₂ = 65535} {m₂ = 255} (omega arith) (omega arith)

-- ---- the answers

-- by the first break of 42 and 43
pub succeeds : (m : Model) (q : Choice) (w : Written) → first_break (run_rules m q) ≡ none → w ≡ written m q
    → accepted w ≡ past_rows m q
unfolding answer
succeeds m q w e f = ap {B = Answer Written} accepted f ∙ ap (λ o. answer o (written m q)) (sym e)

pub refuses : (m : Model) (q : Choice) (x : Refusal) → first_break (run_rules m q) ≡ some x → refused x ≡ past_rows m q
unfolding answer
refuses m q x e = ap (λ o. answer o (written m q)) (sym e)

-- where there are rows enough
pub concludes : (m : Model) (q : Choice) (list list' : List ℤ) (r : RunVerdict) → run_numbers r ≡ past_rows m q
    → list' ≡ rows_after (run_numbers r) m q list → Reports (past_rows m q) m q list list' r
concludes m q list list' r e f = record {
  says = e;
  leaves = f ∙ ap (λ (x : Answer Written). rows_after x m q list) e;
}

-- a report says every answer that is equal
same_answer : {said said' : Answer Written} {m : Model} {q : Choice} {list list' : List ℤ} {r : RunVerdict} → said ≡ said'
    → Reports said m q list list' r → Reports said' m q list list' r
same_answer {m = m} {q = q} {list = list} {list' = list'} {r = r} e h = subst (λ x. Reports x m q list list' r) e h

pub fits-reports : (m : Model) (q : Choice) (list list' : List ℤ) (r : RunVerdict) → rows_needed ≤ length list
    → Reports (past_rows m q) m q list list' r → Reports (past_input m q (length list)) m q list list' r
fits-reports m q list list' r l h =
    same_answer (ap (λ o. answer o (written m q)) (sym (rows_enough (length list) (run_rules m q) l))) h

-- 50
pub short-reports : (m : Model) (q : Choice) (list : List ℤ) (x : Declared) → length list < rows_needed
    → refusal_numbers x ≡ record { number = 50; A = 0; B = 0 }
    → Reports (past_input m q (length list)) m q list list (Err x)
unfolding answer
short-reports m q list x l e =
    same_answer (ap (λ o. answer o (written m q)) (sym (rows_short (length list) (run_rules m q) l)))
    (record { says = ap {B = Answer Written} refused e; leaves = sym (rows-kept (refused _) m q list refl) })

-- ---- the input

module _ (s q : List ℕ) where
  -- an input refusal changes no row: none of its numbers is 43
  pub input-refused : (list : List ℤ) (x : Refusal) → first_break (run_checks s q) ≡ some x
      → (refused x ≡ report_answer s q (length list)) × (list ≡ report_rows s q list)
  unfolding report_rows
  input-refused list x e =
      let said = report-from-input s q (length list) x e in (
        sym said,
        sym (ap (λ (a : Answer Written). rows_after a (model s) (choice q) list) said
            ∙ rows-kept (refused x) (model s) (choice q) list (input-number s q x e).1),
      )

  -- past the input the rest counts
  pub input-passed : (list list' : List ℤ) (r : RunVerdict) → first_break (run_checks s q) ≡ none
      → Reports (past_input (model s) (choice q) (length list)) (model s) (choice q) list list' r
      → (run_numbers r ≡ report_answer s q (length list)) × (list' ≡ report_rows s q list)
  unfolding report_rows
  input-passed list list' r e h =
      let said = report-past-input s q (length list) e in (
        h.says ∙ sym said,
        h.leaves ∙ sym (ap (λ (a : Answer Written). rows_after a (model s) (choice q) list) said),
      )
