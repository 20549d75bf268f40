-- Each row call's answer is that of its rule at the row: the test of the row that was read is the rule's test there.
-- Assumes nothing.
use Prim.Native.Nat.{ℕ}
use mathlib.Core.Bool.{Bool, ◌&&◌}
use mathlib.Core.List.{List}
use mathlib.Core.Path.{◌≡◌, refl, sym, ap, ap₂, ◌∙◌}
use Rattle.schedule.specs.Answers.{Answer}
use Rattle.schedule.specs.Records.{within}
use Rattle.schedule.specs.Model.{Model, Page, thread_rule, period_rule, activity_rule, loop_rule, width_rule, mask_rule}
use Rattle.schedule.specs.Choice.{Choice, duration_rule, range_rule}
use Rattle.schedule.specs.Plan.{plan, plan_grid, word_in, word_rule}
use Rattle.laws.proofs.PlanBytes.{word_read}
use Rattle.records.specs.declared.rows.Row.{Row}
use Rattle.records.specs.declared.model.ThreadRow.{ThreadRow}
use Rattle.records.specs.declared.model.ActivityRow.{ActivityRow}
use Rattle.records.specs.declared.plan.Timing.{Timing}
use Rattle.records.specs.Rows.{thread_row_of, activity_row_of, thread_holds, period_holds, activity_holds, loop_holds, masks_hold}
use Rattle.records.specs.Rows.{none_from, timing, timing_at, timing_holds, timing_rule}
use Rattle.records.specs.Reads.{answer_at, row_answer}
use Rattle.records.proofs.Masks.{none-from_both}
use Rattle.records.proofs.Reading.{row_answered}

-- rule 7 of one mask and of the other
pub masks_parts : (a : ℕ) (row : ActivityRow)
    → masks_hold a row ≡ (none_from row.temporal_mask a && none_from row.data_mask a)
unfolding masks_hold none_from
masks_parts a row = sym (none-from_both 32 a row.temporal_mask row.data_mask)

-- ---- an answer o, from a test t of what was read

pub thread_answered : (m : Model) (j : ℕ) (o : Answer Row) (t : Bool) (row : ThreadRow) → row ≡ thread_row_of m j
    → t ≡ thread_holds row → o ≡ answer_at t (Row.Thread row) 5 j
    → o ≡ row_answer (thread_rule m) j (Row.Thread (thread_row_of m j))
unfolding thread_rule thread_holds thread_row_of
thread_answered m j o t row e holds said =
    row_answered (thread_rule m) j o t (Row.Thread row) _ said (holds ∙ ap thread_holds e) (ap Row.Thread e)

pub period_answered : (p : Page) (j rounds : ℕ) (o : Answer Row) (t : Bool) (row : ThreadRow) → row ≡ thread_row_of p.plain j
    → rounds ≡ p.rounds → t ≡ period_holds rounds row → o ≡ answer_at t (Row.Thread row) 52 j
    → o ≡ row_answer (period_rule p) j (Row.Thread (thread_row_of p.plain j))
unfolding period_rule period_holds thread_row_of
period_answered p j rounds o t row e same holds said =
    row_answered (period_rule p) j o t (Row.Thread row) _ said (holds ∙ ap₂ period_holds same e) (ap Row.Thread e)

pub loop_answered : (p : Page) (a q m : ℕ) (o : Answer Row) (t : Bool) → q ≡ p.loop a → m ≡ p.plain.activities
    → t ≡ loop_holds m q → o ≡ answer_at t (Row.Loop q) 53 a → o ≡ row_answer (loop_rule p) a (Row.Loop (p.loop a))
unfolding loop_rule loop_holds
loop_answered p a q m o t e activities holds said =
    row_answered (loop_rule p) a o t (Row.Loop q) _ said (holds ∙ ap₂ loop_holds activities e) (ap Row.Loop e)

pub activity_answered : (m : Model) (a n : ℕ) (o : Answer Row) (t : Bool) (row : ActivityRow) → row ≡ activity_row_of m a
    → n ≡ m.threads → t ≡ activity_holds n row → o ≡ answer_at t (Row.Activity row) 6 a
    → o ≡ row_answer (activity_rule m) a (Row.Activity (activity_row_of m a))
unfolding activity_rule activity_holds activity_row_of
activity_answered m a n o t row e threads holds said =
    row_answered (activity_rule m) a o t (Row.Activity row) _ said (holds ∙ ap₂ activity_holds threads e) (ap Row.Activity e)

pub width_answered : (m : Model) (a width cores : ℕ) (o : Answer Row) (t : Bool) → width ≡ m.width a → cores ≡ m.cores
    → t ≡ within 1 cores width → o ≡ answer_at t (Row.Width width) 57 a
    → o ≡ row_answer (width_rule m) a (Row.Width (m.width a))
unfolding width_rule
width_answered m a width cores o t e same holds said =
    row_answered (width_rule m) a o t (Row.Width width) _ said (holds ∙ ap₂ (within 1) same e) (ap Row.Width e)

pub masks_answered : (m : Model) (a : ℕ) (o : Answer Row) (t : Bool) (row : ActivityRow) → row ≡ activity_row_of m a
    → t ≡ masks_hold a row → o ≡ answer_at t (Row.Activity row) 7 a
    → o ≡ row_answer (mask_rule m) a (Row.Activity (activity_row_of m a))
unfolding mask_rule masks_hold activity_row_of
masks_answered m a o t row e holds said =
    row_answered (mask_rule m) a o t (Row.Activity row) _ said (holds ∙ ap (masks_hold a) e) (ap Row.Activity e)

pub timing_answered : (m : Model) (r : List ℕ) (at j : ℕ) (o : Answer Row) (t : Bool) (row : Timing) → row ≡ timing_at r at j
    → t ≡ timing_holds (thread_row_of m j) row → o ≡ answer_at t (Row.Timing row) 12 j
    → o ≡ row_answer (timing_rule m r at) j (Row.Timing (timing_at r at j))
unfolding range_rule timing_holds thread_row_of timing_at timing
timing_answered m r at j o t row e holds said =
    row_answered (timing_rule m r at) j o t (Row.Timing row) _ said (holds ∙ ap (timing_holds (thread_row_of m j)) e)
    (ap Row.Timing e)

pub duration_answered : (m : Model) (q : Choice) (a : ℕ) (o : Answer Row) (t : Bool) (range : ActivityRow) (chosen : ℕ)
    → range ≡ activity_row_of m a → chosen ≡ q.duration a
    → t ≡ within range.least_duration range.most_duration chosen → o ≡ answer_at t (Row.Duration chosen) 13 a
    → o ≡ row_answer (duration_rule m q) a (Row.Duration (q.duration a))
unfolding duration_rule activity_row_of
duration_answered m q a o t range chosen e same holds said =
    row_answered (duration_rule m q) a o t (Row.Duration chosen) _ said
    (holds ∙ ap₂ (λ (row : ActivityRow). within row.least_duration row.most_duration) e same)
    (ap Row.Duration same)

-- a word of the plan's grid, where there are n activities
pub word_answered : (m : Model) (r grid : List ℕ) (t n : ℕ) (o : Answer Row) → grid ≡ plan_grid r → n ≡ m.activities
    → o ≡ answer_at (none_from (word_in grid t) n) (Row.Word (word_in grid t)) 14 t
    → o ≡ row_answer (word_rule m (plan r)) t (Row.Word ((plan r).word t))
unfolding word_rule none_from
word_answered m r grid t n o e activities said =
    let same = word_read r grid t (word_in grid t) e refl in
    row_answered (word_rule m (plan r)) t o _ (Row.Word (word_in grid t)) _ said (ap₂ none_from same activities) (ap Row.Word same)
