-- The edit as the code makes it: the tick's word, then the row counted from the words as they are; and what the calls around it
-- hand on.
-- Assumes nothing.
use Prim.Native.Nat.{ℕ, ◌+◌, ◌<◌}
use mathlib.Core.List.{List}
use mathlib.Core.Path.{◌≡◌, sym, ap, ap₂, ◌∙◌}
use Rattle.schedule.specs.Bounded.{bit}
use Rattle.schedule.specs.Fields.{bytes, pair, Bytes}
use Rattle.schedule.specs.Model.{model}
use Rattle.schedule.specs.Plan.{Plan, plan, active, plan_bytes, plan_activity_row, grid_at, tick_at, plan_grid, word_in}
use Rattle.schedule.specs.Answers.{accepted, refused}
use Rattle.schedule.specs.Streams.{view_refusal}
use Rattle.schedule.specs.Numbers.{refusal_numbers}
use Rattle.schedule.specs.declared.Refusal.{Refusal}
use Rattle.laws.proofs.PlanBytes.{ReadsBack, reads_back, word_behind}
use Rattle.fields.specs.Put.{put}
use Rattle.records.specs.Reads.{pass_numbers}
use Rattle.records.proofs.PlanWrites.{with_word, plan-fits, plan-whole, row_put, word-put}
use Rattle.edit_rules.specs.declared.Edit.{Edit}
use Rattle.edit_rules.specs.declared.Reason.{Reason}
use Rattle.edit_rules.specs.Edits.{word_with, edited_word, first_marked, past_marked, edited_plan}
use Rattle.edit_rules.specs.Edits.{edit_answer, edit_bytes}
use Rattle.std.specs.Prelude.{Result, Ok, Err}
use Rattle.edit_rules.specs.EditNumbers.{Edited, reason_numbers, edited_numbers}
use Rattle.edit_rules.proofs.MarkedLaws.{first_ext, past_ext}
use Rattle.edit_rules.proofs.AnswerLaws.{edits_are_tried, rules_answer, behind_records, passed}
use Rattle.edit_rules.proofs.OneEdit.{marked, in_plan, worded_fits, edit_leaves}

-- ---- the row of a plan's own words

pub row_told : (r grid : List ℕ) (h a x y : ℕ) → h ≡ (plan r).horizon → grid ≡ plan_grid r
    → x ≡ first_marked h (λ t. bit (word_in grid t) a) → y ≡ past_marked h (λ t. bit (word_in grid t) a)
    → (x ≡ first_marked (plan r).horizon (λ t. active (plan r) t a)) × (y ≡ past_marked (plan r).horizon (λ t. active (plan r) t a))
row_told r grid h a x y eh eg ex ey = (
  ex ∙ first_ext h _ _ (λ t _. same t) ∙ ap (λ (k : ℕ). first_marked k (λ t. active (plan r) t a)) eh,
  ey ∙ past_ext h _ _ (λ t _. same t) ∙ ap (λ (k : ℕ). past_marked k (λ t. active (plan r) t a)) eh,
)
  where
    same : (t : ℕ) → bit (word_in grid t) a ≡ active (plan r) t a
    same t = ap (λ (w : ℕ). bit w a) (ap (λ (g : List ℕ). word_in g t) eg ∙ word_behind r t)

-- ---- the word, then the row

-- where an edit may be made: in bytes that are written from what they say, at one of their activities and ticks
abbrev pub Editable : List ℕ → Edit → Type 0
Editable r e = (r ≡ plan_bytes (plan r)) × (e.activity < (plan r).activities) × (e.tick < (plan r).horizon)

module _ (r : List ℕ) (e : Edit) (b : Bytes r) (ok : Editable r e) where
  -- the plan with the word alone
  abbrev worded : Plan
  worded = with_word (plan r) e.tick (word_with e ((plan r).word e.tick))

  back : ReadsBack worded
  back = reads_back worded (worded_fits (plan r) e (plan-fits r b) ok.2)

  -- the row that is counted in it
  first_there : first_marked (plan (plan_bytes worded)).horizon (λ t. active (plan (plan_bytes worded)) t e.activity)
      ≡ first_marked (plan r).horizon (marked (plan r) e)
  unfolding edited_word
  first_there =
      ap (λ (h : ℕ). first_marked h (λ t. active (plan (plan_bytes worded)) t e.activity)) back.horizon
      ∙ first_ext (plan r).horizon _ _ (λ t l. ap (λ (w : ℕ). bit w e.activity) (back.word t l))

  past_there : past_marked (plan (plan_bytes worded)).horizon (λ t. active (plan (plan_bytes worded)) t e.activity)
      ≡ past_marked (plan r).horizon (marked (plan r) e)
  unfolding edited_word
  past_there =
      ap (λ (h : ℕ). past_marked h (λ t. active (plan (plan_bytes worded)) t e.activity)) back.horizon
      ∙ past_ext (plan r).horizon _ _ (λ t l. ap (λ (w : ℕ). bit w e.activity) (back.word t l))

  pub make_says : (r₁ r₂ : List ℕ) (n m w start end : ℕ) → n ≡ (plan r).threads → m ≡ (plan r).activities
      → w ≡ word_with e ((plan r).word e.tick) → r₁ ≡ put (grid_at n m + tick_at e.tick) (bytes 4 w) r
      → start ≡ first_marked (plan r₁).horizon (λ t. active (plan r₁) t e.activity)
      → end ≡ past_marked (plan r₁).horizon (λ t. active (plan r₁) t e.activity)
      → r₂ ≡ put (plan_activity_row n e.activity) (pair start end) r₁ → r₂ ≡ plan_bytes (edited_plan (plan r) e)
  unfolding edited_plan edited_word
  make_says r₁ r₂ n m w start end en em ew e₁ es ee e₂ =
      e₂
      ∙ ap₂ (λ (k : ℕ) (l : List ℕ). put (plan_activity_row k e.activity) (pair start end) l) en word-written
      ∙ ap₂ (λ (x y : ℕ). put (plan_activity_row (plan r).threads e.activity) (pair x y) (plan_bytes worded))
      (es ∙ ap (λ (l : List ℕ). first_marked (plan l).horizon (λ t. active (plan l) t e.activity)) word-written ∙ first_there)
      (ee ∙ ap (λ (l : List ℕ). past_marked (plan l).horizon (λ t. active (plan l) t e.activity)) word-written ∙ past_there)
      ∙ row_put worded e.activity _ _ ok.1
    where
      word-written : r₁ ≡ plan_bytes worded
      word-written =
          e₁
          ∙ ap₂ (λ (x : ℕ × ℕ) (v : ℕ). put (grid_at x.0 x.1 + tick_at e.tick) (bytes 4 v) r) (λ i. (en i, em i)) ew
          ∙ ap (put (grid_at (plan r).threads (plan r).activities + tick_at e.tick) (bytes 4 (word_with e ((plan r).word e.tick))))
          ok.0
          ∙ word-put (plan r) e.tick (word_with e ((plan r).word e.tick)) ok.2

-- ---- what is handed on

-- the records are refused, or pass
pub records_refused : (s r : List ℕ) (e : Edit) (pass : Result (Unit {0}) Refusal) → pass_numbers pass ≡ view_refusal s r
    → (x : Refusal) → pass ≡ Err x → refused (refusal_numbers x) ≡ edit_answer s r e
records_refused s r e pass told x is =
    sym ((edits_are_tried s r e).records_first (refusal_numbers x) (sym told ∙ ap pass_numbers is))

pub records_pass : (s r : List ℕ) (e : Edit) (pass : Result (Unit {0}) Refusal) → pass_numbers pass ≡ view_refusal s r → pass ≡ Ok tt
    → rules_answer (model s) (plan r) e ≡ edit_answer s r e
records_pass s r e pass told is = sym (behind_records s r e (sym told ∙ ap pass_numbers is))

-- the call is refused, or the edit is made
pub refused-leaves : (s r : List ℕ) (e : Edit) (said : Edited) → edited_numbers said ≡ edit_answer s r e
    → (why : Reason) → said ≡ Err why → r ≡ edit_bytes s r e
refused-leaves s r e said told why is =
    sym ((edits_are_tried s r e).nothing_changed (reason_numbers why) (sym told ∙ ap edited_numbers is))

pub is_done : (s r : List ℕ) (e : Edit) (said : Edited) → edited_numbers said ≡ edit_answer s r e → said ≡ Ok tt
    → edit_answer s r e ≡ accepted tt
is_done s r e said told is = sym told ∙ ap edited_numbers is

module _ (s r : List ℕ) (e : Edit) (done : edit_answer s r e ≡ accepted tt) where
  pub done_editable : Bytes r → Editable r e
  done_editable b =
      let in_range = in_plan s r e b done in
      (plan-whole (model s) r b (passed s r e done).well_formed, in_range.0, in_range.1)

  pub done-leaves : plan_bytes (edited_plan (plan r) e) ≡ edit_bytes s r e
  done-leaves = sym (edit_leaves s r e done)
