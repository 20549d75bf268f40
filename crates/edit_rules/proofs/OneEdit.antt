-- One unrefused edit: the bytes that it leaves in the plan, and what they say.
-- Assumes nothing.
use Prim.Native.Nat.{ℕ, zero, suc, ◌+◌, ◌^◌, ◌≤◌, ◌<◌}
use native.Mathlib.Decide.{dec_lt}
use native.Mathlib.Omega.{arith}
use mathlib.Core.Bool.{Bool, cond}
use mathlib.Core.List.{List}
use mathlib.Core.Logic.{inl, inr}
use mathlib.Core.Path.{◌≡◌, refl, sym, ap, subst, ◌∙◌}
use lib.Dec.{T, eqb}
use lib.ListN.{length, get_or, get_or-eq_default}
use borrow.Author.Tests.{eq-eqb}
use Rattle.schedule.specs.Bounded.{bit}
use Rattle.schedule.specs.Fields.{field, bytes, pair, Bytes}
use Rattle.schedule.specs.Model.{model, Formed}
use Rattle.schedule.specs.Plan.{Plan, plan, active, plan_bytes, plan_activity_row, grid_at, tick_at}
use Rattle.schedule.specs.Answers.{accepted, WellFormed}
use Rattle.laws.proofs.FieldLaws.{length-bytes}
use Rattle.laws.proofs.Formed.{model-says}
use Rattle.laws.proofs.PlanBytes.{Fits, ReadsFrom, reads_back, bytes-plan_bytes, length-pair}
use Rattle.laws.proofs.PlanForm
use Rattle.laws.proofs.PlanForm.{form-says, written-form}
use Rattle.fields.specs.Put.{put}
use Rattle.fields.proofs.PutLaws.{Outside, put_off, length-put}
use Rattle.records.proofs.PlanWrites.{with_word, row_fits, word_fits, plan-fits, plan-whole, row_put, word-put}
use Rattle.edit_rules.specs.declared.Edit.{Edit}
use Rattle.edit_rules.specs.Edits.{word_with, edited_word, first_marked, past_marked, edited_plan, edit_answer, edit_bytes}
use Rattle.edit_rules.specs.Statements.{RowCounted, Elsewhere, EditMade, EditsAreMade}
use Rattle.edit_rules.proofs.MarkedLaws.{first_is, first-none, first_le, past_is, past-none, past_le}
use Rattle.edit_rules.proofs.BitLaws.{word_lt, word-elsewhere, that_bit, other-bit}
use Rattle.edit_rules.proofs.AnswerLaws.{where_unrefused, Passed, passed}

-- ---- the edited plan

-- the ticks at which the edit's activity is marked afterwards
abbrev pub marked : Plan → Edit → ℕ → Bool
marked p e t = bit (edited_word p e t) e.activity

-- its parts fit their bytes
pub worded_fits : (p : Plan) (e : Edit) → Fits p → e.tick < p.horizon
    → Fits (with_word p e.tick (word_with e (p.word e.tick)))
worded_fits p e fits t =
    word_fits p e.tick (word_with e (p.word e.tick)) fits (word_lt e (p.word e.tick) (fits.word e.tick t))

edited_fits : (p : Plan) (e : Edit) → Fits p → e.tick < p.horizon → Fits (edited_plan p e)
unfolding edited_plan edited_word
edited_fits p e fits t =
    row_fits (with_word p e.tick (word_with e (p.word e.tick))) e.activity (first_marked p.horizon (marked p e))
    (past_marked p.horizon (marked p e)) (worded_fits p e fits t)
    (omega (arith, fits.horizon, first_le p.horizon (marked p e))) (omega (arith, fits.horizon, past_le p.horizon (marked p e)))

-- its bytes are the old ones with one word written, and then one row
pub edited_puts : (p : Plan) (e : Edit) → e.activity < p.activities → e.tick < p.horizon
    → put (plan_activity_row p.threads e.activity)
    (pair (first_marked p.horizon (marked p e)) (past_marked p.horizon (marked p e)))
    (put (grid_at p.threads p.activities + tick_at e.tick) (bytes 4 (word_with e (p.word e.tick))) (plan_bytes p))
    ≡ plan_bytes (edited_plan p e)
unfolding edited_plan edited_word
edited_puts p e a t =
    ap (put (plan_activity_row p.threads e.activity) _) (word-put p e.tick (word_with e (p.word e.tick)) t)
    ∙ row_put (with_word p e.tick (word_with e (p.word e.tick))) e.activity _ _ a

-- ---- a row that is counted

pub row_counted : (p : Plan) (a h : ℕ) (m : ℕ → Bool) → p.horizon ≡ h → ((t : ℕ) → active p t a ≡ m t)
    → p.start a ≡ first_marked h m → p.end a ≡ past_marked h m → RowCounted p a
row_counted p a h m eh same start end = record {
  from_first = λ t is. start ∙ first_is h m t (omega (arith, eh, is.0.0)) (set t is.0.1) (λ u l x.
      is.1 u l (omega (arith, is.0.0), unset u x));
  to_last = λ t is. end ∙ past_is h m t (omega (arith, eh, is.0.0)) (set t is.0.1) (λ u l k x.
      is.1 u l (omega (arith, eh), unset u x));
  none_marked = λ never. (
    start ∙ first-none h m (λ u l x. never u (omega (arith, eh), unset u x)),
    end ∙ past-none h m (λ u l x. never u (omega (arith, eh), unset u x)),
  );
}
  where
    set : (t : ℕ) → T (active p t a) → T (m t)
    set t x = subst T (same t) x

    unset : (t : ℕ) → T (m t) → T (active p t a)
    unset t x = subst T (sym (same t)) x

-- ---- words past the end

field_past : (s : List ℕ) (at k : ℕ) → length s ≤ at → field s at k ≡ 0
unfolding field
field_past s at zero h = refl
field_past s at (suc k) h =
    omega (arith, field_past s at k h, get_or-eq_default s 0 {n = at + k} (omega arith))

word-past : (r : List ℕ) (t : ℕ) → length r ≤ grid_at (plan r).threads (plan r).activities + tick_at t → (plan r).word t ≡ 0
unfolding plan
word-past r t h = field_past r _ 4 h

-- ---- an unrefused call

-- it leaves the edited plan, written out
pub edit_leaves : (s r : List ℕ) (e : Edit) → edit_answer s r e ≡ accepted tt → edit_bytes s r e ≡ plan_bytes (edited_plan (plan r) e)
unfolding edit_bytes
edit_leaves s r e done = where_unrefused (edit_answer s r e) tt _ r done

-- its plan is no longer than the longest
pub longest : (s r : List ℕ) (e : Edit) → edit_answer s r e ≡ accepted tt → length r ≤ 16553
longest s r e done =
    let ok = passed s r e done in
    let w = form-says (model s) r ok.well_formed in
    let f : Formed (model s) = model-says s ok.meets_form in
    omega (arith, w.length, f.threads.1, f.activities.1, f.horizon.1)

module _ (s r : List ℕ) (e : Edit) (b : Bytes r) (done : edit_answer s r e ≡ accepted tt) where
  ok : Passed s r e
  ok = passed s r e done

  w : PlanForm.WellFormed (model s) r
  w = form-says (model s) r ok.well_formed

  pub in_plan : (e.activity < (plan r).activities) × (e.tick < (plan r).horizon)
  in_plan = (omega (arith, w.activities, ok.activity), omega (arith, w.horizon, ok.tick))

  low : e.activity < 32
  low = let f : Formed (model s) = model-says s ok.meets_form in omega (arith, f.activities.1, ok.activity)

  fits : Fits (edited_plan (plan r) e)
  fits = edited_fits (plan r) e (plan-fits r b) in_plan.1

  -- the bytes
  left : edit_bytes s r e ≡ plan_bytes (edited_plan (plan r) e)
  left = edit_leaves s r e done

  pub after-bytes : Bytes (edit_bytes s r e)
  after-bytes = rw left (bytes-plan_bytes (edited_plan (plan r) e))

  abbrev row : List ℕ
  row = pair (first_marked (plan r).horizon (marked (plan r) e)) (past_marked (plan r).horizon (marked (plan r) e))

  abbrev word : List ℕ
  word = bytes 4 (word_with e ((plan r).word e.tick))

  abbrev row_at : ℕ
  row_at = plan_activity_row (plan r).threads e.activity

  abbrev word_at : ℕ
  word_at = grid_at (plan r).threads (plan r).activities + tick_at e.tick

  written : edit_bytes s r e ≡ put row_at row (put word_at word r)
  written =
      left
      ∙ sym (edited_puts (plan r) e in_plan.0 in_plan.1)
      ∙ ap (λ (x : List ℕ). put row_at row (put word_at word x)) (sym (plan-whole (model s) r b ok.well_formed))

  outside : (at : ℕ) (x : List ℕ) (i : ℕ) → length x ≡ 4 → Elsewhere at i → Outside at (length x) i
  outside at x i four (inl l) = inl l
  outside at x i four (inr l) = inr (omega arith)

  same_size : length (edit_bytes s r e) ≡ length r
  same_size = ap length written ∙ length-put row_at row (put word_at word r) ∙ length-put word_at word r

  other_bytes : (i : ℕ) → Elsewhere row_at i → Elsewhere word_at i → get_or (edit_bytes s r e) i 0 ≡ get_or r i 0
  other_bytes i off-row off-word =
      ap (λ (x : List ℕ). get_or x i 0) written
      ∙ put_off row_at row (put word_at word r) i (outside row_at row i (length-pair _ _) off-row)
      ∙ put_off word_at word r i (outside word_at word i (length-bytes 4 _) off-word)

  -- what they say
  pub back : ReadsFrom (edited_plan (plan r) e) (edit_bytes s r e)
  back = rw left (reads_back (edited_plan (plan r) e) fits)

  word_small : (plan r).word e.tick < 2 ^ 32
  word_small = (plan-fits r b).word e.tick in_plan.1

  still_formed : WellFormed s (edit_bytes s r e)
  unfolding edited_plan
  still_formed =
      rw left
      (written-form (model s) (edited_plan (plan r) e) fits w.threads w.activities w.horizon w.in_range (λ t l c k h x.
      w.words-within t l c k h
      (subst T (other-bit (plan r) e low word_small t c (λ same. omega (arith, same.1, ok.activity))) x)))

  after-word : (t : ℕ) → (plan (edit_bytes s r e)).word t ≡ edited_word (plan r) e t
  unfolding edited_plan
  after-word t =
      elim (dec_lt t (plan r).horizon) [
        | yes l ↦ back.word t l
        | no l ↦
            word-past (edit_bytes s r e) t
            (omega (arith, same_size, w.length, w.threads, w.activities, w.horizon, back.threads, back.activities))
            ∙ sym (word-elsewhere (plan r) e t (omega (arith, in_plan.1))
            ∙ word-past r t (omega (arith, w.length, w.threads, w.activities, w.horizon)))
      ]

  after-bit : (t a : ℕ) → active (plan (edit_bytes s r e)) t a ≡ bit (edited_word (plan r) e t) a
  after-bit t a = ap (λ (x : ℕ). bit x a) (after-word t)

  counted : RowCounted (plan (edit_bytes s r e)) e.activity
  unfolding edited_plan
  counted =
      row_counted (plan (edit_bytes s r e)) e.activity (plan r).horizon (marked (plan r) e) back.horizon
      (λ t. after-bit t e.activity) (back.start e.activity in_plan.0 ∙ own _ _) (back.end e.activity in_plan.0 ∙ own _ _)
    where
      own : (x y : ℕ) → cond (eqb e.activity e.activity) x y ≡ x
      own x y = ap (λ (t : Bool). cond t x y) (eq-eqb e.activity e.activity refl)

  pub edit_made : EditMade s r e
  edit_made = record {
    that_bit = after-bit e.tick e.activity ∙ that_bit (plan r) e low word_small;
    other_bits = λ t a other. after-bit t a ∙ other-bit (plan r) e low word_small t a other;
    row = counted;
    size = same_size;
    other_bytes = other_bytes;
    still_formed = still_formed;
  }

pub edits_are_made : EditsAreMade
edits_are_made = edit_made
