-- What is to hold of the edits, with quantifiers (U8 of 02): when a call is answered how, what an unrefused call leaves in the plan,
-- and what stands in it after every list of calls.
-- Assumes nothing.
use Rattle.std.specs.Prelude.{ℕ, ◌+◌, ◌≤◌, ◌<◌, List, [], ◌∷◌, ◌++◌, map, ◌⊎◌, ◌↔◌, ◌≡◌, T, length, take, drop, get_or}
use Rattle.std.proofs.Math.Option.{some}
use Rattle.schedule.specs.Fields.{Bytes}
use Rattle.schedule.specs.Rule.{Refusal, AllHold, FirstBroken}
use Rattle.schedule.specs.Model.{model}
use Rattle.schedule.specs.Plan.{Plan, plan, active, plan_thread_row, plan_activity_row, grid_at, tick_at}
use Rattle.schedule.specs.Answers.{Answer, accepted, refused, MeetsForm, WellFormed}
use Rattle.schedule.specs.Streams.{view_refusal}
use Rattle.schedule.specs.Retired.{NoCaseRetired, AnswerNotRetired}
use Rattle.demands.specs.Rounds.{SameGiven}
use Rattle.edit_rules.specs.declared.Edit.{Edit}
use Rattle.edit_rules.specs.declared.Reason.{Reason}
use Rattle.edit_rules.specs.Edits.{edit_checks, edit_answer, edit_bytes, edited_by, answers_to, unrefused}
use Rattle.edit_rules.specs.EditNumbers.{edit_number, reason_numbers}

-- ---- what a call answers

-- Of any bytes and any edit: it is unrefused exactly where every rule that it tries holds, and refused exactly with the first
-- break; "1 to 14" come first, as a view is refused by them; and "with nothing changed".
pub record Tried (s r : List ℕ) (e : Edit) : Type 1 where
  pub unrefused_where : (edit_answer s r e ≡ accepted tt) ↔ AllHold (edit_checks s r e)
  pub names : (x : Refusal) → (edit_answer s r e ≡ refused x) ↔ FirstBroken (edit_checks s r e) x
  pub records_first : (x : Refusal) → view_refusal s r ≡ some x → edit_answer s r e ≡ refused x
  pub nothing_changed : (x : Refusal) → edit_answer s r e ≡ refused x → edit_bytes s r e ≡ r

abbrev pub EditsAreTried : Type 1
EditsAreTried = (s r : List ℕ) (e : Edit) → Tried s r e

-- a refusal that names no place
abbrev pub refused_by : ℕ → Answer (Unit {0})
refused_by number = refused (record { number = number; A = 0; B = 0 })

-- the edit is of an activity of the model, at one of its ticks
abbrev pub InGrid : List ℕ → Edit → Type 0
InGrid s e = (e.activity < (model s).activities) × (e.tick < (model s).horizon)

-- the bit is as the edit wants it
abbrev pub AlreadySo : List ℕ → Edit → Type 0
AlreadySo r e = active (plan r) e.tick e.activity ≡ e.on

-- Behind "1 to 14", by the words of the request.
pub record Answered (s r : List ℕ) (e : Edit) : Type 0 where
  -- "activity outside m is 58"
  pub outside_m : (edit_answer s r e ≡ refused_by 58) ↔ ((model s).activities ≤ e.activity)
  -- "then tick outside H is 59"
  pub outside_H : (edit_answer s r e ≡ refused_by 59) ↔ ((e.activity < (model s).activities) × ((model s).horizon ≤ e.tick))
  -- "then a bit already so is 60"
  pub already_so : (edit_answer s r e ≡ refused_by 60) ↔ (InGrid s e × AlreadySo r e)
  -- and every other call is unrefused
  pub done : (edit_answer s r e ≡ accepted tt) ↔ (InGrid s e × ¬ AlreadySo r e)

abbrev pub EditsAreAnswered : Type 0
EditsAreAnswered = (s r : List ℕ) (e : Edit) → MeetsForm s → WellFormed s r → Answered s r e

-- ---- what an unrefused call leaves

-- an activity is marked at a tick of a plan; that tick is the first such one, and the last
abbrev pub Marked : Plan → ℕ → ℕ → Type 0
Marked p a t = (t < p.horizon) × T (active p t a)

abbrev pub FirstMarked : Plan → ℕ → ℕ → Type 0
FirstMarked p a t = Marked p a t × ((u : ℕ) → u < t → ¬ Marked p a u)

abbrev pub LastMarked : Plan → ℕ → ℕ → Type 0
LastMarked p a t = Marked p a t × ((u : ℕ) → t < u → ¬ Marked p a u)

-- "that activity's start is its first marked tick and its end its last plus 1, or both 0 when none is marked"
pub record RowCounted (p : Plan) (a : ℕ) : Type 0 where
  pub from_first : (t : ℕ) → FirstMarked p a t → p.start a ≡ t
  pub to_last : (t : ℕ) → LastMarked p a t → p.end a ≡ t + 1
  pub none_marked : ((t : ℕ) → ¬ Marked p a t) → (p.start a ≡ 0) × (p.end a ≡ 0)

-- byte i is none of the four from a position on
abbrev pub Elsewhere : ℕ → ℕ → Type 0
Elsewhere at i = (i < at) ⊎ (at + 4 ≤ i)

-- The plan's bytes r before an unrefused call and after it.
pub record EditMade (s r : List ℕ) (e : Edit) : Type 0 where
  -- that bit, and no other
  pub that_bit : active (plan (edit_bytes s r e)) e.tick e.activity ≡ e.on
  pub other_bits : (t a : ℕ) → ¬ ((e.tick ≡ t) × (e.activity ≡ a))
      → active (plan (edit_bytes s r e)) t a ≡ active (plan r) t a
  -- that activity's row, by the words as they are now
  pub row : RowCounted (plan (edit_bytes s r e)) e.activity
  -- every other byte is the old one: those outside that row and outside that tick's word
  pub size : length (edit_bytes s r e) ≡ length r
  pub other_bytes : (i : ℕ) → Elsewhere (plan_activity_row (plan r).threads e.activity) i
      → Elsewhere (grid_at (plan r).threads (plan r).activities + tick_at e.tick) i
      → get_or (edit_bytes s r e) i 0 ≡ get_or r i 0
  -- and it is well-formed still
  pub still_formed : WellFormed s (edit_bytes s r e)

-- of every string of bytes, as every lent slice is one
abbrev pub EditsAreMade : Type 0
EditsAreMade = (s r : List ℕ) (e : Edit) → Bytes r → edit_answer s r e ≡ accepted tt → EditMade s r e

-- ---- every list of calls

-- some edit of a list has a property, and none has it
abbrev pub SomeOf : (Edit → Type 0) → List Edit → Type 0
SomeOf P [] = ⊥
SomeOf P (e ∷ es) = P e ⊎ SomeOf P es

abbrev pub NoneOf : (Edit → Type 0) → List Edit → Type 0
NoneOf P [] = Unit {0}
NoneOf P (e ∷ es) = (¬ P e) × NoneOf P es

-- an edit of an activity, and one of its bit at a tick
abbrev pub Of : ℕ → Edit → Type 0
Of a e = e.activity ≡ a

abbrev pub On : ℕ → ℕ → Edit → Type 0
On t a e = (e.tick ≡ t) × (e.activity ≡ a)

-- the bytes of an activity's row in a plan for n threads
abbrev pub row_bytes : ℕ → ℕ → List ℕ → List ℕ
row_bytes n a r = take 4 (drop (plan_activity_row n a) r)

-- The plan's bytes r before some calls, the bytes after them, and those of the calls that were unrefused, in their order.
pub record AfterEdits (s r after : List ℕ) (made : List Edit) : Type 0 where
  -- "from a plan that passes 8 to 14": it passes them
  pub well_formed : WellFormed s r → WellFormed s after
  -- "each bit afterwards is that of the last unrefused call on it"
  pub last_on : (earlier : List Edit) (e : Edit) (later : List Edit) → made ≡ earlier ++ (e ∷ later)
      → NoneOf (On e.tick e.activity) later → active (plan after) e.tick e.activity ≡ e.on
  -- "or the old one"
  pub old_bit : (t a : ℕ) → NoneOf (On t a) made → active (plan after) t a ≡ active (plan r) t a
  -- "header, releases, periods .. are the old bytes"
  pub size : length after ≡ length r
  pub front : take (plan_thread_row (plan r).threads) after ≡ take (plan_thread_row (plan r).threads) r
  -- and "the rows of activities without an unrefused call"
  pub other_rows : (a : ℕ) → a < (plan r).activities → NoneOf (Of a) made
      → row_bytes (plan r).threads a after ≡ row_bytes (plan r).threads a r
  -- the row of one with such a call, by the words as they are in the end
  pub rows : (a : ℕ) → SomeOf (Of a) made → RowCounted (plan after) a

-- "For every list of mark and clear calls over one model": so too after each of them, the calls up to it being a list
abbrev pub EveryList : Type 0
EveryList = (s r : List ℕ) (es : List Edit) → Bytes r → AfterEdits s r (edited_by s r es) (unrefused s r es)

-- The unrefused calls of a list by themselves, in their order: each of them is unrefused again, and they leave the same bytes.
pub record Alone (s r : List ℕ) (made : List Edit) (after : List ℕ) : Type 0 where
  pub all_done : answers_to s r made ≡ map (λ _. accepted tt) made
  pub same_bytes : edited_by s r made ≡ after

abbrev pub UnrefusedAlone : Type 0
UnrefusedAlone = (s r : List ℕ) (es : List Edit) → Alone s r (unrefused s r es) (edited_by s r es)

-- ---- pages of several rounds

-- Two records that give the same model are edited alike: so a page of several rounds as the record of its unrolled model, of which
-- crate demands, Rounds, says that it gives the same (U4 of 02).
abbrev pub EditedAlike : Type 0
EditedAlike = (s u r : List ℕ) (e : Edit) → SameGiven s u
    → (edit_answer s r e ≡ edit_answer u r e) × (edit_bytes s r e ≡ edit_bytes u r e)

-- ---- the numbers

-- "The number is never used again" (U11 of 02): neither 58 to 60 nor any answer of an edit is 24
pub record EditsNever : Type 0 where
  pub kinds : NoCaseRetired edit_number
  pub reasons : NoCaseRetired (λ (why : Reason). (reason_numbers why).number)
  pub edits : (s r : List ℕ) (e : Edit) → AnswerNotRetired (edit_answer s r e)
