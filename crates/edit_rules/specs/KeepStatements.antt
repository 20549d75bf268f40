-- What is to hold of asks and keeps, with quantifiers (U9 of 02): what an ask tells, when a keep is answered how, and what stands in
-- the plan after every list of asks, keeps and direct edits.
-- Assumes nothing.
use Rattle.std.specs.Prelude.{ℕ, ◌≤◌, List, [], ◌∷◌, ◌++◌, map, ◌↔◌, ◌≡◌}
use Rattle.std.proofs.Math.Option.{some, none}
use Rattle.schedule.specs.Fields.{Bytes}
use Rattle.schedule.specs.Rule.{Refusal, AllHold, FirstBroken}
use Rattle.schedule.specs.Answers.{Answer, accepted, refused, Figures, plain_verdict}
use Rattle.schedule.specs.Streams.{view_refusal}
use Rattle.schedule.specs.Retired.{NoCaseRetired, AnswerNotRetired}
use Rattle.demands.specs.Rounds.{SameGiven}
use Rattle.edit_rules.specs.declared.Edit.{Edit}
use Rattle.std.specs.Prelude.{Some, None}
use Rattle.edit_rules.specs.Keeping.{Asked}
use Rattle.edit_rules.specs.declared.Editing.{Editing}
use Rattle.edit_rules.specs.declared.Unkept.{Unkept}
use Rattle.edit_rules.specs.EditNumbers.{unkept_numbers}
use Rattle.edit_rules.specs.Edits.{edit_answer, edit_bytes, edited_by, answers_to}
use Rattle.edit_rules.specs.Keeping.{nothing_asked, edit_state, ask_answer, ask_state, keep_checks, keep_answer, keep_bytes, keep_state}
use Rattle.edit_rules.specs.Keeping.{Call, ask, direct, Session, begun, leaves, left_by, Entry, asks, keeps, edits, entries, kept_edits}
use Rattle.edit_rules.specs.Keeping.{Lent, state_by, seen_by}
use Rattle.edit_rules.specs.Statements.{refused_by, AfterEdits, Alone}

-- ---- what an ask tells

-- 21 to 29; that 24 is none of them is said below (KeepsNever)
abbrev pub OfVerdict : ℕ → Type 0
OfVerdict number = (21 ≤ number) × (number ≤ 29)

-- An ask for an edit, with any state and over any two lists of numbers.
pub record AskTold (s r : List ℕ) (state : Editing) (e : Edit) : Type 0 where
  -- "Refusals of an edit are given when asking": those of the direct edit, and no others
  pub refused_alike : (x : Refusal) → (ask_answer s r e ≡ refused x) ↔ (edit_answer s r e ≡ refused x)
  -- "the plain verdict that the plan would have": that of the bytes that the direct edit would leave
  pub verdict : (v : Answer Figures)
      → (ask_answer s r e ≡ accepted v) ↔ ((edit_answer s r e ≡ accepted tt) × (plain_verdict s (edit_bytes s r e) ≡ v))
  -- "21 to 29 is a verdict, no refused ask": what the verdict refuses is numbered so, and no refused ask is
  pub of_verdict : (x : Refusal) → Bytes r → ask_answer s r e ≡ accepted (refused x) → OfVerdict x.number
  pub of_refusal : (x : Refusal) → ask_answer s r e ≡ refused x → ¬ OfVerdict x.number
  -- "and changes no byte"
  pub no_byte : (leaves s (record { state = state; plan = r }) (ask e)).plan ≡ r
  -- "A new ask replaces the old one; a refused ask leaves nothing asked"
  pub asked : (v : Answer Figures) → ask_answer s r e ≡ accepted v → (ask_state s r state e).asked ≡ Some e
  pub erased : (x : Refusal) → ask_answer s r e ≡ refused x → (ask_state s r state e).asked ≡ None

abbrev pub AsksTell : Type 0
AsksTell = (s r : List ℕ) (state : Editing) (e : Edit) → AskTold s r state e

-- ---- what a keep answers

-- A keep with any state and over any two lists of numbers: so too where the plan "was changed elsewhere", or another model is lent.
pub record KeepTried (s r : List ℕ) (state : Editing) : Type 1 where
  -- unrefused exactly where every rule that it tries holds, and refused exactly with the first break
  pub unrefused_where : (keep_answer s r state.asked ≡ accepted tt) ↔ AllHold (keep_checks s r state.asked)
  pub names : (x : Refusal) → (keep_answer s r state.asked ≡ refused x) ↔ FirstBroken (keep_checks s r state.asked) x
  -- the records come first, then "keeping with nothing asked .. is 61"
  pub records_first : (x : Refusal) → view_refusal s r ≡ some x → keep_answer s r state.asked ≡ refused x
  pub where_nothing_asked : state.asked ≡ None → view_refusal s r ≡ none → keep_answer s r state.asked ≡ refused_by 61
  -- "Keeping applies that one edit and answers as a direct one"
  pub as_direct : (e : Edit) → state.asked ≡ Some e
      → (keep_answer s r state.asked ≡ edit_answer s r e) × (keep_bytes s r state.asked ≡ edit_bytes s r e)
  -- behind a kept edit nothing is asked, and "a refused keep changes nothing"
  pub erased : keep_answer s r state.asked ≡ accepted tt → (keep_state s r state).asked ≡ None
  pub nothing_changed : (x : Refusal) → keep_answer s r state.asked ≡ refused x
      → (keep_bytes s r state.asked ≡ r) × (keep_state s r state ≡ state)

abbrev pub KeepsAreTried : Type 1
KeepsAreTried = (s r : List ℕ) (state : Editing) → KeepTried s r state

-- ---- every list of calls

-- "Over every list of asks, keeps and direct edits over one model, each handed the state and the plan as last left, the plan is
-- that of the kept edits alone": by themselves they are all unrefused and leave these bytes; and where r is a string of bytes, all
-- that is said of the unrefused calls of a list (EveryList) holds of the kept edits.
pub record KeptBy (s r : List ℕ) (kept : List Edit) (after : List ℕ) : Type 0 where
  pub alone : Alone s r kept after
  pub meaning : Bytes r → AfterEdits s r after kept

abbrev pub KeptAlone : Type 0
KeptAlone = (s r : List ℕ) (calls : List Call)
    → KeptBy s r (kept_edits (entries s (begun r) calls)) (left_by s (begun r) calls).plan

-- every entry of a list has a property
abbrev pub AllOf : (Entry → Type 0) → List Entry → Type 0
AllOf P [] = Unit {0}
AllOf P (x ∷ xs) = P x × AllOf P xs

-- a call is refused
abbrev pub Refused : Answer (Unit {0}) → Type 0
Refused said = (x : Refusal) × (said ≡ refused x)

-- neither an ask nor a kept edit: a refused keep or a refused direct edit
abbrev pub NoAskNothingKept : Entry → Type 0
NoAskNothingKept (asks e said) = ⊥
NoAskNothingKept (keeps said) = Refused said
NoAskNothingKept (edits e said) = Refused said

-- An edit is still asked behind some entries: among them is an ask for it that told a verdict, and since then there was "no kept
-- edit" and no other ask.
pub record StillAsked (xs : List Entry) (e : Edit) (verdict : Answer Figures) : Type 0 where
  pub before : List Entry
  pub since : List Entry
  pub splits : xs ≡ before ++ (asks e (accepted verdict) ∷ since)
  pub no_other : AllOf NoAskNothingKept since

abbrev pub SomeAsked : List Entry → Type 0
SomeAsked xs = (e : Edit) × (v : Answer Figures) × StillAsked xs e v

-- A keep behind the entries xs, which have left x.
pub record KeepAnswered (s : List ℕ) (xs : List Entry) (x : Session) : Type 0 where
  -- it is done exactly where an edit is still asked: no refusal of that edit is left for the keep
  pub done_where : (keep_answer s x.plan x.state.asked ≡ accepted tt) ↔ SomeAsked xs
  -- and 61 exactly where none is and "1 to 14" pass
  pub where_nothing_asked : (keep_answer s x.plan x.state.asked ≡ refused_by 61)
      ↔ ((view_refusal s x.plan ≡ none) × (¬ SomeAsked xs))
  -- that one edit is made, and counts as the kept one
  pub that_edit : (e : Edit) (v : Answer Figures) → StillAsked xs e v
      → (keep_bytes s x.plan x.state.asked ≡ edit_bytes s x.plan e)
      × (kept_edits (xs ++ (keeps (accepted tt) ∷ [])) ≡ kept_edits xs ++ (e ∷ []))
  -- and the ask told the plain verdict that the kept plan has
  pub that_verdict : (e : Edit) (v : Answer Figures) → StillAsked xs e v
      → plain_verdict s (keep_bytes s x.plan x.state.asked) ≡ v

abbrev pub KeepsAreAnswered : Type 0
KeepsAreAnswered = (s r : List ℕ) (calls : List Call) → KeepAnswered s (entries s (begun r) calls) (left_by s (begun r) calls)

-- ---- direct edits with any state

-- The state after a mark or a clear, with any state and over any two lists of numbers.
pub record EditLeaves (s r : List ℕ) (state : Editing) (e : Edit) : Type 0 where
  -- "Unrefused direct edits are kept edits": behind one nothing is asked
  pub erased : edit_answer s r e ≡ accepted tt → (edit_state s r state e).asked ≡ None
  -- and a refused one leaves the state as it was
  pub nothing_changed : (x : Refusal) → edit_answer s r e ≡ refused x → edit_state s r state e ≡ state

abbrev pub EditsLeave : Type 0
EditsLeave = (s r : List ℕ) (state : Editing) (e : Edit) → EditLeaves s r state e

-- what the direct edits and keeps among some entries were answered
abbrev pub edit_answers_in : List Entry → List (Answer (Unit {0}))
edit_answers_in [] = []
edit_answers_in (asks e said ∷ xs) = edit_answers_in xs
edit_answers_in (keeps said ∷ xs) = said ∷ edit_answers_in xs
edit_answers_in (edits e said ∷ xs) = said ∷ edit_answers_in xs

-- A list of marks and clears, whatever state they are handed, is answered as one of U8 and leaves the same plan: what U8 says of
-- every list is said of them.
pub record EditedDirectly (s : List ℕ) (x : Session) (es : List Edit) : Type 0 where
  pub answers : edit_answers_in (entries s x (map direct es)) ≡ answers_to s x.plan es
  pub plan_after : (left_by s x (map direct es)).plan ≡ edited_by s x.plan es

abbrev pub DirectEdits : Type 0
DirectEdits = (s : List ℕ) (x : Session) (es : List Edit) → EditedDirectly s x es

-- ---- whatever is lent

-- "keeping with nothing asked, or with any kept edit since the asking": whatever models and plans the calls were lent, the state that
-- was handed on has an edit asked exactly where it is still asked, as seen from outside
abbrev pub StatesFollow : Type 0
StatesFollow = (calls : List Lent) (e : Edit)
    → ((state_by nothing_asked calls).asked ≡ Some e) ↔ ((v : Answer Figures) × StillAsked (seen_by nothing_asked calls) e v)

-- ---- pages of several rounds

-- Two records that give the same model are answered alike throughout every list, and leave the same state and the same plan.
abbrev pub SessionsAlike : Type 0
SessionsAlike = (s u : List ℕ) → SameGiven s u → (x : Session) (calls : List Call)
    → (entries s x calls ≡ entries u x calls) × (left_by s x calls ≡ left_by u x calls)

-- ---- the numbers

-- "The number is never used again" (U11 of 02): no refused ask, no verdict that is told and no keep has it
pub record KeepsNever : Type 0 where
  pub reasons : NoCaseRetired (λ (why : Unkept). (unkept_numbers why).number)
  pub asking : (s r : List ℕ) (e : Edit) → AnswerNotRetired (ask_answer s r e)
  pub telling : (s r : List ℕ) (e : Edit) (v : Answer Figures) → ask_answer s r e ≡ accepted v → AnswerNotRetired v
  pub keeping : (s r : List ℕ) (asked : Asked) → AnswerNotRetired (keep_answer s r asked)
