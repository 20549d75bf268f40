-- "Try, then keep" (U9 of 02): the editing state, what an ask and a keep answer and what they leave, and a list of calls over one
-- model, with the edits that were kept.
-- Assumes nothing.
use Rattle.std.specs.Prelude as std
use Rattle.std.specs.Prelude.{ℕ, Bool, true, false, List, [], ◌∷◌, ◌++◌, Some, None, ◌≡◌}
use Rattle.std.proofs.Math.Option.{Option, some, none}
use Rattle.schedule.specs.Rule.{Rule, first_break}
use Rattle.schedule.specs.Model.{Model, model, model_form}
use Rattle.schedule.specs.Plan.{Plan, plan, plan_form}
use Rattle.schedule.specs.Answers.{Answer, Figures, answer, plain_verdict}
use Rattle.edit_rules.specs.declared.Edit.{Edit}
use Rattle.edit_rules.specs.declared.Editing.{Editing}
use Rattle.edit_rules.specs.Edits.{edit_rules, edit_checks, edit_answer, if_unrefused, edit_bytes}

-- ---- the editing state

-- what is asked: nothing, or one edit
abbrev pub Asked : Type 0
Asked = std.Option Edit

-- "begins with nothing asked"
abbrev pub nothing_asked : Editing
nothing_asked = record { asked = None }

-- an edit is asked
abbrev pub asking : Edit → Editing
asking e = record { asked = Some e }

-- the state after a mark or a clear: behind an unrefused one, which is a kept edit, nothing is asked
unfoldable pub edit_state : List ℕ → List ℕ → Editing → Edit → Editing
edit_state s r state e = if_unrefused (edit_answer s r e) nothing_asked state

-- ---- an ask

-- "Asking for one mark or clear gives the plain verdict that the plan would have", of which "21 to 29 is a verdict, no refused
-- ask"; or else the refusal of the edit
unfoldable pub ask_answer : List ℕ → List ℕ → Edit → Answer (Answer Figures)
ask_answer s r e = answer (first_break (edit_checks s r e)) (plain_verdict s (edit_bytes s r e))

-- "A new ask replaces the old one; a refused ask leaves nothing asked", whatever was asked before
unfoldable pub ask_state : List ℕ → List ℕ → Editing → Edit → Editing
ask_state s r state e = if_unrefused (ask_answer s r e) (asking e) nothing_asked

-- ---- a keep

abbrev pub is_asked : Asked → Bool
is_asked None = false
is_asked (Some e) = true

-- 61 "keeping with nothing asked, or with any kept edit since the asking": a kept edit has left nothing asked
unfoldable pub rule61 : Asked → Rule
rule61 asked = record {
  number = 61;
  rows = 1;
  columns = 1;
  Holds = λ _ _. ¬ (asked ≡ None);
  test = λ _ _. is_asked asked;
}

-- 58 to 60 of the edit that is asked
abbrev pub asked_rules : Model → Plan → Asked → List Rule
asked_rules m p None = []
asked_rules m p (Some e) = edit_rules m p e

-- "61, tried between 14 and 58": the rules that a keep tries, in their order
unfoldable pub keep_checks : List ℕ → List ℕ → Asked → List Rule
keep_checks s r asked =
    model_form s ++ (plan_form (model s) r ++ (rule61 asked ∷ asked_rules (model s) (plan r) asked))

-- what it answers, "as a direct one"
unfoldable pub keep_answer : List ℕ → List ℕ → Asked → Answer (Unit {0})
keep_answer s r asked = answer (first_break (keep_checks s r asked)) tt

-- what it leaves in the lent plan: "Keeping applies that one edit"
unfoldable pub keep_bytes : List ℕ → List ℕ → Asked → List ℕ
keep_bytes s r None = r
keep_bytes s r (Some e) = edit_bytes s r e

-- the state after it: an unrefused keep is a kept edit, and "a refused keep changes nothing"
unfoldable pub keep_state : List ℕ → List ℕ → Editing → Editing
keep_state s r state = if_unrefused (keep_answer s r state.asked) nothing_asked state

-- ---- a list of calls over one model

pub data Call : Type 0 where
  ask : Edit → Call
  keep : Call
  direct : Edit → Call

-- "each handed the state and the plan as last left"
pub record Session : Type 0 where
  pub state : Editing
  pub plan : List ℕ

-- how it begins, over a plan's bytes
abbrev pub begun : List ℕ → Session
begun r = record { state = nothing_asked; plan = r }

-- what a call leaves: an ask "changes no byte"
unfoldable pub leaves : List ℕ → Session → Call → Session
leaves s x (ask e) = record { state = ask_state s x.plan x.state e; plan = x.plan }
leaves s x keep = record { state = keep_state s x.plan x.state; plan = keep_bytes s x.plan x.state.asked }
leaves s x (direct e) = record { state = edit_state s x.plan x.state e; plan = edit_bytes s x.plan e }

unfoldable pub left_by : List ℕ → Session → List Call → Session
left_by s x [] = x
left_by s x (c ∷ cs) = left_by s (leaves s x c) cs

-- What is seen of a call from outside: which it was, and what it answered. No state is in it.
pub data Entry : Type 0 where
  asks : Edit → Answer (Answer Figures) → Entry
  keeps : Answer (Unit {0}) → Entry
  edits : Edit → Answer (Unit {0}) → Entry

unfoldable pub entry : List ℕ → Session → Call → Entry
entry s x (ask e) = asks e (ask_answer s x.plan e)
entry s x keep = keeps (keep_answer s x.plan x.state.asked)
entry s x (direct e) = edits e (edit_answer s x.plan e)

unfoldable pub entries : List ℕ → Session → List Call → List Entry
entries s x [] = []
entries s x (c ∷ cs) = entry s x c ∷ entries s (leaves s x c) cs

-- an edit or none, as a list
abbrev pub listed : Option Edit → List Edit
listed none = []
listed (some e) = e ∷ []

-- The kept edits of some entries, in their order: "Unrefused direct edits are kept edits", and an unrefused keep is one of the edit
-- of the latest unrefused ask, with no kept edit and no other ask since. `latest` is that edit before these entries, if there is one.
unfoldable pub kept_after : Option Edit → List Entry → List Edit
kept_after latest [] = []
kept_after latest (asks e said ∷ xs) = kept_after (if_unrefused said (some e) none) xs
kept_after latest (keeps said ∷ xs) = if_unrefused said (listed latest) [] ++ kept_after (if_unrefused said none latest) xs
kept_after latest (edits e said ∷ xs) = if_unrefused said (e ∷ []) [] ++ kept_after (if_unrefused said none latest) xs

abbrev pub kept_edits : List Entry → List Edit
kept_edits xs = kept_after none xs

-- ---- calls that are each lent a model and a plan of their own, with only the state handed on

pub record Lent : Type 0 where
  pub model : List ℕ
  pub plan : List ℕ
  pub call : Call

abbrev pub lent_to : Editing → Lent → Session
lent_to state l = record { state = state; plan = l.plan }

-- the state after them
unfoldable pub state_by : Editing → List Lent → Editing
state_by state [] = state
state_by state (l ∷ ls) = state_by (leaves l.model (lent_to state l) l.call).state ls

-- what is seen of them from outside
unfoldable pub seen_by : Editing → List Lent → List Entry
seen_by state [] = []
seen_by state (l ∷ ls) = entry l.model (lent_to state l) l.call ∷ seen_by (leaves l.model (lent_to state l) l.call).state ls
