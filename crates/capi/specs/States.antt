-- The editing state of the exports: what it says is asked, how a state with something else asked is written, and that a state which
-- is handed on says what the calls of an editor have made of it.
-- Assumes nothing.
use Rattle.std.specs.Prelude.{ℕ, Bool, cond, List, ◌≡◌, eqb}
use Rattle.schedule.specs.Answers.{Answer}
use Rattle.edit_rules.specs.declared.Edit.{Edit}
use Rattle.std.specs.Prelude.{Some, None}
use Rattle.edit_rules.specs.Keeping.{Asked}
use Rattle.edit_rules.specs.declared.Editing.{Editing}
use Rattle.edit_rules.specs.Edits.{marking, clearing, edit_answer, if_unrefused}
use Rattle.edit_rules.specs.Keeping.{nothing_asked, asking, edit_state, ask_state, keep_answer, keep_state}
use Rattle.capi.specs.declared.GridEditing.{GridEditing}

-- a mark where the flag is set, and a clear where it is not
abbrev pub edit_of : Bool → ℕ → ℕ → Edit
edit_of mark a t = record { on = mark; activity = a; tick = t }

-- what is asked: 1 for a mark, 2 for a clear, and any other number for nothing
abbrev pub editing_of : GridEditing → Editing
editing_of g =
    cond (eqb g.asked 1) (asking (marking g.activity g.tick))
    (cond (eqb g.asked 2) (asking (clearing g.activity g.tick)) nothing_asked)

-- a state with something else asked, nothing being written as 0, 0, 0; the total and the counts are handed on
abbrev pub with_asked : GridEditing → Asked → GridEditing
with_asked g None = record { asked = 0; activity = 0; tick = 0; total = g.total; counts = g.counts }
with_asked g (Some e) = record {
  asked = cond e.on 1 2;
  activity = e.activity;
  tick = e.tick;
  total = g.total;
  counts = g.counts;
}

-- the state after a mark, a clear or a keep: nothing is asked, or, where the call is refused, it is the one that was given
abbrev pub edited_state : Answer (Unit {0}) → GridEditing → GridEditing
edited_state said g = if_unrefused said (with_asked g None) g

-- What an export hands back is read by the next as the state that the call has left: so what is said of every list of calls with the
-- state handed on is said of the exports. All zeros is the state with which an editor begins.
pub record HandedOn : Type 0 where
  pub zeros : (g : GridEditing) → g.asked ≡ 0 → editing_of g ≡ nothing_asked
  pub asks : (s r : List ℕ) (g : GridEditing) (e : Edit)
      → editing_of (with_asked g (ask_state s r (editing_of g) e).asked) ≡ ask_state s r (editing_of g) e
  pub edits : (s r : List ℕ) (g : GridEditing) (e : Edit)
      → editing_of (edited_state (edit_answer s r e) g) ≡ edit_state s r (editing_of g) e
  pub keeps : (s r : List ℕ) (g : GridEditing)
      → editing_of (edited_state (keep_answer s r (editing_of g).asked) g) ≡ keep_state s r (editing_of g)
