-- The editing state of the exports, read, written and handed on.
-- Assumes nothing.
use Prim.Native.Nat.{ℕ}
use mathlib.Core.Bool.{Bool, true, false}
use mathlib.Core.Path.{◌≡◌, refl}
use Rattle.schedule.specs.Answers.{Answer, accepted, refused}
use Rattle.std.specs.Prelude.{Some, None}
use Rattle.edit_rules.specs.Keeping.{Asked}
use Rattle.edit_rules.specs.Edits.{edit_answer, if_unrefused}
use Rattle.edit_rules.specs.Keeping.{nothing_asked, asking, edit_state, ask_state, keep_answer, keep_state}
use Rattle.capi.specs.declared.GridEditing.{GridEditing}
use Rattle.capi.specs.States.{edit_of, editing_of, with_asked, edited_state, HandedOn}

-- ---- a state that is handed on

-- what is written is read again, of either kind of edit and of none
edit_back : (g : GridEditing) (on : Bool) (a t : ℕ) → editing_of (with_asked g (Some (edit_of on a t))) ≡ asking (edit_of on a t)
edit_back g true a t = refl
edit_back g false a t = refl

read_back : (g : GridEditing) (asked : Asked) → editing_of (with_asked g asked) ≡ record { asked = asked }
read_back g None = refl
read_back g (Some e) = edit_back g e.on e.activity e.tick

-- and a call that is refused hands back what was given
edited_on : (said : Answer (Unit {0})) (g : GridEditing) → editing_of (edited_state said g) ≡ if_unrefused said nothing_asked (editing_of g)
edited_on (accepted _) g = read_back g None
edited_on (refused x) g = refl

pub handed_on : HandedOn
unfolding edit_state keep_state
handed_on = record {
  zeros = λ g none. rw none;
  asks = λ s r g e. read_back g (ask_state s r (editing_of g) e).asked;
  edits = λ s r g e. edited_on (edit_answer s r e) g;
  keeps = λ s r g. edited_on (keep_answer s r (editing_of g).asked) g;
}
