-- Every list of asks, keeps and direct edits leaves the plan of its kept edits alone, and direct edits with any state are those of U8.
-- Assumes nothing.
use Prim.Native.Nat.{ℕ}
use mathlib.Core.List.{List, [], ◌∷◌, ◌++◌, map}
use mathlib.Core.Option.{Option, some, none}
use mathlib.Core.Path.{◌≡◌, refl, sym, ap, subst, ◌∙◌}
use Rattle.schedule.specs.Fields.{Bytes}
use Rattle.schedule.specs.Answers.{Answer, accepted, refused, Figures}
use Rattle.edit_rules.specs.declared.Edit.{Edit}
use Rattle.std.specs.Prelude.{Some, None}
use Rattle.edit_rules.specs.Keeping.{Asked}
use Rattle.edit_rules.specs.Edits.{edit_answer, if_unrefused, edit_bytes, edited_by, answers_to, unrefused_by}
use Rattle.edit_rules.specs.Statements.{AfterEdits, Alone}
use Rattle.edit_rules.specs.Keeping.{nothing_asked, asking, edit_state, ask_answer, ask_state, keep_answer, keep_bytes, keep_state}
use Rattle.edit_rules.specs.Keeping.{Call, ask, keep, direct, Session, leaves, left_by}
use Rattle.edit_rules.specs.Keeping.{entry, entries, listed, kept_after}
use Rattle.edit_rules.specs.KeepStatements.{KeptAlone, DirectEdits}
use Rattle.edit_rules.proofs.ListLaws.{every_list, alone}
use Rattle.edit_rules.proofs.KeepLaws.{keep_unasked, keep-direct}

-- a session by its two parts: what is asked, and the plan's bytes
abbrev pub at : Asked → List ℕ → Session
at asked r = record { state = record { asked = asked }; plan = r }

-- ---- the kept edits alone

-- what is asked is the edit of the latest ask
abbrev Latest : Asked → Option Edit → Type 0
Latest None latest = Unit {0}
Latest (Some e) latest = latest ≡ some e

-- so it is behind an ask, unrefused or refused
ask_latest : (e : Edit) (said : Answer (Answer Figures))
    → Latest (if_unrefused said (asking e) nothing_asked).asked (if_unrefused said (some e) none)
ask_latest e (accepted v) = refl
ask_latest e (refused x) = tt

-- and behind an edit, direct or kept
edit_latest : (asked : Asked) (latest : Option Edit) (said : Answer (Unit {0})) → Latest asked latest
    → Latest (if_unrefused said nothing_asked (record { asked = asked })).asked (if_unrefused said none latest)
edit_latest asked latest (accepted _) h = tt
edit_latest asked latest (refused x) h = h

-- the edit of an entry in front of the others, or only the others
in_front : (said : Answer (Unit {0})) (e : Edit) (made : List Edit)
    → if_unrefused said (e ∷ made) made ≡ if_unrefused said (e ∷ []) [] ++ made
in_front (accepted _) e made = refl
in_front (refused x) e made = refl

-- one edit, direct or kept, with what was said of it, before some others
edit_first : (s r : List ℕ) (e : Edit) (made : List Edit) (after : List ℕ) → Alone s (edit_bytes s r e) made after
    → Alone s r (if_unrefused (edit_answer s r e) (e ∷ []) [] ++ made) after
edit_first s r e made after h =
    subst (λ (es : List Edit). Alone s r es after) (in_front (edit_answer s r e) e made) (alone s r e (edit_answer s r e) refl made after h)

-- what is to be shown of some calls from a session on
abbrev KeptFrom : List ℕ → Option Edit → List Call → Asked → List ℕ → List Edit → List ℕ → Type 0
KeptFrom s latest calls asked r made before =
    Alone s before (made ++ kept_after latest (entries s (at asked r) calls)) (left_by s (at asked r) calls).plan

-- behind a keep, by what it is said to be
abbrev Behind : List ℕ → List ℕ → Option Edit → List Call → Asked → Answer (Unit {0}) → Type 0
Behind s before latest calls asked said =
    KeptFrom s (if_unrefused said none latest) calls (if_unrefused said nothing_asked (record { asked = asked })).asked
    (keep_bytes s before asked) (if_unrefused said (listed latest) []) before

-- a keep with nothing asked is refused
unasked : (s r : List ℕ) (latest : Option Edit) (calls : List Call) (said : Answer (Unit {0})) → keep_answer s r None ≡ said
    → KeptFrom s latest calls None r [] r → Behind s r latest calls None said
unfolding keep_bytes
unasked s r latest calls (accepted _) done h = absurd (keep_unasked s r done)
unasked s r latest calls (refused x) said h = h

kept_from : (s r : List ℕ) (asked : Asked) (latest : Option Edit) (calls : List Call) → Latest asked latest
    → KeptFrom s latest calls asked r [] r
unfolding entries entry left_by leaves kept_after ask_state edit_state keep_state keep_bytes edited_by answers_to
kept_from s r asked latest [] h = record { all_done = refl; same_bytes = refl }
kept_from s r asked latest (ask e ∷ calls) h =
    let said = ask_answer s r e in
    kept_from s r (if_unrefused said (asking e) nothing_asked).asked (if_unrefused said (some e) none) calls (ask_latest e said)
kept_from s r asked latest (direct e ∷ calls) h =
    let said = edit_answer s r e in
    edit_first s r e _ _ (kept_from s (edit_bytes s r e) _ (if_unrefused said none latest) calls (edit_latest asked latest said h))
kept_from s r None latest (keep ∷ calls) h =
    unasked s r latest calls (keep_answer s r None) refl (kept_from s r None latest calls tt)
kept_from s r (Some e) latest (keep ∷ calls) h =
    let said = edit_answer s r e in
    let as_direct : Behind s r (some e) calls (Some e) said =
    edit_first s r e _ _
    (kept_from s (edit_bytes s r e) _ (if_unrefused said none (some e)) calls (edit_latest (Some e) (some e) said refl)) in
    subst (Behind s r latest calls (Some e)) (sym (keep-direct s r e))
    (subst (λ (o : Option Edit). Behind s r o calls (Some e) said) (sym h) as_direct)

-- edits that are all done are all unrefused
all-unrefused : (es : List Edit) → unrefused_by (map (λ _. accepted tt) es) es ≡ es
unfolding unrefused_by
all-unrefused [] = refl
all-unrefused (e ∷ es) = ap {B = List Edit} (λ (rest : List Edit). e ∷ rest) (all-unrefused es)

-- so what U8 says of the unrefused calls of a list holds of edits that are unrefused by themselves
meaning : (s r after : List ℕ) (made : List Edit) → Alone s r made after → Bytes r → AfterEdits s r after made
meaning s r after made h b =
    subst (λ (x : List ℕ). AfterEdits s r x made) h.same_bytes
    (subst (AfterEdits s r (edited_by s r made)) (ap (λ said. unrefused_by said made) h.all_done ∙ all-unrefused made)
    (every_list s r made b))

pub kept-alone : KeptAlone
kept-alone s r calls =
    let h = kept_from s r None none calls tt in
    record { alone = h; meaning = meaning s r _ _ h }

-- ---- direct edits with any state

pub direct-edits : DirectEdits
unfolding entries entry left_by leaves edited_by answers_to
direct-edits s x [] = record { answers = refl; plan_after = refl }
direct-edits s x (e ∷ es) =
    let h = direct-edits s (leaves s x (direct e)) es in
    record { answers = ap {B = List (Answer (Unit {0}))} (λ rest. edit_answer s x.plan e ∷ rest) h.answers; plan_after = h.plan_after }
