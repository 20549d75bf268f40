-- What is asked behind a list of calls, told from outside, and so what a keep answers there.
-- Assumes nothing.
use Prim.Native.Nat.{ℕ}
use native.Mathlib.Omega.{arith}
use mathlib.Core.Bool.{not}
use mathlib.Core.List.{List, [], ◌∷◌, ◌++◌, append-nil, append_assoc}
use mathlib.Core.Logic.{◌⊎◌, inl, inr, ⊎_elim, ◌↔◌}
use mathlib.Core.Option.{Option, some, none}
use mathlib.Core.Path.{◌≡◌, refl, sym, ap, ap₂, subst, ◌∙◌}
use lib.Dec.{T, eqb, T_not}
use Rattle.schedule.specs.Rule.{Refusal}
use Rattle.schedule.specs.Answers.{Answer, accepted, refused, Figures, plain_verdict}
use Rattle.schedule.specs.Streams.{view_refusal}
use Rattle.schedule.specs.Model.{Model, model, model_form}
use Rattle.schedule.specs.Plan.{plan_form}
use Rattle.schedule.specs.Opened.{form_rules}
use Rattle.laws.proofs.FirstBreak.{sound_append, some_iff, ◌&◌}
use Rattle.laws.proofs.RuleNumbers.{AllNumbers, rules_append, first-broken-number}
use Rattle.laws.proofs.Sound.{model_form_sound, plan_form_sound}
use Rattle.laws.proofs.VerdictLaws.{accepted_is_not-refused}
use Rattle.edit_rules.specs.declared.Edit.{Edit}
use Rattle.std.specs.Prelude.{Some, None}
use Rattle.edit_rules.specs.Keeping.{Asked}
use Rattle.edit_rules.specs.declared.Editing.{Editing}
use Rattle.edit_rules.specs.Edits.{edit_answer, if_unrefused, edit_bytes}
use Rattle.edit_rules.specs.Statements.{refused_by}
use Rattle.edit_rules.specs.Keeping.{nothing_asked, edit_state, ask_answer, ask_state, keep_answer, keep_bytes, keep_state}
use Rattle.edit_rules.specs.Keeping.{Call, ask, keep, direct, Session, begun, leaves, left_by}
use Rattle.edit_rules.specs.Keeping.{Entry, asks, keeps, edits, entry, entries, listed, kept_after, kept_edits}
use Rattle.edit_rules.specs.Keeping.{Lent, lent_to, state_by, seen_by}
use Rattle.edit_rules.specs.KeepStatements.{AllOf, Refused, NoAskNothingKept, StillAsked, SomeAsked, KeepAnswered, KeepsAreAnswered, StatesFollow}
use Rattle.edit_rules.proofs.AnswerLaws.{edits_are_tried}
use Rattle.edit_rules.proofs.KeepLaws.{edits_leave, verdict-told, asks_tell, keep_stops, keep_61, keep_unasked, keeps_are_tried}

-- ---- lists with one entry more

never : (before : List Entry) (z : Entry) (since : List Entry) → ¬ ([] ≡ before ++ (z ∷ since))
never [] z since e = let c : ◌≡◌ {A = ℕ} 0 1 = cc in omega arith
never (x ∷ before) z since e = let c : ◌≡◌ {A = ℕ} 0 1 = cc in omega arith

-- the last entry is the one at which a list is split, or it is the last behind it
abbrev Behind : List Entry → Entry → List Entry → Entry → List Entry → Type 0
Behind xs y before z since = (rest : List Entry) × (since ≡ rest ++ (y ∷ [])) × (xs ≡ before ++ (z ∷ rest))

split_last : (xs : List Entry) (y : Entry) (before : List Entry) (z : Entry) (since : List Entry)
    → xs ++ (y ∷ []) ≡ before ++ (z ∷ since) → (y ≡ z) ⊎ Behind xs y before z since
split_last [] y [] z since e = inl cc
split_last [] y (b ∷ before) z since e =
    let rest : [] ≡ before ++ (z ∷ since) = cc in
    absurd (never before z since rest)
split_last (x ∷ xs) y [] z since e =
    let head : x ≡ z = cc in
    let tail : since ≡ xs ++ (y ∷ []) = cc in
    inr (xs, tail, ap {B = List Entry} (λ (w : Entry). w ∷ xs) head)
split_last (x ∷ xs) y (b ∷ before) z since e =
    let head : x ≡ b = cc in
    let tail : xs ++ (y ∷ []) ≡ before ++ (z ∷ since) = cc in
    ⊎_elim inl (λ h. inr (h.0, h.1, ap₂ {C = List Entry} ◌∷◌ head h.2)) (split_last xs y before z since tail)

all_append : (P : Entry → Type 0) (xs ys : List Entry) → AllOf P (xs ++ ys) ↔ (AllOf P xs × AllOf P ys)
all_append P [] ys = (λ h. (tt, h), λ h. h.1)
all_append P (x ∷ xs) ys = (
  λ h. let rest = (all_append P xs ys).0 h.1 in ((h.0, rest.0), rest.1),
  λ h. (h.0.0, (all_append P xs ys).1 (h.0.1, h.1)),
)

-- ---- one entry more, and what is still asked

-- an ask that told a verdict is
newly : (xs : List Entry) (e : Edit) (v : Answer Figures) → StillAsked (xs ++ (asks e (accepted v) ∷ [])) e v
newly xs e v = record { before = xs; since = []; splits = refl; no_other = tt }

-- what was still asked is so behind a refused keep or a refused direct edit
still : (xs : List Entry) (y : Entry) (e : Edit) (v : Answer Figures) → StillAsked xs e v → NoAskNothingKept y
    → StillAsked (xs ++ (y ∷ [])) e v
still xs y e v h quiet = record {
  before = h.before;
  since = h.since ++ (y ∷ []);
  splits =
      ap (λ (zs : List Entry). zs ++ (y ∷ [])) h.splits
      ∙ append_assoc h.before (asks e (accepted v) ∷ h.since) (y ∷ []);
  no_other = (all_append NoAskNothingKept h.since (y ∷ [])).1 (h.no_other, (quiet, tt));
}

-- and nothing else is
last_or_still : (xs : List Entry) (y : Entry) (e : Edit) (v : Answer Figures) → StillAsked (xs ++ (y ∷ [])) e v
    → (y ≡ asks e (accepted v)) ⊎ (NoAskNothingKept y × StillAsked xs e v)
last_or_still xs y e v h =
    ⊎_elim inl
    (λ (b : Behind xs y h.before (asks e (accepted v)) h.since).
    let all = (all_append NoAskNothingKept b.0 (y ∷ [])).0 (subst (AllOf NoAskNothingKept) b.1 h.no_other) in
    inr (all.1.0, record { before = h.before; since = b.0; splits = b.2; no_other = all.0 }))
    (split_last xs y h.before (asks e (accepted v)) h.since h.splits)

-- ---- the state follows

-- behind the entries xs just that is asked which is still asked
record Follows (xs : List Entry) (asked : Asked) : Type 0 where
  standing : (e : Edit) (v : Answer Figures) → StillAsked xs e v → asked ≡ Some e
  asking : (e : Edit) → asked ≡ Some e → (v : Answer Figures) × StillAsked xs e v

-- behind an ask that told a verdict
follows_ask : (xs : List Entry) (asked : Asked) (e : Edit) (v : Answer Figures) → asked ≡ Some e
    → Follows (xs ++ (asks e (accepted v) ∷ [])) asked
follows_ask xs asked e v is = record {
  standing = λ d w h. ⊎_elim
      (λ (same : asks e (accepted v) ≡ asks d (accepted w)). let edit : e ≡ d = cc in is ∙ ap Some edit)
      (λ (b : NoAskNothingKept (asks e (accepted v)) × StillAsked xs d w). absurd b.0)
      (last_or_still xs (asks e (accepted v)) d w h);
  asking = λ d same.
      let edit : e ≡ d = cc in
      (v, subst (λ (c : Edit). StillAsked (xs ++ (asks e (accepted v) ∷ [])) c v) edit (newly xs e v));
}

-- behind an entry that leaves nothing asked: a refused ask, or a kept edit
follows_nothing : (xs : List Entry) (asked : Asked) (y : Entry) → asked ≡ None
    → ((e : Edit) (v : Answer Figures) → ¬ (y ≡ asks e (accepted v))) → (¬ NoAskNothingKept y) → Follows (xs ++ (y ∷ [])) asked
follows_nothing xs asked y is no-ask kept = record {
  standing = λ e v h. absurd (⊎_elim (no-ask e v) (λ b. kept b.0) (last_or_still xs y e v h));
  asking = λ e same. let z : ◌≡◌ {A = ℕ} 0 1 = cc in absurd (omega arith);
}

-- behind a refused keep or a refused direct edit
follows_refused : (xs : List Entry) (asked : Asked) (y : Entry) → Follows xs asked → NoAskNothingKept y
    → ((e : Edit) (v : Answer Figures) → ¬ (y ≡ asks e (accepted v))) → Follows (xs ++ (y ∷ [])) asked
follows_refused xs asked y h nothing-kept no-ask = record {
  standing = λ e v st. ⊎_elim
      (λ (same : y ≡ asks e (accepted v)). absurd (no-ask e v same))
      (λ b. h.standing e v b.1)
      (last_or_still xs y e v st);
  asking = λ e is. let was = h.asking e is in (was.0, still xs y e was.0 was.1 nothing-kept);
}

-- what is seen of a keep or of a direct edit is no ask
keep_is_no_ask : (said : Answer (Unit {0})) (e : Edit) (v : Answer Figures) → ¬ (keeps said ≡ asks e (accepted v))
keep_is_no_ask said e v same = let z : ◌≡◌ {A = ℕ} 0 1 = cc in omega arith

edit_is_no_ask : (d : Edit) (said : Answer (Unit {0})) (e : Edit) (v : Answer Figures) → ¬ (edits d said ≡ asks e (accepted v))
edit_is_no_ask d said e v same = let z : ◌≡◌ {A = ℕ} 0 1 = cc in omega arith

-- nor is a refused ask one that told a verdict
refused_is_no_ask : (d : Edit) (x : Refusal) (e : Edit) (v : Answer Figures) → ¬ (asks d (refused x) ≡ asks e (accepted v))
refused_is_no_ask d x e v same = let z : ◌≡◌ {A = ℕ} 0 1 = cc in omega arith

-- what is done is not refused
done_is_no_refusal : ¬ Refused (accepted tt)
done_is_no_refusal h = accepted_is_not-refused tt h.0 h.1

-- one call more, whatever it is lent
module _ (s : List ℕ) (xs : List Entry) (x : Session) (h : Follows xs x.state.asked) where
  follows_asks : (e : Edit) (said : Answer (Answer Figures)) → ask_answer s x.plan e ≡ said
      → Follows (xs ++ (asks e said ∷ [])) (ask_state s x.plan x.state e).asked
  follows_asks e (accepted v) told = follows_ask xs _ e v ((asks_tell s x.plan x.state e).asked v told)
  follows_asks e (refused y) said =
      follows_nothing xs _ (asks e (refused y)) ((asks_tell s x.plan x.state e).erased y said) (refused_is_no_ask e y) (λ b. b)

  follows_keeps : (said : Answer (Unit {0})) → keep_answer s x.plan x.state.asked ≡ said
      → Follows (xs ++ (keeps said ∷ [])) (keep_state s x.plan x.state).asked
  follows_keeps (accepted _) done =
      follows_nothing xs _ (keeps (accepted tt)) ((keeps_are_tried s x.plan x.state).erased done) (keep_is_no_ask (accepted tt))
      done_is_no_refusal
  follows_keeps (refused y) said =
      follows_refused xs _ (keeps (refused y))
      (subst (λ (state : Editing). Follows xs state.asked) (sym ((keeps_are_tried s x.plan x.state).nothing_changed y said).1) h)
      (y, refl) (keep_is_no_ask (refused y))

  follows_edits : (e : Edit) (said : Answer (Unit {0})) → edit_answer s x.plan e ≡ said
      → Follows (xs ++ (edits e said ∷ [])) (edit_state s x.plan x.state e).asked
  follows_edits e (accepted _) done =
      follows_nothing xs _ (edits e (accepted tt)) ((edits_leave s x.plan x.state e).erased done) (edit_is_no_ask e (accepted tt))
      done_is_no_refusal
  follows_edits e (refused y) said =
      follows_refused xs _ (edits e (refused y))
      (subst (λ (state : Editing). Follows xs state.asked) (sym ((edits_leave s x.plan x.state e).nothing_changed y said)) h)
      (y, refl) (edit_is_no_ask e (refused y))

  follows_call : (c : Call) → Follows (xs ++ (entry s x c ∷ [])) (leaves s x c).state.asked
  unfolding entry leaves
  follows_call (ask e) = follows_asks e (ask_answer s x.plan e) refl
  follows_call keep = follows_keeps (keep_answer s x.plan x.state.asked) refl
  follows_call (direct e) = follows_edits e (edit_answer s x.plan e) refl

at_the_beginning : Follows [] None
at_the_beginning = record {
  standing = λ e v h. absurd (never h.before _ h.since h.splits);
  asking = λ e same. let z : ◌≡◌ {A = ℕ} 0 1 = cc in absurd (omega arith);
}

-- one more, and then the rest
next_one : (xs : List Entry) (y : Entry) (ys : List Entry) (asked : Asked) → Follows ((xs ++ (y ∷ [])) ++ ys) asked
    → Follows (xs ++ (y ∷ ys)) asked
next_one xs y ys asked h = subst (λ (zs : List Entry). Follows zs asked) (append_assoc xs (y ∷ []) ys) h

-- ---- every list, whatever is lent

follows_lent : (xs : List Entry) (state : Editing) (calls : List Lent) → Follows xs state.asked
    → Follows (xs ++ seen_by state calls) (state_by state calls).asked
unfolding seen_by state_by
follows_lent xs state [] h = subst (λ (ys : List Entry). Follows ys state.asked) (sym (append-nil xs)) h
follows_lent xs state (l ∷ calls) h =
    next_one xs _ _ _ (follows_lent (xs ++ (entry l.model (lent_to state l) l.call ∷ [])) _ calls
    (follows_call l.model xs (lent_to state l) h l.call))

pub states_follow : StatesFollow
states_follow calls e =
    let h = follows_lent [] nothing_asked calls at_the_beginning in
    (h.asking e, λ st. h.standing e st.0 st.1)

-- ---- every list over one model

follows_all : (s : List ℕ) (xs : List Entry) (x : Session) (calls : List Call) → Follows xs x.state.asked
    → Follows (xs ++ entries s x calls) (left_by s x calls).state.asked
unfolding entries left_by
follows_all s xs x [] h = subst (λ (ys : List Entry). Follows ys x.state.asked) (sym (append-nil xs)) h
follows_all s xs x (c ∷ calls) h =
    next_one xs _ _ _ (follows_all s (xs ++ (entry s x c ∷ [])) (leaves s x c) calls (follows_call s xs x h c))

-- an ask for what is still asked would be told the same once more
abbrev Tells : List ℕ → List Entry → List ℕ → Type 0
Tells s xs r = (e : Edit) (v : Answer Figures) → StillAsked xs e v → ask_answer s r e ≡ accepted v

tells_call : (s : List ℕ) (xs : List Entry) (x : Session) (c : Call) → Tells s xs x.plan
    → Tells s (xs ++ (entry s x c ∷ [])) (leaves s x c).plan
unfolding entry leaves
tells_call s xs x (ask d) h e v st = ⊎_elim
    (λ (same : asks d (ask_answer s x.plan d) ≡ asks e (accepted v)).
    let edit : d ≡ e = cc in
    let told : ask_answer s x.plan d ≡ accepted v = cc in
    subst (λ (c : Edit). ask_answer s x.plan c ≡ accepted v) edit told)
    (λ b. absurd b.0)
    (last_or_still xs _ e v st)
tells_call s xs x keep h e v st = ⊎_elim
    (λ (same : keeps _ ≡ asks e (accepted v)). absurd (keep_is_no_ask _ e v same))
    (λ b. subst (λ (r : List ℕ). ask_answer s r e ≡ accepted v)
    (sym ((keeps_are_tried s x.plan x.state).nothing_changed b.0.0 b.0.1).0) (h e v b.1))
    (last_or_still xs _ e v st)
tells_call s xs x (direct d) h e v st = ⊎_elim
    (λ (same : edits d _ ≡ asks e (accepted v)). absurd (edit_is_no_ask d _ e v same))
    (λ b. subst (λ (r : List ℕ). ask_answer s r e ≡ accepted v)
    (sym ((edits_are_tried s x.plan d).nothing_changed b.0.0 b.0.1)) (h e v b.1))
    (last_or_still xs _ e v st)

tells_all : (s : List ℕ) (xs : List Entry) (x : Session) (calls : List Call) → Tells s xs x.plan
    → Tells s (xs ++ entries s x calls) (left_by s x calls).plan
unfolding entries left_by
tells_all s xs x [] h = subst (λ (ys : List Entry). Tells s ys x.plan) (sym (append-nil xs)) h
tells_all s xs x (c ∷ calls) h =
    subst (λ (ys : List Entry). Tells s ys (left_by s (leaves s x c) calls).plan) (append_assoc xs (entry s x c ∷ []) _)
    (tells_all s (xs ++ (entry s x c ∷ [])) (leaves s x c) calls (tells_call s xs x c h))

-- ---- the kept edits with one keep more

-- the edits up to an ask, and those behind it
kept-split : (latest : Option Edit) (before : List Entry) (e : Edit) (v : Answer Figures) (since : List Entry)
    → kept_after latest (before ++ (asks e (accepted v) ∷ since)) ≡ kept_after latest before ++ kept_after (some e) since
unfolding kept_after
kept-split latest [] e v since = refl
kept-split latest (asks d x ∷ before) e v since = kept-split (if_unrefused x (some d) none) before e v since
kept-split latest (keeps x ∷ before) e v since =
    ap (λ (rest : List Edit). if_unrefused x (listed latest) [] ++ rest) (kept-split (if_unrefused x none latest) before e v since)
    ∙ sym (append_assoc (if_unrefused x (listed latest) []) (kept_after (if_unrefused x none latest) before) (kept_after (some e) since))
kept-split latest (edits d x ∷ before) e v since =
    ap (λ (rest : List Edit). if_unrefused x (d ∷ []) [] ++ rest) (kept-split (if_unrefused x none latest) before e v since)
    ∙ sym (append_assoc (if_unrefused x (d ∷ []) []) (kept_after (if_unrefused x none latest) before) (kept_after (some e) since))

-- where there was neither an ask nor a kept edit, the rest decides
kept-since : (latest : Option Edit) (since rest : List Entry) → AllOf NoAskNothingKept since
    → kept_after latest (since ++ rest) ≡ kept_after latest rest
unfolding kept_after
kept-since latest [] rest h = refl
kept-since latest (asks d x ∷ since) rest h = absurd h.0
kept-since latest (keeps x ∷ since) rest h =
    ap (λ (o : Answer (Unit {0})). if_unrefused o (listed latest) [] ++ kept_after (if_unrefused o none latest) (since ++ rest)) h.0.1
    ∙ kept-since latest since rest h.1
kept-since latest (edits d x ∷ since) rest h =
    ap (λ (o : Answer (Unit {0})). if_unrefused o (d ∷ []) [] ++ kept_after (if_unrefused o none latest) (since ++ rest)) h.0.1
    ∙ kept-since latest since rest h.1

kept_next : (xs : List Entry) (e : Edit) (v : Answer Figures) → StillAsked xs e v
    → kept_edits (xs ++ (keeps (accepted tt) ∷ [])) ≡ kept_edits xs ++ (e ∷ [])
unfolding kept_after
kept_next xs e v h = with_one ∙ sym without
  where
    with_one : kept_edits (xs ++ (keeps (accepted tt) ∷ [])) ≡ kept_edits h.before ++ (e ∷ [])
    with_one =
        ap (λ (zs : List Entry). kept_edits (zs ++ (keeps (accepted tt) ∷ []))) h.splits
        ∙ ap kept_edits (append_assoc h.before (asks e (accepted v) ∷ h.since) (keeps (accepted tt) ∷ []))
        ∙ kept-split none h.before e v (h.since ++ (keeps (accepted tt) ∷ []))
        ∙ ap (λ (es : List Edit). kept_edits h.before ++ es) (kept-since (some e) h.since (keeps (accepted tt) ∷ []) h.no_other)

    without : kept_edits xs ++ (e ∷ []) ≡ kept_edits h.before ++ (e ∷ [])
    without =
        ap (λ (es : List Edit). es ++ (e ∷ []))
        (ap kept_edits h.splits
        ∙ kept-split none h.before e v h.since
        ∙ ap (λ (es : List Edit). kept_edits h.before ++ es)
        (ap (kept_after (some e)) (sym (append-nil h.since)) ∙ kept-since (some e) h.since [] h.no_other)
        ∙ append-nil (kept_edits h.before))

-- ---- what a keep answers

-- the form of the records is never refused by 61
abbrev Not61 : ℕ → Type 0
Not61 k = T (not (eqb k 61))

model-not_61 : (s : List ℕ) → AllNumbers Not61 (model_form s)
unfolding model_form form_rules
model-not_61 s = tt & tt & tt & tt & tt & tt & tt & tt & tt & tt & tt & tt

plan-not_61 : (m : Model) (r : List ℕ) → AllNumbers Not61 (plan_form m r)
unfolding plan_form form_rules
plan-not_61 m r = tt & tt & tt & tt & tt & tt & tt

records_not_61 : (s r : List ℕ) (y : Refusal) → view_refusal s r ≡ some y → ¬ (y.number ≡ 61)
unfolding view_refusal
records_not_61 s r y first is =
    let rules = model_form s ++ plan_form (model s) r in
    let sound = (sound_append (model_form s) (plan_form (model s) r)).1 (model_form_sound s, plan_form_sound (model s) r) in
    let number = first-broken-number Not61 rules y
    (rules_append _ (model_form s) (plan_form (model s) r) (model-not_61 s) (plan-not_61 (model s) r)) ((some_iff rules y sound).0 first) in
    T_not (eqb y.number 61) number (subst (λ (k : ℕ). T (eqb k 61)) (sym is) tt)

module _ (s : List ℕ) (xs : List Entry) (x : Session) (h : Follows xs x.state.asked) (tells : Tells s xs x.plan) where
  abbrev said : Answer (Unit {0})
  said = keep_answer s x.plan x.state.asked

  -- with an edit still asked
  module _ (e : Edit) (v : Answer Figures) (st : StillAsked xs e v) where
    is : x.state.asked ≡ Some e
    is = h.standing e v st

    done : said ≡ accepted tt
    done =
        ((keeps_are_tried s x.plan x.state).as_direct e is).0
        ∙ ((verdict-told s x.plan e v).0 (tells e v st)).0

    that_edit : keep_bytes s x.plan x.state.asked ≡ edit_bytes s x.plan e
    that_edit = ((keeps_are_tried s x.plan x.state).as_direct e is).1

    that_verdict : plain_verdict s (keep_bytes s x.plan x.state.asked) ≡ v
    that_verdict = ap (plain_verdict s) that_edit ∙ ((verdict-told s x.plan e v).0 (tells e v st)).1

  -- something is asked, or nothing
  either : (asked : Asked) → x.state.asked ≡ asked → SomeAsked xs ⊎ (x.state.asked ≡ None)
  either None same = inr same
  either (Some e) same = inl (e, (h.asking e same).0, (h.asking e same).1)

  asked_or_not : SomeAsked xs ⊎ (x.state.asked ≡ None)
  asked_or_not = either x.state.asked refl

  done_where : (said ≡ accepted tt) ↔ SomeAsked xs
  done_where = (
    λ a. ⊎_elim (λ (b : SomeAsked xs). b) (λ nothing. absurd (keep_unasked s x.plan (sym (ap (keep_answer s x.plan) nothing) ∙ a))) asked_or_not,
    λ b. done b.0 b.1 b.2,
  )

  -- 61: the records pass, and nothing is still asked
  passes : said ≡ refused_by 61 → view_refusal s x.plan ≡ none
  passes is-61 = by (view_refusal s x.plan) refl
    where
      by : (o : Option Refusal) → view_refusal s x.plan ≡ o → view_refusal s x.plan ≡ none
      by none pass = pass
      by (some y) first =
          let first_said = keep_stops s x.plan x.state.asked y first in
          let same : y ≡ record { number = 61; A = 0; B = 0 } = cc in
          absurd (records_not_61 s x.plan y first (ap (λ (z : Refusal). z.number) same))

  where_nothing_asked : (said ≡ refused_by 61) ↔ ((view_refusal s x.plan ≡ none) × (¬ SomeAsked xs))
  where_nothing_asked = (
    λ is-61. (passes is-61, λ b. accepted_is_not-refused tt _ (sym (done_where.1 b) ∙ is-61)),
    λ b. ⊎_elim
        (λ (some-asked : SomeAsked xs). absurd (b.1 some-asked))
        (λ nothing. ap (keep_answer s x.plan) nothing ∙ keep_61 s x.plan b.0)
        asked_or_not,
  )

  keep_answered : KeepAnswered s xs x
  keep_answered = record {
    done_where = done_where;
    where_nothing_asked = where_nothing_asked;
    that_edit = λ e v st. (that_edit e v st, kept_next xs e v st);
    that_verdict = that_verdict;
  }

pub keeps_are_answered : KeepsAreAnswered
keeps_are_answered s r calls =
    keep_answered s (entries s (begun r) calls) (left_by s (begun r) calls)
    (follows_all s [] (begun r) calls at_the_beginning)
    (tells_all s [] (begun r) calls (λ e v h. absurd (never h.before _ h.since h.splits)))
