-- Every list of calls: what one unrefused edit leaves, and what the edits behind it leave of that.
-- Assumes nothing.
use Prim.Native.Nat.{ℕ, ◌+◌, ◌≤◌, ◌<◌}
use native.Mathlib.Decide.{dec_lt, ℕ_discrete}
use native.Mathlib.Omega.{arith}
use mathlib.Core.List.{List, [], ◌∷◌, ◌++◌}
use mathlib.Core.Logic.{◌⊎◌, inl, inr, ⊎_elim}
use mathlib.Core.Path.{◌≡◌, refl, sym, ap, ap₂, subst, ◌∙◌}
use lib.Dec.{T}
use lib.ListN.{length, take, drop, get_or, length-take, length-drop}
use lib.Seq.{ext_get_or, get_or-take, get_or-drop}
use Rattle.schedule.specs.Fields.{field, Bytes}
use Rattle.schedule.specs.Plan.{plan, active, plan_thread_row, plan_activity_row}
use Rattle.schedule.specs.Answers.{Answer, accepted, refused}
use Rattle.laws.proofs.FieldLaws.{field-take, field-drop}
use Rattle.edit_rules.specs.declared.Edit.{Edit}
use Rattle.edit_rules.specs.Edits.{edit_answer, edit_bytes, edited_by, answers_to, unrefused_by, if_unrefused, edited_plan}
use Rattle.edit_rules.specs.Statements.{Marked, RowCounted, Elsewhere, EditMade, SomeOf, NoneOf, Of, On, row_bytes}
use Rattle.edit_rules.specs.Statements.{AfterEdits, EveryList, Alone, UnrefusedAlone}
use Rattle.edit_rules.proofs.AnswerLaws.{edits_are_tried}
use Rattle.edit_rules.proofs.OneEdit.{in_plan, after-bytes, back, edit_made}

-- ---- parts of lists

take_same : (k : ℕ) (x y : List ℕ) → length x ≡ length y → ((i : ℕ) → i < k → get_or x i 0 ≡ get_or y i 0) → take k x ≡ take k y
take_same k x y e same =
    ext_get_or 0 (take k x) (take k y) (simp (length-take, e)) (λ i l.
    let below : i < k = omega (arith, l, length-take k x) in
    get_or-take k x i 0 below ∙ same i below ∙ sym (get_or-take k y i 0 below))

part_same : (at k : ℕ) (x y : List ℕ) → length x ≡ length y
    → ((i : ℕ) → at ≤ i → i < at + k → get_or x i 0 ≡ get_or y i 0) → take k (drop at x) ≡ take k (drop at y)
part_same at k x y e same =
    take_same k (drop at x) (drop at y) (simp (length-drop, e)) (λ i l.
    get_or-drop at x i 0 ∙ same (at + i) (omega arith) (omega arith) ∙ sym (get_or-drop at y i 0))

-- ---- some and none of a list

-- some edit of a list is of an activity, or none is
of_some : (a : ℕ) (es : List Edit) → SomeOf (Of a) es ⊎ NoneOf (Of a) es
of_some a [] = inr tt
of_some a (e ∷ es) =
    elim (ℕ_discrete e.activity a) [
      | yes is ↦ inl (inl is)
      | no isn't ↦ ⊎_elim (λ x. inl (inr x)) (λ x. inr (isn't, x)) (of_some a es)
    ]

-- where none is of an activity, none is on a bit of it
none_on : (t a : ℕ) (es : List Edit) → NoneOf (Of a) es → NoneOf (On t a) es
none_on t a [] h = tt
none_on t a (e ∷ es) h = (λ on. h.0 on.1, none_on t a es h.1)

-- ---- no edit

nothing : (s r : List ℕ) → AfterEdits s r r []
nothing s r = record {
  well_formed = λ h. h;
  last_on = λ earlier e later split. absurd (never earlier e later split);
  old_bit = λ t a none. refl;
  size = refl;
  front = refl;
  other_rows = λ a l none. refl;
  rows = λ a h. absurd h;
}
  where
    never : (earlier : List Edit) (e : Edit) (later : List Edit) → ¬ ([] ≡ earlier ++ (e ∷ later))
    never [] e later split = let z : ◌≡◌ {A = ℕ} 0 1 = cc in omega arith
    never (x ∷ earlier) e later split = let z : ◌≡◌ {A = ℕ} 0 1 = cc in omega arith

-- ---- the counts and rows that bytes with the same front have

module _ (s r after : List ℕ) (made : List Edit) (h : AfterEdits s r after made) where
  -- a field of the header
  header : (at k : ℕ) → at + k ≤ 9 → field after at k ≡ field r at k
  header at k l =
      sym (field-take (plan_thread_row (plan r).threads) after at k (omega arith))
      ∙ ap (λ (x : List ℕ). field x at k) h.front
      ∙ field-take (plan_thread_row (plan r).threads) r at k (omega arith)

  same-threads : (plan after).threads ≡ (plan r).threads
  unfolding plan
  same-threads = header 5 1 (omega arith)

  same-horizon : (plan after).horizon ≡ (plan r).horizon
  unfolding plan
  same-horizon = header 7 2 (omega arith)

  -- a field of a row that is the old one
  in_row : (a : ℕ) → a < (plan r).activities → NoneOf (Of a) made → (i at : ℕ) → i + 2 ≤ 4
      → at ≡ plan_activity_row (plan r).threads a + i → field after at 2 ≡ field r at 2
  in_row a l none i at k e =
      sym (part after) ∙ ap (λ (x : List ℕ). field x i 2) (h.other_rows a l none) ∙ part r
    where
      part : (x : List ℕ) → field (row_bytes (plan r).threads a x) i 2 ≡ field x at 2
      part x =
          field-take 4 (drop (plan_activity_row (plan r).threads a) x) i 2 k
          ∙ field-drop (plan_activity_row (plan r).threads a) x i 2
          ∙ ap (λ (j : ℕ). field x j 2) (sym e)

  same_start : (a : ℕ) → a < (plan r).activities → NoneOf (Of a) made → (plan after).start a ≡ (plan r).start a
  unfolding plan
  same_start a l none =
      ap (λ (n : ℕ). field after (plan_activity_row n a) 2) same-threads
      ∙ in_row a l none 0 (plan_activity_row (plan r).threads a) (omega arith) (omega arith)

  same_end : (a : ℕ) → a < (plan r).activities → NoneOf (Of a) made → (plan after).end a ≡ (plan r).end a
  unfolding plan
  same_end a l none =
      ap (λ (n : ℕ). field after (plan_activity_row n a + 2) 2) same-threads
      ∙ in_row a l none 2 (plan_activity_row (plan r).threads a + 2) (omega arith) refl

  -- so a row that was counted is so still, where no edit is of its activity
  still_counted : (a : ℕ) → a < (plan r).activities → NoneOf (Of a) made → RowCounted (plan r) a → RowCounted (plan after) a
  still_counted a l none was = record {
    from_first = λ t is. same_start a l none ∙ was.from_first t (old t is.0, λ u k m. is.1 u k (new u m));
    to_last = λ t is. same_end a l none ∙ was.to_last t (old t is.0, λ u k m. is.1 u k (new u m));
    none_marked = λ never.
        let zeros = was.none_marked (λ t m. never t (new t m)) in
        (same_start a l none ∙ zeros.0, same_end a l none ∙ zeros.1);
  }
    where
      bit-same : (t : ℕ) → active (plan after) t a ≡ active (plan r) t a
      bit-same t = h.old_bit t a (none_on t a made none)

      old : (t : ℕ) → Marked (plan after) a t → Marked (plan r) a t
      old t m = (omega (arith, same-horizon, m.0), subst T (bit-same t) m.1)

      new : (t : ℕ) → Marked (plan r) a t → Marked (plan after) a t
      new t m = (omega (arith, same-horizon, m.0), subst T (sym (bit-same t)) m.1)

-- ---- one edit, and others behind it

module _ (s r : List ℕ) (e : Edit) (b : Bytes r) (done : edit_answer s r e ≡ accepted tt) (after : List ℕ) (made : List Edit)
    (h : AfterEdits s (edit_bytes s r e) after made) where
  first : EditMade s r e
  first = edit_made s r e b done

  threads : (plan (edit_bytes s r e)).threads ≡ (plan r).threads
  unfolding edited_plan
  threads = (back s r e b done).threads

  activities : (plan (edit_bytes s r e)).activities ≡ (plan r).activities
  unfolding edited_plan
  activities = (back s r e b done).activities

  last : (earlier : List Edit) (x : Edit) (later : List Edit) → e ∷ made ≡ earlier ++ (x ∷ later)
      → NoneOf (On x.tick x.activity) later → active (plan after) x.tick x.activity ≡ x.on
  last [] x later split none =
      let same : e ≡ x = cc in
      let rest : made ≡ later = cc in
      h.old_bit x.tick x.activity (subst (NoneOf (On x.tick x.activity)) (sym rest) none)
      ∙ subst (λ (y : Edit). active (plan (edit_bytes s r e)) y.tick y.activity ≡ y.on) same first.that_bit
  last (y ∷ earlier) x later split none =
      let rest : made ≡ earlier ++ (x ∷ later) = cc in
      h.last_on earlier x later rest none

  front : take (plan_thread_row (plan r).threads) after ≡ take (plan_thread_row (plan r).threads) r
  front =
      subst (λ (n : ℕ). take (plan_thread_row n) after ≡ take (plan_thread_row n) (edit_bytes s r e)) threads h.front
      ∙ take_same (plan_thread_row (plan r).threads) (edit_bytes s r e) r first.size (λ i l.
      first.other_bytes i (inl (omega arith)) (inl (omega arith)))

  other_rows : (a : ℕ) → a < (plan r).activities → NoneOf (Of a) (e ∷ made)
      → row_bytes (plan r).threads a after ≡ row_bytes (plan r).threads a r
  other_rows a l none =
      subst (λ (n : ℕ). row_bytes n a after ≡ row_bytes n a (edit_bytes s r e)) threads
      (h.other_rows a (omega (arith, activities)) none.1)
      ∙ part_same (plan_activity_row (plan r).threads a) 4 (edit_bytes s r e) r first.size (λ i least most.
      first.other_bytes i (apart i least most) (inl (omega arith)))
    where
      apart : (i : ℕ) → plan_activity_row (plan r).threads a ≤ i → i < plan_activity_row (plan r).threads a + 4
          → Elsewhere (plan_activity_row (plan r).threads e.activity) i
      apart i least most =
          elim (dec_lt a e.activity) [
            | yes before ↦ inl (omega arith)
            | no behind ↦ let other = none.0 in inr (omega arith)
          ]

  rows : (a : ℕ) → SomeOf (Of a) (e ∷ made) → RowCounted (plan after) a
  rows a (inl is) = ⊎_elim
      (h.rows a)
      (λ none. still_counted s (edit_bytes s r e) after made h a (omega (arith, is, activities, (in_plan s r e b done).0)) none
      (subst (RowCounted (plan (edit_bytes s r e))) is first.row))
      (of_some a made)
  rows a (inr later) = h.rows a later

  next : AfterEdits s r after (e ∷ made)
  next = record {
    well_formed = λ _. h.well_formed first.still_formed;
    last_on = last;
    old_bit = λ t a none. h.old_bit t a none.1 ∙ first.other_bits t a none.0;
    size = h.size ∙ first.size;
    front = front;
    other_rows = other_rows;
    rows = rows;
  }

-- a call, unrefused or refused, and others behind it
step : (s r : List ℕ) (e : Edit) (said : Answer (Unit {0})) → edit_answer s r e ≡ said → Bytes r → (after : List ℕ) (made : List Edit)
    → (Bytes (edit_bytes s r e) → AfterEdits s (edit_bytes s r e) after made) → AfterEdits s r after (if_unrefused said (e ∷ made) made)
step s r e (accepted _) done b after made behind = next s r e b done after made (behind (after-bytes s r e b done))
step s r e (refused x) said b after made behind =
    let same : edit_bytes s r e ≡ r = (edits_are_tried s r e).nothing_changed x said in
    subst (λ (y : List ℕ). AfterEdits s y after made) same (behind (subst Bytes (sym same) b))

pub every_list : EveryList
unfolding edited_by answers_to unrefused_by
every_list s r [] b = nothing s r
every_list s r (e ∷ es) b = step s r e (edit_answer s r e) refl b _ _ (every_list s (edit_bytes s r e) es)

-- ---- the unrefused calls by themselves

-- a call, unrefused or refused, before them
pub alone : (s r : List ℕ) (e : Edit) (said : Answer (Unit {0})) → edit_answer s r e ≡ said → (made : List Edit) (after : List ℕ)
    → Alone s (edit_bytes s r e) made after → Alone s r (if_unrefused said (e ∷ made) made) after
unfolding edited_by answers_to
alone s r e (accepted _) done made after h = record { all_done = ap₂ ◌∷◌ done h.all_done; same_bytes = h.same_bytes }
alone s r e (refused x) said made after h =
    subst (λ (y : List ℕ). Alone s y made after) ((edits_are_tried s r e).nothing_changed x said) h

pub unrefused-alone : UnrefusedAlone
unfolding edited_by answers_to unrefused_by
unrefused-alone s r [] = record { all_done = refl; same_bytes = refl }
unrefused-alone s r (e ∷ es) = alone s r e (edit_answer s r e) refl _ _ (unrefused-alone s (edit_bytes s r e) es)
