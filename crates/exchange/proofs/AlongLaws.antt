-- A step along records, a pair, and the walk along a file from one of its records to the next.
-- Assumes nothing.
use Prim.Native.Nat.{ℕ, ◌+◌, ◌≤◌, ◌<◌}
use native.Mathlib.Decide.{dec_lt}
use native.Mathlib.Nat.{zero-add}
use native.Mathlib.Numerals.{add-one}
use native.Mathlib.Omega.{arith}
use mathlib.Core.Bool.{Bool, true, false, ◌&&◌, cond}
use mathlib.Core.List.{List, [], ◌∷◌}
use mathlib.Core.Option.{Option, some, none}
use mathlib.Core.Path.{◌≡◌, refl, sym, subst, ap, ap₂, ◌∙◌}
use borrow.Author.Tests.{leb-true}
use denote.Ref.{Bor}
use Rattle.std.specs.Prelude.{Result, Ok, Err}
use lib.Dec.{leb}
use lib.ListN.{length, take, drop, length-drop}
use lib.Seq.{length-take-le, drop-cons}
use Rattle.schedule.specs.Rule.{Refusal, first_break}
use Rattle.schedule.specs.Answers.{Answer, accepted, refused, answer}
use Rattle.schedule.specs.Exchange.{wrapper_rule, record_rules, outranks, at_record, along, standing, record_at, both_of}
use Rattle.schedule.specs.Exchange.{handed_back, part_of, placed}
use Rattle.schedule.specs.Exchange.{pair_answer, pair_bytes, HandsBack, record_end, records_of, offset_in, file_answer}
use Rattle.schedule.specs.Numbers.{wrap_numbers, Standing, standing_numbers, part_numbers}
use Rattle.schedule.specs.declared.Part.{Part}
use Rattle.schedule.specs.declared.Side.{Side}
use Rattle.schedule.specs.declared.WrapRefusal.{WrapRefusal}
use Rattle.laws.proofs.VerdictLaws.{accepted_is_not-refused}
use Rattle.laws.proofs.WrappedLaws.{is_right, turned, onwards, standing-first}
use Rattle.laws.proofs.FileRecords.{end_le, end_above, records_cons, records_none, Reached, reached_start, Next, next, none_left}
use Rattle.exchange.specs.Compares.{compared_numbers}
use Rattle.exchange.proofs.RecordLaws.{right_by}

-- ---- a step

-- what record w is found to be beside x, the one standing so far
abbrev Beside : List ℕ → List ℕ → Result Bool WrapRefusal → Type 0
Beside x w found = compared_numbers found ≡ answer (first_break (record_rules x w)) (outranks w x)

pub along-refused : (k r : ℕ) (x w : List ℕ) (ws : List (List ℕ)) (found : Result Bool WrapRefusal) (why : WrapRefusal)
    → Beside x w found → found ≡ Err why → along k r x (w ∷ ws) ≡ refused (wrap_numbers why k)
unfolding along answer
along-refused k r x w ws found why h e =
    by (first_break (record_rules x w)) (outranks w x) (along (k + 1) k w ws) (along (k + 1) r x ws)
    (sym h ∙ ap compared_numbers e)
  where
    by : (o : Option Refusal) (above : Bool) (new old : Answer ℕ) → answer o above ≡ refused (wrap_numbers why 0)
        → onwards o above k new old ≡ refused (wrap_numbers why k)
    by none above new old e = absurd (accepted_is_not-refused above (wrap_numbers why 0) e)
    by (some y) above new old e =
        let same : y ≡ wrap_numbers why 0 = cc in
        ap (λ (z : Refusal). refused (at_record k z)) same

pub along-taken : (k r : ℕ) (x w : List ℕ) (ws : List (List ℕ)) (found : Result Bool WrapRefusal) (above : Bool)
    → Beside x w found → found ≡ Ok above
    → along k r x (w ∷ ws) ≡ cond above (along (k + 1) k w ws) (along (k + 1) r x ws)
unfolding along answer
along-taken k r x w ws found above h e =
    by (first_break (record_rules x w)) (outranks w x) (along (k + 1) k w ws) (along (k + 1) r x ws)
    (sym h ∙ ap compared_numbers e)
  where
    by : (o : Option Refusal) (b : Bool) (new old : Answer ℕ) → answer o b ≡ accepted above
        → onwards o b k new old ≡ cond above new old
    by none true new old e = let same : true ≡ above = cc in ap (λ (b : Bool). cond b new old) same
    by none false new old e = let same : false ≡ above = cc in ap (λ (b : Bool). cond b new old) same
    by (some y) b new old e = absurd (accepted_is_not-refused above y (sym e))

-- ---- a pair

pub pair_unright : (x y : List ℕ) → is_right x ≡ false → pair_answer x y ≡ turned 54 0
unfolding pair_answer
pair_unright x y e = standing-first x (y ∷ []) ∙ ap (λ (b : Bool). cond b (along 1 0 x (y ∷ [])) (turned 54 0)) e

pair-right : (x y : List ℕ) → is_right x ≡ true → pair_answer x y ≡ along 1 0 x (y ∷ [])
unfolding pair_answer
pair-right x y e = standing-first x (y ∷ []) ∙ ap (λ (b : Bool). cond b (along 1 0 x (y ∷ [])) (turned 54 0)) e

pub pair-refused : (x y : List ℕ) (found : Result Bool WrapRefusal) (why : WrapRefusal) → is_right x ≡ true → Beside x y found
    → found ≡ Err why → pair_answer x y ≡ refused (wrap_numbers why 1)
pair-refused x y found why r h e = pair-right x y r ∙ along-refused 1 0 x y [] found why h e

pub pair-taken : (x y : List ℕ) (found : Result Bool WrapRefusal) (above : Bool) → is_right x ≡ true → Beside x y found
    → found ≡ Ok above → pair_answer x y ≡ cond above (accepted 1) (accepted 0)
unfolding along
pair-taken x y found above r h e = pair-right x y r ∙ along-taken 1 0 x y [] found above h e

-- the slice that an answer names holds the bytes that it hands back
pub named-bytes : (found : Standing) (x y r : Bor (List ℕ)) → standing_numbers found ≡ pair_answer x.now y.now
    → HandsBack (standing_numbers found) x y r → r.now ≡ pair_bytes x.now y.now
unfolding pair_bytes handed_back
named-bytes found x y r answered h =
    by found h ∙ ap (handed_back (both_of x.now y.now)) answered
  where
    by : (f : Standing) → HandsBack (standing_numbers f) x y r → r.now ≡ handed_back (both_of x.now y.now) (standing_numbers f)
    by (Ok Side.First) e = ap (λ (z : Bor (List ℕ)). z.now) e
    by (Ok Side.Second) e = ap (λ (z : Bor (List ℕ)). z.now) e
    by (Err x) e = e.0

-- ---- along a file

-- a record that is right has 12 bytes at least
right-long : (w : List ℕ) → is_right w ≡ true → 12 ≤ length w
unfolding wrapper_rule
right-long w e = leb-true 12 (length w) (left (leb 12 (length w)) _ (left _ _ (sym (right_by w) ∙ e)))
  where
    left : (a b : Bool) → (a && b) ≡ true → a ≡ true
    left true b e = refl
    left false b e = e

-- the first record is refused, or there is none
pub start-refused : (f : List ℕ) → is_right (take (record_end f) f) ≡ false → file_answer f ≡ turned 54 0
unfolding file_answer standing placed
start-refused f e = ap (placed (offset_in ws) ws) refusing
  where
    ws : List (List ℕ)
    ws = records_of f

    w : List ℕ
    w = take (record_end f) f

    rest : List (List ℕ)
    rest = records_of (drop (record_end f) f)

    refusing : standing ws ≡ turned 54 0
    refusing = elim (dec_lt 0 (length f)) [
      | yes l ↦
          ap standing (records_cons f l)
          ∙ standing-first w rest
          ∙ ap (λ (b : Bool). cond b (along 1 0 w rest) (turned 54 0)) e
      | no l ↦ ap standing (records_none f (omega arith))
    ]

-- Records have been taken up to number `index`, which begins at a place; the one standing so far lies where it is said to lie,
-- and what is left of the walk gives the answer.
pub record Along (f : List ℕ) (x : Part) (index at : ℕ) : Type 0 where
  pub here : Reached f index at
  pub few : index ≤ at
  pub inside : x.offset + x.length ≤ length f
  pub part : part_numbers x ≡ part_of (offset_in (records_of f)) (records_of f) x.index
  pub bytes : record_at (records_of f) x.index ≡ take x.length (drop x.offset f)
  pub goes_on : standing (records_of f)
      ≡ along index x.index (record_at (records_of f) x.index) (drop index (records_of f))

-- the record that begins at a place, as a part
abbrev pub part_at : List ℕ → ℕ → ℕ → Part
part_at f index at = record { index = index; offset = at; length = record_end (drop at f) }

-- the part of a record that is reached
lies : (f : List ℕ) (index at : ℕ) → Reached f index at → Next f index at
    → part_numbers (part_at f index at) ≡ part_of (offset_in (records_of f)) (records_of f) index
lies f index at h n =
    ap₂ (λ (offset size : ℕ). record { index = index; offset = offset; length = size }) (sym h.begins) (sym n.measured)

pub start : (f : List ℕ) → is_right (take (record_end f) f) ≡ true → Along f (part_at f 0 0) 1 (record_end f)
start f e = record {
  here = subst (Reached f 1) (zero-add (record_end f)) n.reached;
  few = omega (arith, right-long w e, size);
  inside = omega (arith, end_le f);
  part = lies f 0 0 (reached_start f) n;
  bytes = n.is;
  goes_on =
      subst (λ (ws : List (List ℕ)). standing ws ≡ along 1 0 (record_at ws 0) (drop 1 ws)) (sym (records_cons f l))
      (standing-first w rest ∙ ap (λ (b : Bool). cond b (along 1 0 w rest) (turned 54 0)) e);
}
  where
    w : List ℕ
    w = take (record_end f) f

    rest : List (List ℕ)
    rest = records_of (drop (record_end f) f)

    size : length w ≡ record_end f
    size = length-take-le (record_end f) f (end_le f)

    l : 0 < length f
    l = omega (arith, right-long w e, size, end_le f)

    n : Next f 0 0
    n = next f 0 0 (reached_start f) l

-- what is left begins with the next record
left : (f : List ℕ) (x : Part) (index at : ℕ) → Along f x index at → Next f index at
    → standing (records_of f)
    ≡ along index x.index (take x.length (drop x.offset f))
    (take (record_end (drop at f)) (drop at f) ∷ drop (index + 1) (records_of f))
left f x index at h n =
    h.goes_on
    ∙ ap₂ (along index x.index) h.bytes
    (drop-cons (records_of f) index [] n.counted
    ∙ ap₂ (λ (w : List ℕ) (k : ℕ). w ∷ drop k (records_of f)) n.is (sym (add-one index)))

-- the bytes that are compared
abbrev pub bytes_at : List ℕ → Part → List ℕ
bytes_at f x = take x.length (drop x.offset f)

pub step-refused : (f : List ℕ) (x : Part) (index at : ℕ) → Along f x index at → at < length f
    → (found : Result Bool WrapRefusal) (why : WrapRefusal) → Beside (bytes_at f x) (bytes_at f (part_at f index at)) found
    → found ≡ Err why → file_answer f ≡ refused (wrap_numbers why index)
unfolding file_answer placed
step-refused f x index at h l found why b e =
    ap (placed (offset_in (records_of f)) (records_of f))
    (left f x index at h (next f index at h.here l)
    ∙ along-refused index x.index (bytes_at f x) (bytes_at f (part_at f index at)) _ found why b e)

pub step-taken : (f : List ℕ) (x : Part) (index at : ℕ) → Along f x index at → at < length f
    → (found : Result Bool WrapRefusal) (above : Bool) → Beside (bytes_at f x) (bytes_at f (part_at f index at)) found
    → found ≡ Ok above
    → Along f (cond above (part_at f index at) x) (index + 1) (at + record_end (drop at f))
step-taken f x index at h l found above b e = by above (along-taken index x.index X W more found above b e)
  where
    n : Next f index at
    n = next f index at h.here l

    X : List ℕ
    X = bytes_at f x

    W : List ℕ
    W = bytes_at f (part_at f index at)

    more : List (List ℕ)
    more = drop (index + 1) (records_of f)

    further : index + 1 ≤ at + record_end (drop at f)
    further = omega (arith, h.few, end_above (drop at f) (omega (arith, length-drop at f, l)))

    by : (above : Bool)
        → along index x.index X (W ∷ more)
        ≡ cond above (along (index + 1) index W more) (along (index + 1) x.index X more)
        → Along f (cond above (part_at f index at) x) (index + 1) (at + record_end (drop at f))
    by true step = record {
      here = n.reached;
      few = further;
      inside = n.reached.in_file;
      part = lies f index at h.here n;
      bytes = n.is;
      goes_on = left f x index at h n ∙ step ∙ ap (λ (w : List ℕ). along (index + 1) index w more) (sym n.is);
    }
    by false step = record {
      here = n.reached;
      few = further;
      inside = h.inside;
      part = h.part;
      bytes = h.bytes;
      goes_on = left f x index at h n ∙ step ∙ ap (λ (w : List ℕ). along (index + 1) x.index w more) (sym h.bytes);
    }

pub finish : (f : List ℕ) (x : Part) (index at : ℕ) → Along f x index at → length f ≤ at
    → file_answer f ≡ accepted (part_numbers x)
unfolding file_answer along placed
finish f x index at h l =
    ap (placed (offset_in (records_of f)) (records_of f))
    (h.goes_on
    ∙ ap (along index x.index (record_at (records_of f) x.index)) (none_left f index at h.here l))
    ∙ ap accepted (sym h.part)

-- ---- the same in the terms of the code: the parts and the bytes that its calls gave

pub first-refused : (f : List ℕ) (x : Part) (w : List ℕ) → x ≡ part_at f 0 0 → w ≡ bytes_at f x → is_right w ≡ false
    → file_answer f ≡ turned 54 0
first-refused f x w e d r =
    start-refused f (subst (λ (v : List ℕ). is_right v ≡ false) (d ∙ ap (bytes_at f) e) r)

pub first_taken : (f : List ℕ) (x : Part) (w : List ℕ) → x ≡ part_at f 0 0 → w ≡ bytes_at f x → is_right w ≡ true
    → Along f x 1 x.length
first_taken f x w e d r =
    subst (λ (y : Part). Along f y 1 y.length) (sym e)
    (start f (subst (λ (v : List ℕ). is_right v ≡ true) (d ∙ ap (bytes_at f) e) r))

pub inside : (f : List ℕ) (x : Part) (index at : ℕ) → x ≡ part_at f index at → at ≤ length f
    → x.offset + x.length ≤ length f
inside f x index at e l =
    subst (λ (y : Part). y.offset + y.length ≤ length f) (sym e)
    (omega (arith, l, end_le (drop at f), length-drop at f))

-- a record has a byte at least, and ends in the file
pub ends-inside : (f : List ℕ) (x : Part) (index at : ℕ) → x ≡ part_at f index at → at < length f
    → (0 < x.length) × (at + x.length ≤ length f)
ends-inside f x index at e l =
    subst (λ (y : Part). (0 < y.length) × (at + y.length ≤ length f)) (sym e)
    (end_above (drop at f) (omega (arith, l, length-drop at f)), omega (arith, l, end_le (drop at f), length-drop at f))

pub next_refused : (f : List ℕ) (x y : Part) (index at : ℕ) (X W : List ℕ) → Along f x index at → at < length f
    → y ≡ part_at f index at → X ≡ bytes_at f x → W ≡ bytes_at f y → (found : Result Bool WrapRefusal) (why : WrapRefusal)
    → Beside X W found → found ≡ Err why → file_answer f ≡ refused (wrap_numbers why index)
next_refused f x y index at X W h l e d_x d_w found why b =
    step-refused f x index at h l found why
    (subst (λ (w : List ℕ). Beside (bytes_at f x) w found) (d_w ∙ ap (bytes_at f) e)
    (subst (λ (w : List ℕ). Beside w W found) d_x b))

pub next_taken : (f : List ℕ) (x y z : Part) (index at : ℕ) (X W : List ℕ) → Along f x index at → at < length f
    → y ≡ part_at f index at → X ≡ bytes_at f x → W ≡ bytes_at f y → (found : Result Bool WrapRefusal) (above : Bool)
    → Beside X W found → found ≡ Ok above → z ≡ cond above y x → Along f z (index + 1) (at + y.length)
next_taken f x y z index at X W h l e d_x d_w found above b t u =
    subst (λ (v : Part). Along f v (index + 1) (at + y.length)) (sym u)
    (subst (λ (v : Part). Along f (cond above v x) (index + 1) (at + v.length)) (sym e)
    (step-taken f x index at h l found above
    (subst (λ (w : List ℕ). Beside (bytes_at f x) w found) (d_w ∙ ap (bytes_at f) e)
    (subst (λ (w : List ℕ). Beside w W found) d_x b)) t))
