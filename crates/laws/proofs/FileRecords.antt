-- The records of a file: where each of them begins and ends, that they join to the file, and the part that is handed back.
-- Assumes nothing.
use Prim.Native.Nat.{ℕ, zero, suc, ◌+◌, ◌-◌, ◌≤◌, ◌<◌}
use native.Mathlib.Decide.{dec_lt}
use native.Mathlib.Numerals.{add-one}
use native.Mathlib.Omega.{arith}
use mathlib.Core.Bool.{Bool, true, false, cond}
use mathlib.Core.List.{List, [], ◌∷◌, ◌++◌}
use mathlib.Core.Logic.Iff
use mathlib.Core.Logic.{◌⊎◌, inl, inr, ◌↔◌, ⊎_elim}
use mathlib.Core.Path.{◌≡◌, refl, sym, subst, ap, ap₂, ◌∙◌}
use lib.Dec.{T}
use lib.ListN.{length, get_or, take, drop, length-drop}
use lib.Seq.{take_all, length-take-le, drop-cons, drop-drop, take-add}
use Rattle.schedule.specs.Bounded.{total, chain}
use Rattle.schedule.specs.Fields.{field}
use Rattle.schedule.specs.Records.{Within, within}
use Rattle.schedule.specs.Rule.{Refusal}
use Rattle.schedule.specs.Answers.{accepted, refused}
use Rattle.schedule.specs.Exchange.{wrapper_length, standing, record_at, handed_back, Part, part_of}
use Rattle.schedule.specs.Exchange.{record_end, cut_into, records_of, offset_in, file_answer, file_bytes}
use Rattle.laws.proofs.Tests.{tests}
use Rattle.laws.proofs.WrappedLaws.{standing_lt, placed-from, refused-from}

-- ---- where a record ends

by_cond : {P : Type 0} (b : Bool) (k n : ℕ) → T b ↔ P → (P × (cond b k n ≡ k)) ⊎ ((¬ P) × (cond b k n ≡ n))
by_cond true k n h = inl (h.0 tt, refl)
by_cond false k n h = inr (h.1, refl)

-- behind as many bytes as the length says, or at the end
pub ends : (f : List ℕ)
    → (Within wrapper_length (length f) (field f 0 4) × (record_end f ≡ field f 0 4))
    ⊎ ((¬ Within wrapper_length (length f) (field f 0 4)) × (record_end f ≡ length f))
unfolding record_end
ends f =
    by_cond (within wrapper_length (length f) (field f 0 4)) (field f 0 4) (length f) (simp tests Iff.rfl)

pub end_le : (f : List ℕ) → record_end f ≤ length f
end_le f = ⊎_elim (λ h. omega (arith, h.0.1, h.1)) (λ h. omega (arith, h.1)) (ends f)

pub end_above : (f : List ℕ) → 0 < length f → 0 < record_end f
end_above f l = ⊎_elim (λ h. omega (arith, h.0.0, h.1)) (λ h. omega (arith, l, h.1)) (ends f)

-- ---- the first record, and the others

-- as many as a file has bytes are enough
enough : (j k : ℕ) (f : List ℕ) → length f ≤ j → length f ≤ k → cut_into j f ≡ cut_into k f
unfolding cut_into
enough zero zero f l m = refl
enough zero (suc k) [] l m = refl
enough zero (suc k) (b ∷ f) l m = absurd (omega (arith, l))
enough (suc j) zero [] l m = refl
enough (suc j) zero (b ∷ f) l m = absurd (omega (arith, m))
enough (suc j) (suc k) [] l m = refl
enough (suc j) (suc k) (b ∷ f) l m =
    let e : ℕ = record_end (b ∷ f) in
    ap (λ (rest : List (List ℕ)). take e (b ∷ f) ∷ rest)
    (enough j k (drop e (b ∷ f)) (fewer j l) (fewer k m))
  where
    fewer : (n : ℕ) → length (b ∷ f) ≤ suc n → length (drop (record_end (b ∷ f)) (b ∷ f)) ≤ n
    fewer n l = omega (arith, l, length-drop (record_end (b ∷ f)) (b ∷ f), end_above (b ∷ f) (omega arith))

pub records_cons : (f : List ℕ) → 0 < length f
    → records_of f ≡ take (record_end f) f ∷ records_of (drop (record_end f) f)
unfolding records_of cut_into
records_cons [] l = absurd (omega (arith, l))
records_cons (b ∷ f) l =
    let e : ℕ = record_end (b ∷ f) in
    ap (λ (rest : List (List ℕ)). take e (b ∷ f) ∷ rest)
    (enough (length f) (length (drop e (b ∷ f))) (drop e (b ∷ f))
    (omega (arith, length-drop e (b ∷ f), end_above (b ∷ f) l)) (omega arith))

pub records_none : (f : List ℕ) → length f ≤ 0 → records_of f ≡ []
unfolding records_of cut_into
records_none [] l = refl
records_none (b ∷ f) l = absurd (omega (arith, l))

-- ---- along a file

-- the records before number k end at a place of the file, and the others are those of the rest
pub record Reached (f : List ℕ) (k at : ℕ) : Type 0 where
  pub in_file : at ≤ length f
  pub rest : drop k (records_of f) ≡ records_of (drop at f)
  pub begins : offset_in (records_of f) k ≡ at

pub reached_start : (f : List ℕ) → Reached f 0 0
unfolding total
reached_start f = record { in_file = omega arith; rest = refl; begins = refl }

-- the record that begins there, and where the next one begins
pub record Next (f : List ℕ) (k at : ℕ) : Type 0 where
  pub counted : k < length (records_of f)
  pub is : record_at (records_of f) k ≡ take (record_end (drop at f)) (drop at f)
  pub measured : length (record_at (records_of f) k) ≡ record_end (drop at f)
  pub reached : Reached f (k + 1) (at + record_end (drop at f))

head-same : {x y : List ℕ} {xs ys : List (List ℕ)} → ◌≡◌ {A = List (List ℕ)} (x ∷ xs) (y ∷ ys) → x ≡ y
head-same e = ap (λ (l : List (List ℕ)). get_or l 0 []) e

tail_same : {x y : List ℕ} {xs ys : List (List ℕ)} → ◌≡◌ {A = List (List ℕ)} (x ∷ xs) (y ∷ ys) → xs ≡ ys
tail_same e = ap (λ (l : List (List ℕ)). drop 1 l) e

pub next : (f : List ℕ) (k at : ℕ) → Reached f k at → at < length f → Next f k at
unfolding total
next f k at h l = record {
  counted = counted;
  is = is;
  measured = measured;
  reached = record {
    in_file = omega (arith, end_le (drop at f), left, l);
    rest = rw add-one (tail_same both ∙ ap records_of (drop-drop e at f));
    begins = rw add-one (ap₂ (λ (i j : ℕ). i + j) h.begins measured);
  };
}
  where
    e : ℕ
    e = record_end (drop at f)

    left : length (drop at f) ≡ length f - at
    left = length-drop at f

    ws : List (List ℕ)
    ws = records_of f

    parted : drop k ws ≡ take e (drop at f) ∷ records_of (drop e (drop at f))
    parted = h.rest ∙ records_cons (drop at f) (omega (arith, left, l))

    counted : k < length ws
    counted = omega (arith, ap length parted, length-drop k ws)

    both : record_at ws k ∷ drop (suc k) ws ≡ take e (drop at f) ∷ records_of (drop e (drop at f))
    both = sym (drop-cons ws k [] counted) ∙ parted

    is : record_at ws k ≡ take e (drop at f)
    is = head-same both

    measured : length (record_at ws k) ≡ e
    measured = ap length is ∙ length-take-le e (drop at f) (end_le (drop at f))

-- at the end there is no more record
pub none_left : (f : List ℕ) (k at : ℕ) → Reached f k at → length f ≤ at → drop k (records_of f) ≡ []
none_left f k at h l = h.rest ∙ records_none (drop at f) (omega (arith, length-drop at f, l))

-- where there is one, the end is not reached; and where all are counted, it is
pub before-end : (f : List ℕ) (k at : ℕ) → Reached f k at → k < length (records_of f) → at < length f
before-end f k at h l = elim (dec_lt at (length f)) [
  | yes before ↦ before
  | no behind ↦ absurd (omega (arith, l, ap length (none_left f k at h (omega arith)), length-drop k (records_of f)))
]

at_end : (f : List ℕ) (k at : ℕ) → Reached f k at → length (records_of f) ≤ k → length f ≤ at
at_end f k at h l = elim (dec_lt at (length f)) [
  | yes before ↦ absurd (omega (arith, l, (next f k at h before).counted))
  | no behind ↦ omega arith
]

-- every record is reached at its offset
pub reached : (f : List ℕ) (k : ℕ) → k ≤ length (records_of f) → Reached f k (offset_in (records_of f) k)
unfolding total
reached f zero l = reached_start f
reached f (suc k) l = after (reached f k (omega (arith, l)))
  where
    ws : List (List ℕ)
    ws = records_of f

    at : ℕ
    at = offset_in ws k

    there : Next f k at → Reached f (suc k) (offset_in ws (suc k))
    there n = subst (λ (i : ℕ). Reached f i (offset_in ws i)) (add-one k)
        (subst (Reached f (k + 1)) (sym n.reached.begins) n.reached)

    after : Reached f k at → Reached f (suc k) (offset_in ws (suc k))
    after h = there (next f k at h (before-end f k at h (omega (arith, l))))

pub at_offset : (f : List ℕ) (k : ℕ) → k < length (records_of f) → Next f k (offset_in (records_of f) k)
at_offset f k l =
    let at : ℕ = offset_in (records_of f) k in
    let h : Reached f k at = reached f k (omega (arith, l)) in
    next f k at h (before-end f k at h l)

-- the first k of them are the file up to there, and all of them are the file
pub joined_to : (f : List ℕ) (k : ℕ) → k ≤ length (records_of f)
    → chain k (record_at (records_of f)) ≡ take (offset_in (records_of f) k) f
unfolding total chain
joined_to f zero l = refl
joined_to f (suc k) l = after (joined_to f k (omega (arith, l))) (reached f k (omega (arith, l)))
  where
    ws : List (List ℕ)
    ws = records_of f

    at : ℕ
    at = offset_in ws k

    after : chain k (record_at ws) ≡ take at f → Reached f k at
        → chain k (record_at ws) ++ record_at ws k ≡ take (at + length (record_at ws k)) f
    after ih h =
        let n : Next f k at = next f k at h (before-end f k at h (omega (arith, l))) in
        ap₂ (λ (x y : List ℕ). x ++ y) ih n.is
        ∙ sym (take-add at (record_end (drop at f)) f)
        ∙ ap (λ (i : ℕ). take (at + i) f) (sym n.measured)

pub joined : (f : List ℕ) → chain (length (records_of f)) (record_at (records_of f)) ≡ f
joined f =
    let h : Reached f (length (records_of f)) _ = reached f (length (records_of f)) (omega arith) in
    joined_to f (length (records_of f)) (omega arith) ∙ take_all _ f (at_end f _ _ h (omega arith))

-- ---- the chosen one

-- the record that a file's answer speaks of: it stands, lies where its part says, and is handed back
pub record FoundIn (f : List ℕ) (x : Part) : Type 0 where
  pub stands : standing (records_of f) ≡ accepted x.index
  pub offset : x.offset ≡ offset_in (records_of f) x.index
  pub size : x.length ≡ length (record_at (records_of f) x.index)
  pub inside : x.offset + x.length ≤ length f
  pub bytes : file_bytes f ≡ record_at (records_of f) x.index
  pub lies : record_at (records_of f) x.index ≡ take x.length (drop x.offset f)

pub chosen_part : (f : List ℕ) (x : Part) → file_answer f ≡ accepted x → FoundIn f x
unfolding file_answer file_bytes handed_back
chosen_part f x e = record {
  stands = from.0;
  offset = sym offset;
  size = sym size;
  inside = omega (arith, n.reached.in_file, n.measured, offset, size);
  bytes = ap (handed_back ws) from.0;
  lies = n.is ∙ ap₂ (λ (i j : ℕ). take i (drop j f)) (sym n.measured ∙ size) offset;
}
  where
    ws : List (List ℕ)
    ws = records_of f

    r : ℕ
    r = x.index

    from : (standing ws ≡ accepted r) × (part_of (offset_in ws) ws r ≡ x)
    from = placed-from (offset_in ws) ws (standing ws) x e

    n : Next f r (offset_in ws r)
    n = at_offset f r (standing_lt ws r from.0)

    offset : offset_in ws r ≡ x.offset
    offset = ap (λ (y : Part). y.offset) from.1

    size : length (record_at ws r) ≡ x.length
    size = ap (λ (y : Part). y.length) from.1

pub chosen-nothing : (f : List ℕ) (x : Refusal) → file_answer f ≡ refused x
    → (standing (records_of f) ≡ refused x) × (file_bytes f ≡ [])
unfolding file_answer file_bytes handed_back
chosen-nothing f x e =
    let from = refused-from (offset_in (records_of f)) (records_of f) (standing (records_of f)) x e in
    (from, ap (handed_back (records_of f)) from)
