-- Laws of `put`: what stands where afterwards, the length, neighbouring parts as one, a part of the list, and the bytes of
-- a number.
-- Assumes nothing.
use Prim.Native.Nat.{ℕ, zero, suc, ◌+◌, ◌-◌, ◌≤◌, ◌<◌}
use native.Mathlib.Decide.{dec_lt}
use native.Mathlib.Nat.{add-zero, zero-add, add_assoc, div-div-eq-div-mul, mod-eq_of_lt}
use native.Mathlib.Omega.{arith}
use mathlib.Core.List.{List, [], ◌∷◌, ◌++◌, append_assoc}
use mathlib.Core.Logic.{◌⊎◌, inl, inr, ◌≢◌}
use mathlib.Core.Path.{◌≡◌, refl, sym, ap, subst, ◌∙◌}
use lib.ListN.{length, take, drop, get_or, set, length-append, length-set, length-drop, take-append-drop}
use lib.ListN.{get_or-append}
use lib.Seq.{ext_get_or, get_or-set_other, get_or-set_same, length-sets, sets, sets-eq, take-add, drop-drop, drop_at, length-take-le}
use borrow.Author.Tests.{le-leb, lt-leb}
use Rattle.schedule.specs.Fields.{bytes}
use Rattle.laws.proofs.FieldLaws.{getD_behind}
use Rattle.std.specs.Int.{w16, w32, to_be_bytes}
use Rattle.fields.specs.Put.{put}

-- ---- what stands where

pub put-fits : (at : ℕ) (b l : List ℕ) → at + length b ≤ length l → put at b l ≡ take at l ++ b ++ drop (at + length b) l
unfolding put
put-fits at b l h = rw (le-leb (at + length b) (length l) h)

pub put_out : (at : ℕ) (b l : List ℕ) → length l < at + length b → put at b l ≡ l
unfolding put
put_out at b l h = rw (lt-leb (at + length b) (length l) h)

-- where b fits, it is stored element by element
pub put-sets : (at : ℕ) (b l : List ℕ) → at + length b ≤ length l → put at b l ≡ sets l at b
put-sets at b l h = put-fits at b l h ∙ sym (sets-eq b l at h)

pub length-put : (at : ℕ) (b l : List ℕ) → length (put at b l) ≡ length l
length-put at b l =
    elim (dec_lt (length l) (at + length b)) [
      | yes h ↦ ap length (put_out at b l h)
      | no h ↦ ap length (put-sets at b l (omega arith)) ∙ length-sets l at b
    ]

-- an index outside the n places at a position
abbrev pub Outside : ℕ → ℕ → ℕ → Type 0
Outside at n i = (i < at) ⊎ (at + n ≤ i)

sets_off : (b l : List ℕ) (at i : ℕ) → Outside at (length b) i → get_or (sets l at b) i 0 ≡ get_or l i 0
sets_off [] l at i o = refl
sets_off (x ∷ b) l at i o = sets_off b (set l at x) (suc at) i (next o) ∙ get_or-set_other l at i x 0 (other o)
  where
    next : Outside at (suc (length b)) i → Outside (suc at) (length b) i
    next (inl h) = inl (omega arith)
    next (inr h) = inr (omega arith)

    other : Outside at (suc (length b)) i → i ≢ at
    other (inl h) = omega arith
    other (inr h) = omega arith

sets_at : (b l : List ℕ) (at i : ℕ) → at + length b ≤ length l → i < length b → get_or (sets l at b) (at + i) 0 ≡ get_or b i 0
sets_at [] l at i h k = absurd (omega arith)
sets_at (x ∷ b) l at zero h k =
    ap (λ (j : ℕ). get_or (sets (set l at x) (suc at) b) j 0) (add-zero at)
    ∙ sets_off b (set l at x) (suc at) at (inl (omega arith))
    ∙ get_or-set_same l at x 0 (omega arith)
sets_at (x ∷ b) l at (suc i) h k =
    let e : at + suc i ≡ suc at + i = omega arith in
    ap (λ (j : ℕ). get_or (sets (set l at x) (suc at) b) j 0) e
    ∙ sets_at b (set l at x) (suc at) i (omega (arith, length-set l at x)) (omega arith)

-- b is read back
pub put_at : (at : ℕ) (b l : List ℕ) → at + length b ≤ length l
    → (i : ℕ) → i < length b → get_or (put at b l) (at + i) 0 ≡ get_or b i 0
put_at at b l h i k = rw (put-sets at b l h) (sets_at b l at i h k)

-- nothing else changes
pub put_off : (at : ℕ) (b l : List ℕ) (i : ℕ) → Outside at (length b) i → get_or (put at b l) i 0 ≡ get_or l i 0
put_off at b l i o =
    elim (dec_lt (length l) (at + length b)) [
      | yes h ↦ rw (put_out at b l h)
      | no h ↦ rw (put-sets at b l (omega arith)) (sets_off b l at i o)
    ]

-- a list with b at its place and l everywhere else is the list that `put` makes
pub put_ext : (at : ℕ) (b l m : List ℕ) → at + length b ≤ length l → length m ≡ length l
    → ((i : ℕ) → i < length b → get_or m (at + i) 0 ≡ get_or b i 0)
    → ((i : ℕ) → Outside at (length b) i → get_or m i 0 ≡ get_or l i 0)
    → m ≡ put at b l
put_ext at b l m h e inside off = ext_get_or 0 m (put at b l) (e ∙ sym (length-put at b l)) (λ i k. same i)
  where
    same : (i : ℕ) → get_or m i 0 ≡ get_or (put at b l) i 0
    same i =
        elim (dec_lt i at) [
          | yes k ↦ off i (inl k) ∙ sym (put_off at b l i (inl k))
          | no k ↦ elim (dec_lt i (at + length b)) [
            | yes j ↦
                let e : at + (i - at) ≡ i = omega arith in
                subst (λ (x : ℕ). get_or m x 0 ≡ get_or (put at b l) x 0) e
                (inside (i - at) (omega arith) ∙ sym (put_at at b l h (i - at) (omega arith)))
            | no j ↦ off i (inr (omega arith)) ∙ sym (put_off at b l i (inr (omega arith)))
          ]
        ]

-- ---- neighbours

module _ (at : ℕ) (a b l : List ℕ) (fits : at + length (a ++ b) ≤ length l) where
  -- a list with a and b at their places and l everywhere else
  joined : (m : List ℕ) → length m ≡ length l
      → ((i : ℕ) → i < length a → get_or m (at + i) 0 ≡ get_or a i 0)
      → ((i : ℕ) → i < length b → get_or m (at + length a + i) 0 ≡ get_or b i 0)
      → ((i : ℕ) → Outside at (length a) i → Outside (at + length a) (length b) i → get_or m i 0 ≡ get_or l i 0)
      → m ≡ put at (a ++ b) l
  joined m e in-a in_b off = put_ext at (a ++ b) l m fits e inside outside
    where
      inside : (i : ℕ) → i < length (a ++ b) → get_or m (at + i) 0 ≡ get_or (a ++ b) i 0
      inside i k =
          elim (dec_lt i (length a)) [
            | yes h ↦ in-a i h ∙ sym (get_or-append a b 0 i h)
            | no h ↦
                let j : at + i ≡ at + length a + (i - length a) = omega arith in
                ap (λ (x : ℕ). get_or m x 0) j
                ∙ in_b (i - length a) (omega (arith, length-append a b))
                ∙ sym (getD_behind a b (i - length a) i (omega arith))
          ]

      outside : (i : ℕ) → Outside at (length (a ++ b)) i → get_or m i 0 ≡ get_or l i 0
      outside i (inl h) = off i (inl h) (inl (omega arith))
      outside i (inr h) = off i (inr (omega (arith, length-append a b))) (inr (omega (arith, length-append a b)))

  -- the first part, then the second behind it
  pub put_then : put (at + length a) b (put at a l) ≡ put at (a ++ b) l
  put_then =
      joined (put (at + length a) b (put at a l)) (length-put (at + length a) b (put at a l) ∙ length-put at a l)
      (λ i k.
      put_off (at + length a) b (put at a l) (at + i) (inl (omega arith))
      ∙ put_at at a l (omega (arith, length-append a b)) i k)
      (λ i k. put_at (at + length a) b (put at a l) (omega (arith, length-append a b, length-put at a l)) i k)
      (λ i oa ob. put_off (at + length a) b (put at a l) i ob ∙ put_off at a l i oa)

  -- the second part, then the first before it
  pub put_back : put at a (put (at + length a) b l) ≡ put at (a ++ b) l
  put_back =
      joined (put at a (put (at + length a) b l)) (length-put at a (put (at + length a) b l) ∙ length-put (at + length a) b l)
      (λ i k. put_at at a (put (at + length a) b l) (omega (arith, length-append a b, length-put (at + length a) b l)) i k)
      (λ i k.
      put_off at a (put (at + length a) b l) (at + length a + i) (inr (omega arith))
      ∙ put_at (at + length a) b l (omega (arith, length-append a b)) i k)
      (λ i oa ob. put_off at a (put (at + length a) b l) i oa ∙ put_off (at + length a) b l i ob)

-- the next part, behind what is already written: for a caller that writes a record piece by piece
pub put_next : (at to : ℕ) (a b l : List ℕ) → to ≡ at + length a → to + length b ≤ length l
    → put to b (put at a l) ≡ put at (a ++ b) l
put_next at to a b l e h =
    ap (λ (n : ℕ). put n b (put at a l)) e ∙ put_then at a b l (omega (arith, length-append a b))

-- the same of the lists that a caller had and left
pub put-after : (at to : ℕ) (a b l l₁ l₂ : List ℕ) → to ≡ at + length a → to + length b ≤ length l
    → l₁ ≡ put at a l → l₂ ≡ put to b l₁ → l₂ ≡ put at (a ++ b) l
put-after at to a b l l₁ l₂ e h p q = q ∙ ap (put to b) p ∙ put_next at to a b l e h

-- what is put in a place twice
pub put_twice : (at : ℕ) (b l : List ℕ) → at + length b ≤ length l → put at b (put at b l) ≡ put at b l
put_twice at b l h =
    put_ext at b l (put at b (put at b l)) h (length-put at b (put at b l) ∙ length-put at b l)
    (λ i k. put_at at b (put at b l) (omega (arith, length-put at b l)) i k)
    (λ i o. put_off at b (put at b l) i o ∙ put_off at b l i o)

-- what stands behind it
pub drop-put : (at n : ℕ) (b l : List ℕ) → n ≡ at + length b → n ≤ length l → drop n (put at b l) ≡ drop n l
drop-put at n b l e h =
    ap (drop n) (put-fits at b l (omega arith) ∙ ap (λ (k : ℕ). take at l ++ b ++ drop k l) (sym e))
    ∙ drop_at (take at l ++ b) (drop n l) n
    (length-append (take at l) b ∙ ap (λ (k : ℕ). k + length b) (length-take-le at l (omega arith)) ∙ sym e)

-- nothing is written
pub put_nil : (at : ℕ) (l : List ℕ) → put at [] l ≡ l
put_nil at l =
    elim (dec_lt (length l) (at + 0)) [
      | yes h ↦ put_out at [] l h
      | no h ↦ put-sets at [] l (omega arith)
    ]

-- from the front on
pub put_front : (b l : List ℕ) → length b ≤ length l → put 0 b l ≡ b ++ drop (length b) l
put_front b l h = put-fits 0 b l (omega arith) ∙ ap (λ (n : ℕ). b ++ drop n l) (zero-add (length b))

-- into the part of a list behind its first k
pub put_part : (k at : ℕ) (b l : List ℕ) → k ≤ length l → take k l ++ put at b (drop k l) ≡ put (k + at) b l
put_part k at b l h =
    elim (dec_lt (length l) (k + at + length b)) [
      | yes m ↦
          ap (λ (t : List ℕ). take k l ++ t) (put_out at b (drop k l) (omega (arith, length-drop k l)))
          ∙ take-append-drop k l
          ∙ sym (put_out (k + at) b l m)
      | no m ↦
          rw (
            put-fits at b (drop k l) (omega (arith, length-drop k l)),
            put-fits (k + at) b l (omega arith),
            take-add k at l,
            drop-drop (at + length b) k l,
            ← add_assoc k at (length b),
          )
          (simp append_assoc)
    ]

-- ---- the bytes of a number, as the language's own operation gives them

pub one_byte : (v : ℕ) → v < 256 → v ∷ [] ≡ bytes 1 v
unfolding bytes
one_byte v h = ap (λ (b : ℕ). b ∷ []) (sym (mod-eq_of_lt h))

pub two_bytes : (v : ℕ) → to_be_bytes w16 v ≡ bytes 2 v
unfolding bytes
two_bytes v = refl

pub four_bytes : (v : ℕ) → to_be_bytes w32 v ≡ bytes 4 v
unfolding bytes
four_bytes v = rw (div-div-eq-div-mul v 256 256, div-div-eq-div-mul v 65536 256)
