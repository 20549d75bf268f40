-- The records of a file are the records that it holds end to end, and its answer is the one that stands among them (U6 of 02);
-- no answer about wrapped records has the number that is out of the book (U11 of 02).
-- Assumes nothing.
use Prim.Native.Nat.{ℕ, zero, suc, ◌≤◌}
use native.Mathlib.Omega.{arith}
use mathlib.Core.List.{List, [], ◌∷◌, ◌++◌, append-nil, append_assoc}
use mathlib.Core.Logic.{◌↔◌, ⊎_elim}
use mathlib.Core.Path.{◌≡◌, sym, subst, ap, ap₂, ◌∙◌}
use lib.ListN.{length, take, drop, length-append}
use lib.Seq.{length-take-le, take-length, take-append_seam, drop-append_seam}
use Rattle.schedule.specs.Bounded.{chain}
use Rattle.schedule.specs.Fields.{field}
use Rattle.schedule.specs.Records.{Within, length_rule, version_rule}
use Rattle.schedule.specs.Exchange.{wrapper_length, flag_rule, wrapper_form, record_at, record_end, records_of, offset_in}
use Rattle.schedule.specs.Exchange.{standing, both_of, pair_answer, pair_part}
use Rattle.schedule.specs.Retired.{retired, AnswerNotRetired}
use Rattle.laws.proofs.FieldLaws.{field-take}
use Rattle.laws.proofs.FileRecords.{ends, records_none, records_cons, at_offset, joined, chosen_part, chosen-nothing}
use Rattle.laws.proofs.NumbersLaws.{wraps_never_24}
use Rattle.laws.proofs.WrappedLaws.{refused-from}
use Rattle.demands.specs.Exchange.{IsRight, BeginsRecord, FilesHoldRecords, NoOtherRecords, FilesAreChosen}
use Rattle.demands.specs.Exchange.{TurnedAway, nothing, wrapper, two_series, other_bytes, WrappedNever}
use Rattle.demands.proofs.Standing.{one_stands}

-- ---- what begins a record

-- what a record that is right says of its own bytes
sized : (w : List ℕ) → IsRight w → (12 ≤ length w) × (field w 0 4 ≡ length w)
unfolding wrapper_form length_rule
sized w h = h.0 0 0 (omega arith) (omega arith)

-- the first record of what is left, where its length is 12 at least and not past the end
right_there : (f : List ℕ) → Within wrapper_length (length f) (field f 0 4) → IsRight (take (field f 0 4) f) → BeginsRecord f
unfolding wrapper_form version_rule flag_rule
right_there f w h = record {
  readable = omega (arith, w.0, w.1);
  long_enough = w.0;
  in_file = w.1;
  version =
      sym (field-take (field f 0 4) f 4 1 (omega (arith, w.0)))
      ∙ only_1 _ (h.1.0 0 0 (omega arith) (omega arith));
  flag = subst (λ (v : ℕ). v ≤ 1) (field-take (field f 0 4) f 11 1 (omega (arith, w.0)))
      (h.1.1.0 0 0 (omega arith) (omega arith));
  model = h.1.1.1;
}
  where
    only_1 : (v : ℕ) → Within 1 1 v → v ≡ 1
    only_1 v h = omega (arith, h.0, h.1)

right_back : (f : List ℕ) → BeginsRecord f → IsRight (take (field f 0 4) f)
unfolding wrapper_form length_rule version_rule flag_rule
right_back f h = (
  λ _ _ _ _. (
    omega (arith, measured, h.long_enough),
    field-take L f 0 4 (omega (arith, h.long_enough)) ∙ sym measured,
  ),
  (
    λ _ _ _ _. (let e : field (take L f) 4 1 ≡ 1 = field-take L f 4 1 (omega (arith, h.long_enough)) ∙ h.version in
        (omega (arith, e), omega (arith, e))),
    (
      λ _ _ _ _. subst (λ (v : ℕ). v ≤ 1) (sym (field-take L f 11 1 (omega (arith, h.long_enough)))) h.flag,
      h.model,
    ),
  ),
)
  where
    L : ℕ
    L = field f 0 4

    measured : length (take L f) ≡ L
    measured = length-take-le L f h.in_file

-- what is cut off the front is right exactly where a record begins
right_iff : (f : List ℕ) → IsRight (take (record_end f) f) ↔ BeginsRecord f
right_iff f =
    ⊎_elim
    (λ h. (
      λ r. right_there f h.0 (subst (λ (n : ℕ). IsRight (take n f)) h.1 r),
      λ b. subst (λ (n : ℕ). IsRight (take n f)) (sym h.1) (right_back f b),
    ))
    (λ h. (
      λ r. absurd (h.0 (whole (subst IsRight (ap (λ (n : ℕ). take n f) h.1 ∙ take-length f) r))),
      λ b. absurd (h.0 (b.long_enough, b.in_file)),
    ))
    (ends f)
  where
    whole : IsRight f → Within wrapper_length (length f) (field f 0 4)
    whole r =
        let s = sized f r in
        (omega (arith, s.0, s.1), omega (arith, s.1))

-- ---- of every file

pub files_hold_records : FilesHoldRecords
files_hold_records f = record {
  joined = joined f;
  lies = λ k l.
      let n = at_offset f k l in
      n.is ∙ ap (λ (i : ℕ). take i (drop (offset_in (records_of f) k) f)) (sym n.measured);
  right = λ k l.
      subst (λ (w : List ℕ). IsRight w ↔ BeginsRecord (drop (offset_in (records_of f) k) f)) (sym (at_offset f k l).is)
      (right_iff (drop (offset_in (records_of f) k) f));
}

-- ---- no other records

chain_cons : (n : ℕ) (f : ℕ → List ℕ) → chain (suc n) f ≡ f 0 ++ chain n (λ k. f (suc k))
unfolding chain
chain_cons zero f = sym (append-nil (f 0))
chain_cons (suc n) f =
    ap (λ (l : List ℕ). l ++ f (suc n)) (chain_cons n f) ∙ append_assoc (f 0) (chain n (λ k. f (suc k))) (f (suc n))

pub no_other_records : NoOtherRecords
unfolding chain
no_other_records [] h = records_none [] (omega arith)
no_other_records (w ∷ ws) h =
    ap records_of (chain_cons (length ws) (record_at (w ∷ ws)))
    ∙ records_cons all (omega (arith, length-append w rest, size.0))
    ∙ ap₂ (λ (x : List ℕ) (xs : List (List ℕ)). x ∷ xs)
    (ap (λ (n : ℕ). take n all) ended ∙ take-append_seam w rest)
    (ap (λ (n : ℕ). records_of (drop n all)) ended ∙ ap records_of (drop-append_seam w rest)
    ∙ no_other_records ws (λ k l. h (suc k) (omega (arith, l))))
  where
    rest : List ℕ
    rest = chain (length ws) (record_at ws)

    all : List ℕ
    all = w ++ rest

    size : (12 ≤ length w) × (field w 0 4 ≡ length w)
    size = sized w (h 0 (omega arith))

    says : field all 0 4 ≡ length w
    says =
        sym (field-take (length w) all 0 4 (omega (arith, size.0)))
        ∙ ap (λ (l : List ℕ). field l 0 4) (take-append_seam w rest)
        ∙ size.1

    ended : record_end all ≡ length w
    ended = ⊎_elim
        (λ e. e.1 ∙ says)
        (λ e. absurd (e.0 (omega (arith, says, size.0), omega (arith, says, length-append w rest))))
        (ends all)

-- ---- the answer

pub files_are_chosen : FilesAreChosen
files_are_chosen f = record {
  chosen = λ x e. ((one_stands (records_of f)).0 x.index).0 (chosen_part f x e).stands;
  offset = λ x e. (chosen_part f x e).offset;
  size = λ x e. (chosen_part f x e).size;
  bytes = λ x e. (chosen_part f x e).bytes;
  in_file = λ x e. (chosen_part f x e).bytes ∙ (chosen_part f x e).lies;
  turned_away = λ x e. ((one_stands (records_of f)).1 x).0 (chosen-nothing f x e).0;
  nothing = λ x e. (chosen-nothing f x e).1;
}

-- ---- the number that is out of the book

-- records are turned away with 54, 55 or 56
away_other : (ws : List (List ℕ)) (k number : ℕ) → TurnedAway ws k number → ¬ (number ≡ retired)
away_other ws k number (nothing e _ _) is = omega (arith, e, is)
away_other ws k number (wrapper e _ _) is = omega (arith, e, is)
away_other ws k number (two_series e _ _ _ _ _) is = omega (arith, e, is)
away_other ws k number (other_bytes e _ _ _ _ _ _ _ _) is = omega (arith, e, is)

standing-other : (ws : List (List ℕ)) → AnswerNotRetired (standing ws)
standing-other ws x e = away_other ws x.A x.number (((one_stands ws).1 x).0 e).turned_away

pub wrapped_never : WrappedNever
unfolding pair_answer pair_part
wrapped_never = record {
  kinds = wraps_never_24;
  pair = λ x y. standing-other (both_of x y);
  part_of_pair = λ x y z e.
      standing-other (both_of x y) z (refused-from (λ _. 0) (both_of x y) (standing (both_of x y)) z e);
  file = λ f x e. standing-other (records_of f) x (chosen-nothing f x e).0;
}
