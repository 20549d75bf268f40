-- The cut lies within the bytes, and the parts before and behind it are the two records.
-- Assumes nothing.
use Prim.Native.Nat.{ℕ, ◌-◌, ◌≤◌}
use native.Mathlib.Omega.{arith}
use mathlib.Core.Bool.{Bool, true, false, cond}
use mathlib.Core.List.{List, []}
use mathlib.Core.Path.{◌≡◌, refl, sym, ap, ◌∙◌}
use lib.Dec.{T, leb, leb→le}
use lib.ListN.{length, take, drop, length-drop}
use lib.Seq.{take_all, take-length, drop-length, length-take-le}
use Rattle.laws.proofs.Tests.{T_and}
use Rattle.schedule.specs.Fields.{field}
use Rattle.schedule.specs.Streams.{splits, first_record, second_record}
use Rattle.streams.specs.Cut.{cut}

either_le : (b : Bool) (k n : ℕ) → (T b → k ≤ n) → cond b k n ≤ n
either_le true k n h = h tt
either_le false k n h = omega arith

pub cut_le : (s : List ℕ) → cut s ≤ length s
unfolding cut splits
cut_le s =
    either_le (splits s) (field s 0 4) (length s) (λ t.
    leb→le (field s 0 4) (length s) ((T_and (leb 4 (length s)) (leb (field s 0 4) (length s))).0 t).1)

take_either : (b : Bool) (k : ℕ) (s : List ℕ) → take (cond b k (length s)) s ≡ cond b (take k s) s
take_either true k s = refl
take_either false k s = take-length s

drop_either : (b : Bool) (k : ℕ) (s : List ℕ) → drop (cond b k (length s)) s ≡ cond b (drop k s) []
drop_either true k s = refl
drop_either false k s = drop-length s

pub take-cut : (s : List ℕ) → take (cut s) s ≡ first_record s
unfolding cut first_record
take-cut s = take_either (splits s) (field s 0 4) s

-- a part to the end is given with its length
pub drop-cut : (s : List ℕ) → take (length s - cut s) (drop (cut s) s) ≡ second_record s
unfolding cut second_record
drop-cut s =
    take_all (length s - cut s) (drop (cut s) s) (omega (arith, length-drop (cut s) s))
    ∙ drop_either (splits s) (field s 0 4) s

-- the second record begins behind as many bytes as the first one has
pub cut-length : (s : List ℕ) → cut s ≡ length (first_record s)
cut-length s = sym (ap length (sym (take-cut s)) ∙ length-take-le (cut s) s (cut_le s))
