-- What stands in front of the grid, written piece by piece, and the words of the grid read back.
-- Assumes nothing.
use Prim.Native.Nat.{ℕ, ◌-◌, ◌≤◌, ◌<◌}
use native.Mathlib.Nat.{add-zero}
use native.Mathlib.Omega.{arith}
use mathlib.Core.List.{List, [], ◌++◌, append_assoc, append-nil}
use mathlib.Core.Path.{◌≡◌, refl, ap, ap₂, ◌∙◌}
use lib.ListN.{length, take, drop, length-append, length-drop, drop_of_length-le}
use lib.Seq.{take_all}
use borrow.Rule.Slice.PartMut.{put_mid, post_of}
use Rattle.schedule.specs.Bounded.{bit}
use Rattle.schedule.specs.Plan.{plan_thread_row, grid_at, word_in, pair_rows}
use Rattle.laws.proofs.Lowest.{lowest_is}
use Rattle.laws.proofs.PlanBytes.{length_pairs}
use Rattle.fields.specs.Put.{put}
use Rattle.fields.proofs.PutLaws.{put-after, put_part}
use Rattle.records.specs.Writes.{head_bytes}
use Rattle.records.proofs.WriteLaws.{length-head, pairs_ext}
use Rattle.run.specs.Front.{front_bytes, start_in}

-- ---- a lent part

-- the part behind a position, to the end
pub rest-says : (at : ℕ) (l : List ℕ) → take (length l - at) (drop at l) ≡ drop at l
rest-says at l = take_all (length l - at) (drop at l) (omega (arith, length-drop at l))

-- what is put into the part behind a position is put into the whole
pub part_says : (at k : ℕ) (b l g : List ℕ) → at ≤ length l → k ≡ length l - at → g ≡ put 0 b (take k (drop at l))
    → put_mid at k l g ≡ put at b l
part_says at k b l g h e p =
    let rest : length (drop at l) ≤ k = omega (arith, length-drop at l) in
    ap₂ (λ (x y : List ℕ). take at l ++ (x ++ y)) (p ∙ ap (put 0 b) (take_all k (drop at l) rest)) (past rest)
    ∙ ap (λ (x : List ℕ). take at l ++ x) (append-nil (put 0 b (drop at l)))
    ∙ put_part at 0 b l h
    ∙ ap (λ (n : ℕ). put n b l) (add-zero at)
  where
    past : length (drop at l) ≤ k → post_of at k l ≡ []
    past r = drop_of_length-le (drop at l) {i = k} r

-- ---- all that stands in front of the grid

pub front-says : (n m h : ℕ) (release period start end start' : ℕ → ℕ) (l l₁ l₂ l₃ : List ℕ) → grid_at n m ≤ length l
    → ((a : ℕ) → a < m → start' a ≡ start a)
    → l₁ ≡ put 0 (head_bytes n m h) l → l₂ ≡ put (plan_thread_row 0) (pair_rows n release period) l₁
    → l₃ ≡ put (plan_thread_row n) (pair_rows m start' end) l₂
    → l₃ ≡ put 0 (front_bytes n m h release period start end) l
unfolding front_bytes
front-says n m h release period start end start' l l₁ l₂ l₃ room e p₁ p₂ p₃ =
    put-after 0 (plan_thread_row n) (head_bytes n m h ++ pair_rows n release period) (pair_rows m start end) l l₂ l₃
    (omega (arith, length-append (head_bytes n m h) (pair_rows n release period), length-head n m h, length_pairs n release period))
    (omega (arith, length_pairs m start end))
    (put-after 0 (plan_thread_row 0) (head_bytes n m h) (pair_rows n release period) l l₁ l₂ (omega (arith, length-head n m h))
    (omega (arith, length_pairs n release period)) p₁ p₂)
    (p₃ ∙ ap (λ (b : List ℕ). put (plan_thread_row n) b l₂) (pairs_ext m start' end start end e (λ _ _. refl)))
    ∙ ap (λ (b : List ℕ). put 0 b l) (append_assoc (head_bytes n m h) (pair_rows n release period) (pair_rows m start end))

-- ---- the starts

-- a start is no later than H
pub start_le : (grid : List ℕ) (h a : ℕ) → start_in grid h a ≤ h
unfolding start_in
start_le grid h a = (lowest_is h (λ t. bit (word_in grid t) a)).bound
