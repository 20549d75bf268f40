-- What is stored behind others leaves the bytes behind it alone; and a read behind others takes from the reader what comes to
-- stand behind them. Assumes nothing.
use Rattle.std.proofs.Common.{ℕ, ◌+◌, ◌-◌, ◌≤◌, ◌≡◌, ◌++◌, List, length, drop, take, sym, ap, subst, ◌∙◌, arith}
use Rattle.std.specs.Prelude.{Option, Result}
use Rattle.std.proofs.Math.Seq.{take-add}
use Rattle.std.proofs.lemmas.List.{drop-drop}
use Rattle.std.proofs.KnownBytes.{Consumes-trans}
use Rattle.std.specs.Io.KnownBytes.{Consumes}
use Rattle.input.specs.declared.FillError.{FillError}
use Rattle.input.specs.Filled.{came, Filled, FilledFrom}

-- what is the same from a position on is the same from a later one on
drop-later : (a b : List ℕ) (k n : ℕ) → k ≤ n → drop k a ≡ drop k b → drop n a ≡ drop n b
drop-later a b k n h e =
    let sum : k + (n - k) ≡ n = omega arith in
    ap (λ (i : ℕ). drop i a) (sym sum)
    ∙ sym (drop-drop (n - k) k a)
    ∙ ap (drop (n - k)) e
    ∙ drop-drop (n - k) k b
    ∙ ap (λ (i : ℕ). drop i b) sum

-- a read behind others leaves the bytes behind all of them as they were at first
pub filled-after : (done : ℕ) (r : Result ℕ FillError) (old mid new : List ℕ) → length mid ≡ length old → drop done mid ≡ drop done old
    → FilledFrom done r mid new → Filled r old new
filled-after done r old mid new same e h = (
  omega (arith, h.filled.0),
  h.filled.1 ∙ drop-later mid old done (came r) h.more e,
)

-- and takes from the reader the bytes that come to stand behind those that came
pub consumed-after : (a b c : Option (List ℕ)) (done n : ℕ) (mid new : List ℕ) → done ≤ n → take done new ≡ take done mid
    → Consumes a b (take done mid) → Consumes b c (take (n - done) (drop done new)) → Consumes a c (take n new)
consumed-after a b c done n mid new h front first second =
    let sum : done + (n - done) ≡ n = omega arith in
    let split : take n new ≡ take done mid ++ take (n - done) (drop done new)
    = ap (λ (i : ℕ). take i new) (sym sum)
    ∙ take-add done (n - done) new
    ∙ ap (λ (l : List ℕ). l ++ take (n - done) (drop done new)) front in
    subst (Consumes a c) (sym split) (Consumes-trans a b c _ _ first second)
