-- How many bytes were printed lies within the buffer, and a text that fits is printed whole, for the programs that write it
-- out.
-- Assumes nothing.
use Prim.Native.Nat.{ℕ, ◌≤◌}
use native.Mathlib.Omega.{arith}
use mathlib.Core.Bool.{Bool, true, false, cond}
use mathlib.Core.List.{List, ◌++◌}
use mathlib.Core.Path.{◌≡◌, refl, ap, subst, ◌∙◌}
use lib.Dec.{T, leb, leb→le}
use lib.ListN.{length, take, drop}
use lib.Seq.{take_at}
use borrow.Author.Tests.{le-leb}
use Rattle.text.specs.Printed.{Printed, leaves, printed}

-- the count lies within the buffer
either_le : (b : Bool) (text old : List ℕ) → (T b → length text ≤ length old)
    → (cond b (leaves (length text) (text ++ drop (length text) old)) (leaves 0 old)).count ≤ length old
either_le true text old h = h tt
either_le false text old h = omega arith

pub printed_le : (text old : List ℕ) {r : ℕ} {new : List ℕ} → leaves r new ≡ printed text old → r ≤ length old
unfolding printed
printed_le text old e =
    rw (ap (λ (p : Printed). p.count) e) (either_le (leb (length text) (length old)) text old (leb→le (length text) (length old)))

-- a text that fits is printed whole: the count is its length, and so many bytes of the buffer are the text
pub printed-fits : (text old : List ℕ) {r : ℕ} {new : List ℕ} → length text ≤ length old → leaves r new ≡ printed text old
    → (r ≡ length text) × (take r new ≡ text)
unfolding printed
printed-fits text old {r} {new} h e =
    let whole : leaves r new ≡ leaves (length text) (text ++ drop (length text) old) =
    e ∙ simp (le-leb (length text) (length old) h) in
    let count : r ≡ length text = ap (λ (p : Printed). p.count) whole in
    let buffer : new ≡ text ++ drop (length text) old = ap (λ (p : Printed). p.buffer) whole in (
      count,
      ap (λ (b : List ℕ). take r b) buffer
          ∙ ap (λ (n : ℕ). take n (text ++ drop (length text) old)) count
          ∙ take_at text (drop (length text) old) (length text) refl,
    )

-- what is printed of some bytes is printed of equal ones
pub printed_of : (f : List ℕ → List ℕ) {s s' : List ℕ} (r : ℕ) (new : List ℕ) → s ≡ s'
    → (r ≡ length (f s)) × (take r new ≡ f s) → (r ≡ length (f s')) × (take r new ≡ f s')
printed_of f r new e h = subst (λ (x : List ℕ). (r ≡ length (f x)) × (take r new ≡ f x)) e h
