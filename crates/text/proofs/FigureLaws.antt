-- A signed figure as the machine holds it in 32 bits: its sign, and the row that is printed of it.
-- Assumes nothing.
use Prim.Native.Nat.{ℕ}
use native.Mathlib.Omega.{arith}
use mathlib.Core.Bool.{Bool, true, false}
use mathlib.Core.Path.{◌≡◌, refl, sym, ap, ◌∙◌}
use lib.IntN.{ℤ, pos, negsuc, nat_abs}
use lib.Signed.{lt_z}
use mir.Syntax.{w32}
use mir.Val.{SFits, to_z, of_z}
use mir.ValLaws.{to_z-of_z}
use borrow.Author.Tests.{le-ltb}
use Rattle.schedule.specs.Report.{is_dash}
use Rattle.text.specs.declared.late.Row.TheVariants.{Dash, Figure}
use Rattle.text.specs.Rows.{is_negative, row_of}

below-zero : (z : ℤ) → lt_z z (pos 0) ≡ is_negative z
below-zero (pos n) = le-ltb n 0 (omega arith)
below-zero (negsuc n) = refl

-- the row of a figure, from its bits and from what is said of its dash and its size
module _ (z : ℤ) {dash : Bool} (fits : SFits w32 z) (d : dash ≡ is_dash (to_z w32 (of_z w32 z))) where
  said : {b : Bool} → dash ≡ b → is_dash z ≡ b
  said e = ap is_dash (sym (to_z-of_z w32 z fits)) ∙ sym d ∙ e

  pub dash_is : dash ≡ true → Dash ≡ row_of z
  dash_is e = simp (said e)

  pub figure_is : {size : ℕ} → dash ≡ false → size ≡ nat_abs (to_z w32 (of_z w32 z))
      → Figure (lt_z (to_z w32 (of_z w32 z)) (pos 0)) size ≡ row_of z
  figure_is e s = rw (s, to_z-of_z w32 z fits, below-zero z, said e)
