-- `numbers::is_dash` meets its contract: the dash is the figure of which only the sign's bit is set.
-- Assumes nothing.
use Prim.Native.Nat.{suc, ◌-◌}
use native.Mathlib.Decide.{ℕ_discrete}
use native.Mathlib.Omega.{arith}
use mathlib.Core.Path.{◌≡◌, sym, ◌∙◌}
use lib.Dec.{eqb}
use lib.IntN.{ℤ, pos, negsuc}
use mir.Syntax.{w32}
use mir.Val.{SFits, of_z}
use borrow.Author.Tests.{eq-eqb, ne_eqb}
use Rattle.schedule.specs.Report.{is_dash}
use Rattle.numbers.proofs.is_dash.Goals as goal

dash-is : (z : ℤ) → SFits w32 z → eqb (of_z w32 z) 2147483648 ≡ is_dash z
dash-is (pos n) fits = ne_eqb n 2147483648 (λ (e : n ≡ 2147483648). omega (arith, fits.sfits))
dash-is (negsuc n) fits =
    elim (ℕ_discrete n 2147483647) [
      | yes e ↦ eq-eqb (4294967296 - suc n) 2147483648 (omega arith) ∙ sym (eq-eqb n 2147483647 e)
      | no e ↦
          ne_eqb (4294967296 - suc n) 2147483648 (λ (d : 4294967296 - suc n ≡ 2147483648). e (omega arith))
          ∙ sym (ne_eqb n 2147483647 e)
    ]

pub returns : goal.returns
returns c = dash-is c.args.figure c.ranges.figure
