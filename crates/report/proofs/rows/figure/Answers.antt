-- `report::rows::figure` meets its contract: 32 bits hold the figure. Assumes nothing.
use Prim.Native.Nat.{ℕ, ◌<◌}
use native.Mathlib.Omega.{arith}
use mathlib.Core.Path.{◌≡◌, sym, subst, ◌∙◌}
use lib.IntN.{ℤ}
use lib.Signed.{mag}
use mir.Syntax.{w32, w64}
use mir.Val.{SFits, to_z, of_z}
use mir.ValLaws.{to_z-of_z}
use Rattle.schedule.specs.Report.{lateness}
use Rattle.laws.proofs.LatenessLaws.{figure-fits}
use Rattle.report.proofs.rows.figure.Goals as goal

-- what 64 bits hold of a small figure is held by 32
narrow : {z : ℤ} {release period end : ℕ} → z ≡ lateness release period end
    → (release < 65536) × (period < 65536) × (end < 65536)
    → SFits w32 (to_z w64 (of_z w64 z)) × (to_z w32 (of_z w32 (to_z w64 (of_z w64 z))) ≡ lateness release period end)
narrow {z} {release} {period} {end} e h =
    let small : mag z < 2147483648 =
    subst (λ (x : ℤ). mag x < 2147483648) (sym e) (figure-fits release period end h.0 h.1 h.2) in
    let back = to_z-of_z w64 z (record { sfits = omega arith }) in
    let fits : SFits w32 (to_z w64 (of_z w64 z)) = subst (SFits w32) (sym back) (record { sfits = small }) in
    (fits, to_z-of_z w32 _ fits ∙ back ∙ e)

pub overflow_cast-result : goal.overflow_cast-result
overflow_cast-result c = (narrow c.lateness.ensures c.requires).0

pub returns : goal.returns
returns c = (narrow c.lateness.ensures c.requires).1
