-- `checks::windows::Windows::at` meets its contract: what is known stands, or is made anew. Assumes nothing.
use native.Mathlib.Omega.{arith}
use mathlib.Core.Path.{sym, subst, ◌∙◌}
use lib.Dec.{T}
use Rattle.laws.proofs.Tests.{T_ltb}
use Rattle.checks.proofs.WindowLaws.{quiet_same}
use Rattle.checks.proofs.windows.Windows.at.Goals as goal

pub returns-then-lasts : goal.returns-then-lasts
returns-then-lasts c =
    let x = c.args in
    let known = c.requires in
    let lasts = (T_ltb x.t x.known.until).0 (subst T (sym c.if-lasts.true ∙ c.lasts.ensures) tt) in
    (sym (known x.t (omega arith) lasts), known)

pub returns : goal.returns
returns c = (c.opened.ensures, λ v h l. quiet_same _ _ _ _ _ v c.next_change.ensures h l ∙ sym c.opened.ensures)
