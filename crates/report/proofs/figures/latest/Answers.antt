use Prim.Native.Nat.{ℕ, max}
use mathlib.Core.Path.{sym, ap, ◌∙◌}
use lib.ListN.{get_or}
use Rattle.laws.proofs.Steps.{greatest_next, greatest-start}
use Rattle.report.proofs.figures.latest.Goals as goal

pub loop-end-init : goal.loop-end-init
loop-end-init c = sym (greatest-start _)

pub loop-end-preserved : goal.loop-end-preserved
loop-end-preserved c =
    let l = c.loop-end in
    let f : ℕ → ℕ = λ i. get_or c.args.ends.now i 0 in
    c.max-latest.ensures ∙ ap (λ (x : ℕ). max x (f l.end-index)) l.invariant ∙ sym (greatest_next l.end-index f)
