use Prim.Native.Nat.{ℕ, ◌+◌, ◌*◌}
use native.Mathlib.Omega.{arith}
use mathlib.Core.Path.{◌≡◌, sym, ap, ◌∙◌}
use lib.ListN.{get_or}
use Rattle.laws.proofs.Steps.{total_next, total-start}
use Rattle.report.proofs.ReportLaws.{worth_most}
use Rattle.report.proofs.figures.core_ticks.Goals as goal

pub loop-a-init : goal.loop-a-init
loop-a-init c = record { small = omega arith; sum = sym (total-start _) }

pub overflow_mul-all : goal.overflow_mul-all
overflow_mul-all c =
    let l = c.loop-a in
    record { fits = omega (arith, worth_most _ _ (c.requires.1 l.a (omega arith)) (c.requires.2 l.a (omega arith))) }

pub overflow_add-all : goal.overflow_add-all
overflow_add-all c =
    let l = c.loop-a in
    omega (arith, worth_most _ _ (c.requires.1 l.a (omega arith)) (c.requires.2 l.a (omega arith)))

pub loop-a-preserved : goal.loop-a-preserved
loop-a-preserved c =
    let l = c.loop-a in
    let f : ℕ → ℕ = λ i. get_or c.args.durations.now i 0 * get_or c.args.widths.now i 0 in
    record {
      small = omega (arith, worth_most _ _ (c.requires.1 l.a (omega arith)) (c.requires.2 l.a (omega arith)));
      sum = ap (λ (x : ℕ). x + f l.a) l.invariant.sum ∙ sym (total_next l.a f);
    }

pub returns : goal.returns
returns c =
    let whole : c.loop-a.a ≡ c.args.n = omega arith in
    rw whole at c.loop-a.invariant.sum
