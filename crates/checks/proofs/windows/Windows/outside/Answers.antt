use native.Mathlib.Omega.{arith}
use Prim.Native.Nat.{ℕ}
use mathlib.Core.Bool.{◌&&◌, not}
use mathlib.Core.Path.{◌≡◌, ap, ◌∙◌}
use lib.Bits.{bit_or}
use lib.Dec.{leb, ltb}
use lib.ListN.{get_or}
use Rattle.schedule.specs.Bounded.{all, bit, ◌⇒◌}
use Rattle.schedule.specs.Plan.{plan, active}
use Rattle.laws.proofs.PlanBytes.{word_read}
use Rattle.ticks.proofs.KeptLaws.{stands_unknown, stands_on}
use Rattle.checks.specs.Windows.{without}
use Rattle.checks.proofs.WindowLaws.{stray_start, stray_next, without_and}
use Rattle.checks.proofs.windows.Windows.outside.Goals as goal

pub loop-t-init : goal.loop-t-init
loop-t-init c = (stands_unknown _ _ _ c.unknown-opened.ensures, λ a l. stray_start a _)

pub loop-t-preserved : goal.loop-t-preserved
loop-t-preserved c =
    let l = c.loop-t in
    let x = c.args in
    let at = c.at-opened in
    let word = word_read x.r.now _ l.t _ c.words-grid.ensures.0 c.word.ensures in (
      stands_on _ _ _ at.ensures.1,
      λ a h. ap (λ (w : ℕ). bit (bit_or l.strays w) a)
          (without_and c.word.result at.result.word (omega arith) (omega arith) ∙ ap (λ (w : ℕ). without w at.result.word) word)
          ∙ stray_next x.self.now.n x.self.now.froms.now x.self.now.ends.now (λ v. (plan x.r.now).word v) l.t _ _
          x.self.now.few at.ensures.0 a h (l.invariant.1 a h),
    )

pub returns : goal.returns
returns c =
    let l = c.loop-t in
    let x = c.args in
    let whole : l.t ≡ x.horizon = omega arith in
    λ a h. l.invariant.1 a h
    ∙ ap (λ k.
    not (all k (λ v. active (plan x.r.now) v a ⇒ (leb (get_or x.self.now.froms.now a 0) v && ltb v (get_or x.self.now.ends.now a 0))))) whole
