use Prim.Native.Nat.{ℕ, ◌*◌, ◌+◌, ◌^◌, min}
use native.Mathlib.Omega.{arith}
use mathlib.Core.Path.{◌≡◌, refl, sym, ap, ap₂, ◌∙◌}
use lib.Bits.{bit_and}
use mathlib.Core.List.{List}
use lib.ListN.{get_or, take}
use lib.Seq.{length-take-le, get_or-take}
use Rattle.laws.proofs.Sums.{total_ext}
use Rattle.schedule.specs.Bounded.{ones, total}
use Rattle.laws.proofs.Steps.{total_next, total-start}
use Rattle.tables.proofs.LoadLaws.{doubled, worth_small, few-times, by_digits}
use Rattle.tables.proofs.loads.load.Goals as goal

pub loop-plane-init : goal.loop-plane-init
loop-plane-init c = (refl, omega arith, sym (total-start _))

pub overflow_mul-sum : goal.overflow_mul-sum
overflow_mul-sum c =
    let l = c.loop-plane in
    let planes = length-take-le c.min-depth.result c.args.widths.planes (omega (arith, c.min-depth.ensures)) in
    record {
      fits = omega (
        arith,
        few-times _ c.ones.result l.worth c.ones.ensures,
        l.invariant.0,
        worth_small l.plane-index (omega (arith, planes, c.min-depth.ensures)),
      );
    }

pub overflow_add-sum : goal.overflow_add-sum
overflow_add-sum c =
    let l = c.loop-plane in
    let planes = length-take-le c.min-depth.result c.args.widths.planes (omega (arith, c.min-depth.ensures)) in
    omega (
      arith,
      few-times _ c.ones.result l.worth c.ones.ensures,
      l.invariant.0,
      l.invariant.1,
      worth_small l.plane-index (omega (arith, planes, c.min-depth.ensures)),
    )

pub loop-plane-preserved : goal.loop-plane-preserved
loop-plane-preserved c = let l = c.loop-plane in (
  ap (λ (w : ℕ). 2 * w) l.invariant.0 ∙ doubled l.plane-index,
  omega (arith, few-times _ c.ones.result l.worth c.ones.ensures, l.invariant.1),
  ap₂ ◌+◌ l.invariant.2 (ap₂ ◌*◌ c.ones.ensures l.invariant.0) ∙ sym (total_next l.plane-index _),
)

pub returns : goal.returns
returns c =
    let l = c.loop-plane in
    let x = c.args in
    let depth : ℕ = min x.widths.depth 8 in
    let planes : List ℕ = x.widths.planes in
    let whole : l.plane-index ≡ depth =
    omega (arith, c.min-depth.ensures, length-take-le c.min-depth.result planes (omega (arith, c.min-depth.ensures))) in
    l.invariant.2
    ∙ ap (λ k. total k (λ i. ones (bit_and x.word (get_or (take c.min-depth.result planes) i 0)) * 2 ^ i)) whole
    ∙ total_ext depth _ _ (λ i k.
    ap (λ (w : ℕ). ones (bit_and x.word w) * 2 ^ i) (get_or-take c.min-depth.result planes i 0 (omega arith)))
    ∙ by_digits x.widths x.word
