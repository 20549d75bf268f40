use Prim.Native.Nat.{ℕ, ◌*◌, ◌^◌}
use native.Mathlib.Omega.{arith}
use mathlib.Core.Path.{refl, ap, ◌∙◌}
use lib.Dec.{ltb, ltb→lt, lt→ltb}
use Rattle.laws.proofs.Lowest.{clear_none, clear-more, found_here, found_none}
use Rattle.tables.proofs.LoadLaws.{doubled, worth_small}
use Rattle.tables.proofs.loads.digits.Goals as goal

pub loop-d-init : goal.loop-d-init
loop-d-init c = (refl, clear_none (λ i. ltb c.args.x (2 ^ i)))

pub returns-then-x-power : goal.returns-then-x-power
returns-then-x-power c =
    let l = c.loop-d in
    let x = c.args.x in
    found_here 8 (λ i. ltb x (2 ^ i)) l.d (ltb x l.power) (omega arith) l.invariant.1 (ap (λ (w : ℕ). ltb x w) l.invariant.0)
    (lt→ltb x l.power c.if-x-power.true)

pub overflow_mul-power : goal.overflow_mul-power
overflow_mul-power c = let l = c.loop-d in record { fits = omega (arith, l.invariant.0, worth_small l.d (omega arith)) }

pub loop-d-preserved : goal.loop-d-preserved
loop-d-preserved c =
    let l = c.loop-d in
    let x = c.args.x in (
      ap (λ (w : ℕ). 2 * w) l.invariant.0 ∙ doubled l.d,
      clear-more (λ i. ltb x (2 ^ i)) l.d (ltb x l.power) l.invariant.1 (ap (λ (w : ℕ). ltb x w) l.invariant.0)
          (λ t. omega (arith, ltb→lt x l.power t, c.if-x-power.false)),
    )

pub returns : goal.returns
returns c =
    let l = c.loop-d in
    omega (
      arith,
      found_none 8 (λ i. ltb c.args.x (2 ^ i)) l.d (omega arith) (omega arith) l.invariant.1,
    )
