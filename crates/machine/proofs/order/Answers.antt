use native.Mathlib.Omega.{arith}
use mathlib.Core.Path.{◌≡◌, subst, ap}
use Rattle.schedule.specs.Model.{model}
use Rattle.records.specs.declared.model.Sizes.{Sizes}
use Rattle.records.specs.Rows.{sizes_of}
use Rattle.machine.proofs.OrderLaws.{ones_place, Placed, placed-none, placed_next, placed-all}
use Rattle.machine.proofs.order.Goals as goal

pub loop-a-init : goal.loop-a-init
loop-a-init c = placed-none _

pub bounds-befores-a : goal.bounds-befores-a
unfolding sizes_of
bounds-befores-a c = omega (arith, ap (λ (y : Sizes). y.activities) c.counts-sizes.ensures)

pub bounds-order-place : goal.bounds-order-place
unfolding sizes_of
bounds-order-place c =
    (ones_place (model _) c.masks-befores.result c.loop-a.a _ c.requires
    (omega (arith, ap (λ (y : Sizes). y.activities) c.counts-sizes.ensures))
    c.masks-befores.ensures c.ones-place.ensures).1

pub bounds-order-place-in-loop-a : goal.bounds-order-place-in-loop-a
unfolding sizes_of
bounds-order-place-in-loop-a c =
    (ones_place (model _) c.masks-befores.result c.loop-a.a _ c.requires
    (omega (arith, ap (λ (y : Sizes). y.activities) c.counts-sizes.ensures))
    c.masks-befores.ensures c.ones-place.ensures).1

pub loop-a-preserved : goal.loop-a-preserved
unfolding sizes_of
loop-a-preserved c =
    let l = c.loop-a in
    let m = model c.args.s.now in
    let n-is = ap (λ (y : Sizes). y.activities) c.counts-sizes.ensures in
    let at = ones_place m c.masks-befores.result l.a c.ones-place.result c.requires
    (omega (arith, n-is)) c.masks-befores.ensures c.ones-place.ensures in
    placed_next m l.a _ _ _ (omega (arith, n-is)) at c.with.ensures l.invariant

pub returns : goal.returns
unfolding sizes_of
returns c =
    let m = model c.args.s.now in
    let l = c.loop-a in
    let whole : l.a ≡ m.activities = omega (arith, ap (λ (y : Sizes). y.activities) c.counts-sizes.ensures) in
    placed-all m _ (subst (λ a. Placed m a l.order) whole l.invariant)
