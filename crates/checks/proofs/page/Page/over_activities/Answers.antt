use Prim.Native.Nat.{ℕ}
use native.Mathlib.Omega.{arith}
use mathlib.Core.Option.{some}
use mathlib.Core.Path.{◌≡◌, sym, subst, ap, ◌∙◌}
use Rattle.schedule.specs.declared.RuleRefusal.{RuleRefusal}
use Rattle.schedule.specs.Model.{model}
use Rattle.schedule.specs.Plan.{plan}
use Rattle.laws.proofs.RowLaws.{ClearTo, clear-start, clear_again, clear-end, clear-stop}
use Rattle.laws.proofs.Sound.{rule-number}
use Rattle.checks.specs.Rules.{activity_rule}
use Rattle.checks.proofs.ActivityLaws.{activity-shape}
use Rattle.checks.proofs.MaskRow.{row_stops, row_goes_on}
use Rattle.checks.proofs.SizesRead.{read_activities}
use Rattle.checks.proofs.page.Page.over_activities.Goals as goal

pub loop-number-init : goal.loop-number-init
loop-number-init c = clear-start _

pub breaking-places-requires : goal.breaking-places-requires
breaking-places-requires c =
    omega (arith, c.loop-number-test.true, read_activities _ c.counts-sizes.ensures)

pub returns-in-Some : goal.returns-in-Some
returns-in-Some c =
    let x = c.args in
    let l = c.loop-number in
    let m = model x.self.now.s.now in
    let p = plan x.self.now.r.now in
    let place = c.in-Some.ensures in
    c.refused.ensures
    ∙ ap (λ (k : ℕ). some (record { number = k; A = l.number; B = c.in-Some.b }))
    (rule-number m p (RuleRefusal.Activity x.rule))
    ∙ sym (clear-stop (activity_rule x.rule m p) l.number _ l.invariant
    (omega (arith, (activity-shape x.rule m p).0, read_activities _ c.counts-sizes.ensures, c.loop-number-test.true))
    (row_stops (activity_rule x.rule m p) l.number _ _ ((activity-shape x.rule m p).1 c.args.self.now.counted.tabulated.few)
    c.breaking-places.ensures place.1 place.0))

pub loop-number-preserved : goal.loop-number-preserved
loop-number-preserved c =
    let x = c.args in
    let l = c.loop-number in
    let m = model x.self.now.s.now in
    let p = plan x.self.now.r.now in
    clear_again (activity_rule x.rule m p) l.number l.invariant
    (row_goes_on (activity_rule x.rule m p) l.number _ ((activity-shape x.rule m p).1 c.args.self.now.counted.tabulated.few)
    c.breaking-places.ensures c.in_default.ensures)

pub returns : goal.returns
returns c =
    let x = c.args in
    let r = activity_rule x.rule (model x.self.now.s.now) (plan x.self.now.r.now) in
    let whole : c.loop-number.number ≡ r.rows = omega (
      arith,
      (activity-shape x.rule (model x.self.now.s.now) (plan x.self.now.r.now)).0,
      read_activities _ c.counts-sizes.ensures,
    ) in
    sym (clear-end r (subst (ClearTo r) whole c.loop-number.invariant))
