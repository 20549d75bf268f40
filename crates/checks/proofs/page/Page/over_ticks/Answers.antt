use Prim.Native.Nat.{ℕ, ◌+◌}
use native.Mathlib.Omega.{arith}
use mathlib.Core.Option.{some}
use mathlib.Core.Path.{◌≡◌, sym, subst, ap, ◌∙◌}
use Rattle.schedule.specs.declared.RuleRefusal.{RuleRefusal}
use Rattle.schedule.specs.Model.{model}
use Rattle.schedule.specs.Plan.{plan}
use Rattle.laws.proofs.RowLaws.{ClearTo, clear-start, clear_again, clear-end, clear-stop}
use Rattle.laws.proofs.Sound.{rule-number}
use Rattle.laws.proofs.PlanBytes.{word_read}
use Rattle.ticks.proofs.KeptLaws.{stands_unknown, stands_on}
use Rattle.ticks.specs.Kept.{Stands}
use Rattle.checks.specs.Windows.{open_of}
use Rattle.checks.specs.Ticks.{tick_rule}
use Rattle.checks.proofs.TickLaws.{nothing-shown, tick_read, tick-shape}
use Rattle.checks.proofs.MaskRow.{row_stops, row_goes_on}
use Rattle.checks.proofs.SizesRead.{read_activities, read_cores, read_horizon}
use Rattle.checks.proofs.page.Page.over_ticks.Goals as goal

pub invariant_of-windows : goal.invariant_of-windows
invariant_of-windows c =
    record { few = omega (arith, read_activities _ c.counts-sizes.ensures, c.args.self.now.counted.tabulated.few) }

pub loop-t-init : goal.loop-t-init
loop-t-init c =
    let x = c.args in (
      clear-start _,
      stands_unknown _ _ _ c.unknown-waitable.ensures,
      nothing-shown x.rule x.self.now.widths c.outranked_by.result x.self.now.tables.now.befores c.counts-sizes.result.cores,
    )

pub at-waitable-requires : goal.at-waitable-requires
at-waitable-requires c =
    let t = c.args.self.now.tables.now in
    let l = c.loop-t in
    subst (λ (k : ℕ). Stands (open_of k t.froms t.ends) l.waitable l.t)
    (sym (read_activities _ c.counts-sizes.ensures)) l.invariant.1

pub returns-in-Some : goal.returns-in-Some
returns-in-Some c =
    let l = c.loop-t in
    let x = c.args in
    let m = model x.self.now.s.now in
    let p = plan x.self.now.r.now in
    let sizes = c.counts-sizes.ensures in
    let mask =
    tick_read x.rule m p x.self.now.tables.now _ x.self.now.counted.tabulated c.outranked_by.ensures
    x.self.now.narrow l.t _ _ _ _ x.self.now.widths c.word.type_inv
    (word_read x.self.now.r.now _ l.t _ c.words-grid.ensures.0 c.word.ensures)
    (read_cores _ sizes) x.self.now.widths_read c.at-waitable.ensures.0 (read_activities _ sizes) in
    let few = (tick-shape x.rule m p).1 c.args.self.now.counted.tabulated.few in
    let place = c.in-Some.ensures in
    c.refused.ensures
    ∙ ap (λ (k : ℕ). some (record { number = k; A = l.t; B = c.in-Some.b }))
    (rule-number m p (RuleRefusal.Tick x.rule))
    ∙ sym (clear-stop (tick_rule x.rule m p) l.t _ l.invariant.0
    (omega (arith, (tick-shape x.rule m p).0, read_horizon _ sizes, c.loop-t-test.true))
    (row_stops (tick_rule x.rule m p) l.t _ _ few mask place.1 place.0))

pub loop-t-preserved : goal.loop-t-preserved
loop-t-preserved c =
    let l = c.loop-t in
    let x = c.args in
    let m = model x.self.now.s.now in
    let p = plan x.self.now.r.now in
    let sizes = c.counts-sizes.ensures in
    let mask =
    tick_read x.rule m p x.self.now.tables.now _ x.self.now.counted.tabulated c.outranked_by.ensures
    x.self.now.narrow l.t _ _ _ _ x.self.now.widths c.word.type_inv
    (word_read x.self.now.r.now _ l.t _ c.words-grid.ensures.0 c.word.ensures)
    (read_cores _ sizes) x.self.now.widths_read c.at-waitable.ensures.0 (read_activities _ sizes) in
    let few = (tick-shape x.rule m p).1 c.args.self.now.counted.tabulated.few in (
      clear_again (tick_rule x.rule m p) l.t l.invariant.0
          (row_goes_on (tick_rule x.rule m p) l.t _ few mask c.in_default.ensures),
      subst (λ (k : ℕ). Stands (open_of k x.self.now.tables.now.froms x.self.now.tables.now.ends) c.at-waitable.result (l.t + 1))
          (read_activities _ sizes) (stands_on _ _ _ c.at-waitable.ensures.1),
      c.in_default.ensures,
    )

pub returns : goal.returns
returns c =
    let x = c.args in
    let r = tick_rule x.rule (model x.self.now.s.now) (plan x.self.now.r.now) in
    let whole : c.loop-t.t ≡ r.rows = omega (
      arith,
      (tick-shape x.rule (model x.self.now.s.now) (plan x.self.now.r.now)).0,
      read_horizon _ c.counts-sizes.ensures,
    ) in
    sym (clear-end r (subst (ClearTo r) whole c.loop-t.invariant.0))
