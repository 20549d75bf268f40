-- `checks::page::Page::breaking` meets its contract, rule by rule.
-- Assumes nothing.
use mathlib.Core.Path.{refl, ap, ◌∙◌}
use Rattle.schedule.specs.Model.{model}
use Rattle.schedule.specs.Plan.{plan}
use Rattle.schedule.specs.Timing.{deadline_rule}
use Rattle.schedule.specs.Checks.{rule21, rule22, rule23, rule27}
use Rattle.records.specs.declared.model.ActivityRow.{ActivityRow}
use Rattle.records.specs.declared.plan.Span.{Span}
use Rattle.records.specs.Rows.{activity_row_of, span_of}
use Rattle.laws.proofs.Steps.{zeros_at}
use Rattle.checks.proofs.ActivityLaws.{flagged, count-test, eligible-test, temporal_mask, data_mask}
use Rattle.checks.proofs.page.Page.breaking.Goals as goal

pub returns-in-Window : goal.returns-in-Window
unfolding rule21
returns-in-Window c =
    let x = c.args in
    rw c.in-Window.is
    (flagged (rule21 (model x.self.now.s.now) (plan x.self.now.r.now)) x.a.0 _ _ refl c.flag.ensures c.window_holds.ensures)

pub returns-in-Count : goal.returns-in-Count
unfolding rule22
returns-in-Count c =
    let x = c.args in
    let m = model x.self.now.s.now in
    let p = plan x.self.now.r.now in
    let tables = c.args.self.now.counted.tabulated in
    rw c.in-Count.is
    (flagged (rule22 m p) x.a.0 _ _ refl c.flag-in-Count.ensures
    (count-test m p x.a.0 _ _ c.count_holds.ensures (tables.count_ticks x.a.0 c.requires)))

pub returns-in-Deadline : goal.returns-in-Deadline
unfolding rule23 deadline_rule
returns-in-Deadline c =
    let x = c.args in
    rw c.in-Deadline.is
    (flagged (rule23 (model x.self.now.s.now) (plan x.self.now.r.now)) x.a.0 _ _ refl c.flag-in-Deadline.ensures
    c.deadline_holds.ensures)

pub returns-in-Temporal : goal.returns-in-Temporal
unfolding activity_row_of span_of
returns-in-Temporal c =
    let x = c.args in
    let tables = c.args.self.now.counted.tabulated in
    rw c.in-Temporal.is
    (c.early_mask.ensures
    ∙ temporal_mask (model x.self.now.s.now) (plan x.self.now.r.now) _ _ x.a.0 _ _ _
    (ap (λ (y : ActivityRow). y.temporal_mask) c.activity_row.ensures)
    (ap (λ (y : Span). y.start) c.activity_row-span.ensures)
    refl tables.end_ticks tables.delay_ticks)

pub returns-in-Data : goal.returns-in-Data
unfolding activity_row_of span_of
returns-in-Data c =
    let x = c.args in
    let tables = c.args.self.now.counted.tabulated in
    rw c.in-Data.is
    (c.early_mask-in-Data.ensures
    ∙ data_mask (model x.self.now.s.now) (plan x.self.now.r.now) _ _ x.a.0 _ _ _
    (ap (λ (y : ActivityRow). y.data_mask) c.activity_row-in-Data.ensures)
    (ap (λ (y : Span). y.start) c.activity_row-span.ensures)
    refl tables.end_ticks (zeros_at 32))

pub returns-in-Eligible : goal.returns-in-Eligible
unfolding rule27 span_of
returns-in-Eligible c =
    let x = c.args in
    let m = model x.self.now.s.now in
    let p = plan x.self.now.r.now in
    let tables = c.args.self.now.counted.tabulated in
    rw c.in-Eligible.is
    (flagged (rule27 m p) x.a.0 _ _ refl c.flag-in-Eligible.ensures
    (eligible-test m p x.a.0 _ _ _ _ c.saturating_sub-efe.ensures
    (ap (λ (y : Span). y.start) c.activity_row-span.ensures)
    (tables.count_ticks x.a.0 c.requires) (tables.finish_ticks x.a.0 c.requires)))
