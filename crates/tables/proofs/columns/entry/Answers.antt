-- `tables::columns::entry` meets its contract: the entry of each column, looked up by the activity or by its thread.
-- Assumes nothing.
use mathlib.Core.Path.{ap, ◌∙◌}
use Rattle.schedule.specs.Bounded.{bit}
use Rattle.schedule.specs.Choice.{choice}
use Rattle.schedule.specs.Model.{model}
use Rattle.records.specs.Rows.{thread_row_of, activity_row_of, timing, span_of}
use Rattle.records.specs.declared.model.ActivityRow.{ActivityRow}
use Rattle.records.specs.declared.model.ThreadRow.{ThreadRow}
use Rattle.records.specs.declared.plan.Span.{Span}
use Rattle.records.specs.declared.plan.Timing.{Timing}
use Rattle.tables.specs.Columns.{among_activities}
use Rattle.tables.proofs.columns.entry.Goals as goal

pub returns-in-Delay : goal.returns-in-Delay
unfolding activity_row_of
returns-in-Delay c =
    rw c.in-Delay.is
    (c.from.ensures ∙ ap (λ (r : ActivityRow). r.delay) c.activity_row.ensures)

pub returns-in-Temporal : goal.returns-in-Temporal
unfolding activity_row_of
returns-in-Temporal c =
    let x = c.args in
    rw c.in-Temporal.is
    (c.among.ensures
    ∙ ap (λ (r : ActivityRow). among_activities (model x.s.now) (bit r.temporal_mask)) c.activity_row-in-Temporal.ensures)

pub returns-in-ByData : goal.returns-in-ByData
unfolding activity_row_of
returns-in-ByData c =
    let x = c.args in
    rw c.in-ByData.is
    (c.among-in-ByData.ensures
    ∙ ap (λ (r : ActivityRow). among_activities (model x.s.now) (bit r.data_mask)) c.activity_row-in-ByData.ensures)

pub returns-in-Width : goal.returns-in-Width
returns-in-Width c = rw c.in-Width.is (c.from-in-Width.ensures ∙ c.width.ensures)

pub returns-in-Priority : goal.returns-in-Priority
unfolding thread_row_of
returns-in-Priority c =
    let x = c.args in
    rw c.in-Priority.is
    (c.from-in-Priority.ensures
    ∙ ap (λ (r : ThreadRow). r.priority) c.thread_row.ensures
    ∙ ap (model x.s.now).priority c.owner.ensures)

pub returns-in-ChosenRelease : goal.returns-in-ChosenRelease
unfolding timing
returns-in-ChosenRelease c =
    let x = c.args in
    rw c.in-ChosenRelease.is
    (c.from-in-ChosenRelease.ensures
    ∙ ap (λ (r : Timing). r.release) c.thread_row-in-ChosenRelease.ensures
    ∙ ap (choice x.second.now).release c.owner-in-ChosenRelease.ensures)

pub returns-in-ChosenPeriod : goal.returns-in-ChosenPeriod
unfolding timing
returns-in-ChosenPeriod c =
    let x = c.args in
    rw c.in-ChosenPeriod.is
    (c.from-in-ChosenPeriod.ensures
    ∙ ap (λ (r : Timing). r.period) c.thread_row-in-ChosenPeriod.ensures
    ∙ ap (choice x.second.now).period c.owner-in-ChosenPeriod.ensures)

pub returns-in-ChosenDuration : goal.returns-in-ChosenDuration
returns-in-ChosenDuration c = rw c.in-ChosenDuration.is (c.from-in-ChosenDuration.ensures ∙ c.duration.ensures)

pub returns-in-PlanStart : goal.returns-in-PlanStart
unfolding span_of
returns-in-PlanStart c =
    rw c.in-PlanStart.is
    (c.from-in-PlanStart.ensures ∙ ap (λ (r : Span). r.start) c.activity_row-in-PlanStart.ensures)

pub returns-in-PlanEnd : goal.returns-in-PlanEnd
unfolding span_of
returns-in-PlanEnd c =
    rw c.in-PlanEnd.is
    (c.from-in-PlanEnd.ensures ∙ ap (λ (r : Span). r.end) c.activity_row-in-PlanEnd.ensures)
