use native.Mathlib.Omega.{arith}
use mathlib.Core.Path.{◌≡◌, ap, ◌∙◌}
use Rattle.schedule.specs.Choice.{choice}
use Rattle.schedule.specs.Plan.{plan_thread_row, pair_rows}
use Rattle.fields.specs.Put.{put}
use Rattle.records.specs.Rows.{timing}
use Rattle.records.specs.declared.plan.Timing.{Timing}
use Rattle.records.proofs.WriteLaws.{pairs_start, pairs_next}
use Rattle.run.proofs.plan.write_threads.Goals as goal

pub loop-j-init : goal.loop-j-init
loop-j-init c = pairs_start _ _ _ _

pub loop-j-preserved : goal.loop-j-preserved
unfolding timing
loop-j-preserved c =
    let l = c.loop-j in
    let row = c.timing_at.ensures in
    pairs_next _ l.j _ _ _ _ _ l.out _ (omega arith) (ap (λ (r : Timing). r.release) row)
    (ap (λ (r : Timing). r.period) row) l.invariant c.put_thread_row.ensures

pub returns : goal.returns
returns c =
    let x = c.args in
    let q = choice x.q.now in
    let whole : c.loop-j.j ≡ x.n = omega arith in
    c.loop-j.invariant ∙ ap (λ k. put (plan_thread_row 0) (pair_rows k q.release q.period) x.out.now) whole
