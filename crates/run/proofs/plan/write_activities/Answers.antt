use native.Mathlib.Omega.{arith}
use mathlib.Core.Path.{◌≡◌, ap, ◌∙◌}
use lib.ListN.{get_or}
use Rattle.schedule.specs.Plan.{plan_thread_row, pair_rows}
use Rattle.fields.specs.Put.{put}
use Rattle.records.proofs.WriteLaws.{pairs_start, pairs_next}
use Rattle.run.proofs.plan.write_activities.Goals as goal

pub loop-a-init : goal.loop-a-init
loop-a-init c = pairs_start _ _ _ _

pub activity_row-row-requires : goal.activity_row-row-requires
activity_row-row-requires c =
    let small = c.requires.2 c.loop-a.a (omega arith) in
    (omega arith, small.0, small.1)

pub loop-a-preserved : goal.loop-a-preserved
loop-a-preserved c =
    let l = c.loop-a in
    let row = c.activity_row-row.ensures in
    pairs_next _ l.a _ _ _ _ _ l.out _ (omega arith) row.0 row.1 l.invariant c.put_activity_row.ensures

pub returns : goal.returns
returns c =
    let x = c.args in
    let whole : c.loop-a.a ≡ x.m = omega arith in
    c.loop-a.invariant
    ∙ ap (λ k.
    put (plan_thread_row x.n) (pair_rows k (λ a. get_or x.starts.now a 0) (λ a. get_or x.ends.now a 0)) x.out.now) whole
