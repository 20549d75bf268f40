use native.Mathlib.Omega.{arith}
use Rattle.run.proofs.StartLaws.{seen_start, seen_next, seen_end}
use Rattle.run.proofs.plan.starts.Goals as goal

pub loop-t-init : goal.loop-t-init
loop-t-init c = seen_start _ _

pub loop-t-preserved : goal.loop-t-preserved
loop-t-preserved c =
    let l = c.loop-t in
    seen_next _ _ l.t l.seen _ _ _ l.invariant c.loop-t-test.true c.word-word.type_inv c.word-word.ensures c.enter.ensures

pub returns : goal.returns
returns c =
    let l = c.loop-t in
    seen_end _ _ l.t l.seen l.firsts (omega arith) l.invariant
