use native.Mathlib.Omega.{arith}
use mathlib.Core.Path.{sym}
use Rattle.laws.proofs.WordLaws.{mark_next, word-start}
use Rattle.machine.proofs.inputs.Tables.word.Goals as goal

pub loop-a-init : goal.loop-a-init
loop-a-init g c = λ p h. sym (word-start p)

pub loop-a-preserved : goal.loop-a-preserved
loop-a-preserved g c =
    let l = c.loop-a in
    let yes = c.test in
    λ p h.
    rw (c.mark-word.ensures, l.invariant p h)
    (mark_next l.a p yes.result (omega arith) (h l.a yes.result (omega arith) yes.ensures))
