use mathlib.Core.Path.{sym}
use Rattle.laws.proofs.Steps.{greatest_next, greatest-start}
use Rattle.tables.proofs.each.greatest.Goals as goal

pub loop-a-init : goal.loop-a-init
loop-a-init g c = λ f h. sym (greatest-start f)

pub loop-a-preserved : goal.loop-a-preserved
loop-a-preserved g c =
    let l = c.loop-a in
    λ f h.
    rw (c.max-most.ensures, l.invariant f h, h l.a c.value.result c.loop-a-test.true c.value.ensures)
    (sym (greatest_next l.a f))
