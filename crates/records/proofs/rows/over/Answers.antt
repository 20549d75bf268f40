use Rattle.std.proofs.Common.{rules}
use native.Mathlib.Omega.{arith}
use mathlib.Core.Path.{sym}
use Rattle.laws.proofs.FirstBreak.{first-none}
use Rattle.records.proofs.Reading.{row-refused, row-taken}
use Rattle.records.proofs.rows.over.Goals as goal

pub loop-a-init : goal.loop-a-init
loop-a-init g c = λ f h a l. absurd (omega arith)

pub returns-in_default : goal.returns-in_default
returns-in_default g c =
    let l = c.loop-a in
    let y = c.read-row in
    λ f h.
    row-refused f l.a y.result (l.invariant f h) (h l.a y.result c.loop-a-test.true y.ensures) _ _ _ c.loop-a-test.true
    c.in_default.is (search rules)

pub loop-a-preserved : goal.loop-a-preserved
loop-a-preserved g c =
    let l = c.loop-a in
    let y = c.read-row in
    λ f h.
    row-taken f l.a y.result (l.invariant f h) (h l.a y.result c.loop-a-test.true y.ensures) _ c.in-Ok.is

pub returns : goal.returns
returns g c =
    let l = c.loop-a in
    λ f h. sym ((first-none c.args.rows _).1 (λ a k. l.invariant f h a (omega arith)))
