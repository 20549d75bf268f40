-- `fields::be32` meets its contract. The four bytes that are read are those of the field, at once or one by one.
-- Assumes nothing.
use native.Mathlib.Omega.{arith}
use mathlib.Core.Path.{◌∙◌}
use Rattle.fields.proofs.ReadLaws.{field_one, first_at, four_behind}
use Rattle.fields.proofs.be32.Goals as goal

pub returns-in-Some : goal.returns-in-Some
returns-in-Some c =
    let rest = c.rest-rest.result.now in
    let same = c.in-Some.ensures.cases.same in
    c.joined.ensures
    ∙ four_behind c.args.s.now rest c.args.at c.rest-rest.ensures (first_at 4 0 rest same (omega arith))
    (first_at 4 1 rest same (omega arith)) (first_at 4 2 rest same (omega arith)) (first_at 4 3 rest same (omega arith))

pub returns-in-None : goal.returns-in-None
returns-in-None c =
    let rest = c.rest-rest.result.now in
    c.joined-in-None.ensures
    ∙ four_behind c.args.s.now rest c.args.at c.rest-rest.ensures (c.byte.ensures ∙ field_one rest 0)
    (c.byte-in-None.ensures ∙ field_one rest 1) (c.byte-in-None-2.ensures ∙ field_one rest 2)
    (c.byte-in-None-3.ensures ∙ field_one rest 3)
