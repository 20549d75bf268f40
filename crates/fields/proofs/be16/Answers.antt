-- `fields::be16` meets its contract. The two bytes that are read are those of the field, at once or one by one.
-- Assumes nothing.
use native.Mathlib.Omega.{arith}
use mathlib.Core.Path.{◌∙◌}
use Rattle.fields.proofs.ReadLaws.{field_one, first_at, two_behind}
use Rattle.fields.proofs.be16.Goals as goal

pub returns-in-Some : goal.returns-in-Some
returns-in-Some c =
    let rest = c.rest-rest.result.now in
    let same = c.in-Some.ensures.cases.same in
    c.paired.ensures
    ∙ two_behind c.args.s.now rest c.args.at c.rest-rest.ensures (first_at 2 0 rest same (omega arith))
    (first_at 2 1 rest same (omega arith))

pub returns-in-None : goal.returns-in-None
returns-in-None c =
    let rest = c.rest-rest.result.now in
    c.paired-in-None.ensures
    ∙ two_behind c.args.s.now rest c.args.at c.rest-rest.ensures (c.byte.ensures ∙ field_one rest 0)
    (c.byte-in-None.ensures ∙ field_one rest 1)
