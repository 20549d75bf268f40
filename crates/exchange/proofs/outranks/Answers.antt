-- `exchange::outranks` meets its contract: by the issue, and by the flag where issues are equal. Assumes nothing.
use mathlib.Core.Path.{◌∙◌}
use Rattle.exchange.proofs.RecordLaws.{outranks_by}
use Rattle.exchange.proofs.outranks.Goals as goal

pub returns : goal.returns
returns c =
    let a = c.args in
    c.lt.ensures
    ∙ outranks_by a.x.now a.y.now _ _ _ _ c.issue.ensures c.withdrawn.ensures c.issue-2.ensures c.withdrawn-2.ensures
