-- `view::over` meets its contract: what is held is the part that the making's answer leaves. Assumes nothing.
use Rattle.view.proofs.HeldLaws.{held_over}
use Rattle.view.proofs.over.Goals as goal

pub returns : goal.returns
returns c =
    let made = c.refusal-made.ensures in
    (made, held_over c.args.model.now c.args.plan c.held.result _ made c.held.ensures.0 c.held.ensures.1)
