-- `machine::inputs::Tables::at` meets its contract: what is known lasts, or is made anew. Assumes nothing.
use Rattle.machine.proofs.StretchLaws.{lasts_fresh}
use Rattle.machine.proofs.inputs.Tables.at.Goals as goal

pub returns : goal.returns
returns c =
    let tick = c.tick-word.ensures in
    let change = c.next_change-change in
    (tick, lasts_fresh _ _ _ _ _ change.result tick change.ensures c.next_end.ensures.0 c.next_end.ensures.1)
