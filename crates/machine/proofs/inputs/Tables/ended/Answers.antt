-- `machine::inputs::Tables::ended` meets its contract: the word of those that have ended.
-- Assumes nothing.
use Rattle.std.proofs.Common.{rules}
use Rattle.machine.specs.Masks.{ended_from, ended_mask}
use Rattle.machine.proofs.inputs.Tables.ended.Goals as goal

pub returns : goal.returns
unfolding ended_mask
returns c =
    let x = c.args in
    c.word.ensures (ended_from x.state.now.owed x.state.now.ends x.delays.now x.t) (λ b y l p. search rules)
