-- Both arrays have room.
use Rattle.std.proofs.Common.{arith}
use Rattle.programs.proofs.run.Goals as goal

pub empty-input-requires : goal.empty-input-requires
empty-input-requires g c = omega (arith, g.met.P.Program.room)

pub answer-printed-requires : goal.answer-printed-requires
answer-printed-requires g c = (omega (arith, g.met.P.Program.room), omega (arith, g.met.P.Program.room))

pub as_bytes-requires : goal.as_bytes-requires
as_bytes-requires g c = omega (arith, g.met.P.Program.room)
