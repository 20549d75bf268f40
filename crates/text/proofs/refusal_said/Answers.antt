-- `text::refusal_said` meets its contract: the refusal's number, and its place.
-- Assumes nothing.
use mathlib.Core.Path.{ap}
use Rattle.text.specs.Said.{refusal_said}
use Rattle.text.proofs.refusal_said.Goals as goal

pub returns : goal.returns
returns c = ap refusal_said c.refusal_numbers-said.ensures
