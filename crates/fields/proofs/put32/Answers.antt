-- `fields::put32` meets its contract. The bytes that are stored are those of the number.
-- Assumes nothing.
use mathlib.Core.Path.{ap, ◌∙◌}
use Rattle.fields.specs.Put.{put}
use Rattle.fields.proofs.put32.Goals as goal

pub returns : goal.returns
returns c =
    c.store.ensures ∙ ap (λ b. put c.args.at b c.args.out.now) c.split.ensures
