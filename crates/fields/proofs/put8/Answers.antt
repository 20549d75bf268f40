-- `fields::put8` meets its contract. The byte is that of the number.
-- Assumes nothing.
use mathlib.Core.Path.{ap, ◌∙◌}
use Rattle.fields.specs.Put.{put}
use Rattle.fields.proofs.PutLaws.{one_byte}
use Rattle.fields.proofs.put8.Goals as goal

pub returns : goal.returns
returns c =
    c.store.ensures ∙ ap (λ b. put c.args.at b c.args.out.now) (one_byte c.args.v c.ranges.v.fits)
