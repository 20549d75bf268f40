-- `fields::shift_in` meets its contract. The shift by 8 loses nothing, and the byte takes the place that it leaves.
-- Assumes nothing.
use Rattle.fields.proofs.ReadLaws.{shift_in}
use Rattle.fields.proofs.shift_in.Goals as goal

pub returns : goal.returns
returns c = shift_in c.args.v c.args.b c.requires c.ranges.b.fits
