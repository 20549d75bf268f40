-- `form::none_from` meets its contract. The word's & with the bits from n on is 0.
-- Assumes nothing.
use Rattle.records.specs.Rows.{none_from}
use Rattle.records.proofs.Masks.{none_from as below_none}
use Rattle.records.proofs.form.none_from.Goals as goal

pub returns : goal.returns
unfolding none_from
returns c =
    rw c.below.ensures
    (below_none 32 c.args.word c.args.n c.ranges.word.fits)
