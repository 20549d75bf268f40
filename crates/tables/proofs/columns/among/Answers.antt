-- `tables::columns::among` meets its contract: the bits below the count are kept.
-- Assumes nothing.
use mathlib.Core.Path.{ap, ◌∙◌}
use lib.Bits.{bit_and}
use lib.Dec.{ltb}
use Rattle.schedule.specs.Bounded.{word_of}
use Rattle.schedule.specs.Model.{model}
use Rattle.records.specs.declared.model.Sizes.{Sizes}
use Rattle.records.specs.Rows.{sizes_of}
use Rattle.tables.proofs.TableLaws.{among_mask}
use Rattle.tables.proofs.columns.among.Goals as goal

pub returns : goal.returns
unfolding sizes_of
returns c =
    let x = c.args in
    ap (bit_and x.mask) c.below.ensures
    ∙ ap (λ (y : Sizes). bit_and x.mask (word_of 32 (λ b. ltb b y.activities))) c.counts.ensures
    ∙ among_mask (model x.s.now) x.mask
