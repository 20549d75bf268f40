-- `machine::play` meets its contract: the machine is played, and its end judged, where a word has a bit for each activity.
-- Assumes nothing.
use native.Mathlib.Omega.{arith}
use mathlib.Core.Path.{refl, ap}
use Rattle.records.specs.Rows.{sizes_of}
use Rattle.records.specs.declared.model.Sizes.{Sizes}
use Rattle.machine.proofs.PlayLaws.{finished_stopped, played, unplayed}
use Rattle.machine.proofs.play.Goals as goal

pub returns-then-sizes-gt32 : goal.returns-then-sizes-gt32
unfolding sizes_of
returns-then-sizes-gt32 c =
    let e = ap (λ (r : Sizes). r.activities) c.counts-sizes.ensures in
    unplayed _ _ _ _ _ _ (omega (arith, c.if-sizes-gt32.true, e)) refl refl refl

pub tabulate-tables-requires : goal.tabulate-tables-requires
unfolding sizes_of
tabulate-tables-requires c =
    omega (arith, c.if-sizes-gt32.false, ap (λ (r : Sizes). r.activities) c.counts-sizes.ensures)

pub judge-requires : goal.judge-requires
unfolding sizes_of
judge-requires c = (
  c.tabulate-tables.ensures,
  finished_stopped _ _ _ _ _ _
      (omega (arith, c.if-sizes-gt32.false, ap (λ (r : Sizes). r.activities) c.counts-sizes.ensures))
      c.play_ticks-last.ensures,
)

pub returns : goal.returns
unfolding sizes_of
returns c =
    played _ _ _ _ _ _ _
    (omega (arith, c.if-sizes-gt32.false, ap (λ (r : Sizes). r.activities) c.counts-sizes.ensures))
    c.play_ticks-last.ensures c.judge.ensures
