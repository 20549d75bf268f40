use native.Mathlib.Omega.{arith}
use mathlib.Core.Path.{refl, ap}
use Rattle.records.specs.Rows.{sizes_of}
use Rattle.records.specs.declared.model.Sizes.{Sizes}
use Rattle.tables.specs.Columns.{column_of}
use Rattle.machine.proofs.StretchLaws.{lasts_unknown, lasts_next}
use Rattle.machine.proofs.PlayLaws.{running_start, running_next, running_end}
use Rattle.machine.proofs.play_ticks.Goals as goal

pub loop-t-init : goal.loop-t-init
unfolding column_of
loop-t-init c = record {
  running = running_start _ _ _ _ _ c.requires.few c.table.ensures refl;
  lasts = lasts_unknown _ _ _ _ _ c.unknown-kept.ensures;
}

pub loop-t-preserved : goal.loop-t-preserved
unfolding sizes_of
loop-t-preserved c =
    let l = c.loop-t in
    let at = c.at-kept in
    let step = c.step.ensures in
    let horizon = ap (λ (r : Sizes). r.horizon) c.counts-sizes.ensures in
    record {
      running = running_next _ _ _ l.grid l.state.owed l.state.ends l.t l.invariant.running _ at.result.word _ _ _
          c.requires (omega (arith, horizon)) at.ensures.0 step c.put_word.ensures;
      lasts = lasts_next _ l.state.owed l.state.ends _ _ at.result l.t at.ensures.1 step;
    }

pub returns : goal.returns
unfolding sizes_of
returns c =
    running_end _ _ _ _ _ _ _ c.loop-t.invariant.running
    (omega (arith, ap (λ (r : Sizes). r.horizon) c.counts-sizes.ensures))
