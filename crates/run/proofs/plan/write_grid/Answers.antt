-- `run::plan::write_grid` meets its contract: what is put into the part behind the rows is put into the whole.
-- Assumes nothing.
use native.Mathlib.Omega.{arith}
use Rattle.schedule.specs.Answers.{length_needed}
use Rattle.schedule.specs.Choice.{choice}
use Rattle.schedule.specs.Model.{model}
use Rattle.run.proofs.RunLaws.{played_placed}
use Rattle.run.proofs.plan.write_grid.Goals as goal

pub slice_bounds-play-count : goal.slice_bounds-play-count
unfolding length_needed
slice_bounds-play-count c = omega (arith, c.grid_at-at.ensures, c.requires.1)

pub slice_bounds-play-start : goal.slice_bounds-play-start
unfolding length_needed
slice_bounds-play-start c = omega (arith, c.grid_at-at.ensures, c.requires.1)

pub returns : goal.returns
unfolding length_needed
returns c =
    let x = c.args in
    played_placed (model x.s.now) (choice x.q.now) c.grid_at-at.result x.out.now _ _ _ c.requires.0
    (omega (arith, c.requires.1)) c.grid_at-at.ensures c.play.ensures
