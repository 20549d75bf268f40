-- The lines lie within their buffer.
-- Assumes nothing.
use Rattle.vectors.proofs.Parts.{counts-printed}
use Rattle.vectors.proofs.print_run.Goals as goal

pub slice_bounds-lines-end : goal.slice_bounds-lines-end
slice_bounds-lines-end g c = (counts-printed _ _ _ _ c.run_lines-n.auto.out c.run_lines-n.ensures).0

pub slice_bounds-write_all-end : goal.slice_bounds-write_all-end
slice_bounds-write_all-end g c = (counts-printed _ _ _ _ c.run_lines-n.auto.out c.run_lines-n.ensures).1
