-- `streams::second_record` meets its contract: the part behind the cut is the second record, and begins where the first ends.
-- Assumes nothing.
use Prim.Native.Nat.{ℕ, ◌+◌}
use mathlib.Core.Path.{ap, ◌∙◌}
use native.Mathlib.Omega.{arith}
use Rattle.streams.proofs.CutLaws.{cut_le, drop-cut, cut-length}
use Rattle.streams.proofs.second_record.Goals as goal

pub slice_bounds-result-count : goal.slice_bounds-result-count
slice_bounds-result-count c = omega (arith, cut_le c.args.input.now, c.cut.ensures)

pub slice_bounds-result-start : goal.slice_bounds-result-start
slice_bounds-result-start c = omega (arith, cut_le c.args.input.now, c.cut.ensures)

pub returns : goal.returns
returns c =
    let input = c.args.input in
    let start = c.cut.ensures in (
      rw start (drop-cut input.now),
      ap (λ (from : ℕ). (input.ref_ptr.0, from + input.ref_ptr.1)) (start ∙ cut-length input.now),
    )
