-- `streams::first_record` meets its contract: the part before the cut is the first record, and begins where the input does.
-- Assumes nothing.
use Prim.Native.Nat.{ℕ}
use mathlib.Core.Path.{sym, ap}
use native.Mathlib.Nat.{zero-add}
use native.Mathlib.Omega.{arith}
use lib.Seq.{length-take-le}
use Rattle.streams.proofs.CutLaws.{cut_le, take-cut}
use Rattle.streams.proofs.first_record.Goals as goal

pub slice_bounds-result-end : goal.slice_bounds-result-end
slice_bounds-result-end c =
    sym (length-take-le c.cut.result c.args.input.now (omega (arith, cut_le c.args.input.now, c.cut.ensures)))

pub returns : goal.returns
returns c =
    let input = c.args.input in (
      rw c.cut.ensures (take-cut input.now),
      ap (λ (from : ℕ). (input.ref_ptr.0, from)) (sym (zero-add input.ref_ptr.1)),
    )
