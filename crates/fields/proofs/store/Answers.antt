-- `fields::store` meets its contract. Where the bytes do not all fit, nothing is written.
-- Assumes nothing.
use Prim.Native.Nat.{◌+◌}
use native.Mathlib.Omega.{arith}
use mathlib.Core.List.{append_assoc}
use mathlib.Core.Path.{sym}
use lib.ListN.{length}
use borrow.Rule.Slice.PartMut.{Post-is}
use Rattle.fields.proofs.PutLaws.{put_out, put-fits}
use Rattle.fields.proofs.store.Goals as goal
use Rattle.fields.proofs.store.Goals.{else-at-out-via-then-at-out+else-bytes-out, else-at-out-via-else-at-out}

pub returns-then-bytes-out : goal.returns-then-bytes-out
returns-then-bytes-out c =
    let x = c.args in
    rw (
      put-fits x.at x.bytes.now x.out.now (omega arith),
      c.copy_from_slice.ensures.after,
      Post-is x.at (x.at + length x.bytes.now) x.out.now (omega arith),
      append_assoc,
    )

pub returns-else-at-out : goal.returns-else-at-out
returns-else-at-out c =
    let x = c.args in
    sym (put_out x.at x.bytes.now x.out.now (elim c.else-at-out.branch [
      | else-at-out-via-then-at-out+else-bytes-out w ↦ omega arith
      | else-at-out-via-else-at-out w ↦ omega arith
    ]))
