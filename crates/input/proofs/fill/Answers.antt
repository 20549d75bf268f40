-- What a read stores behind the bytes that came leaves the caller's behind it, and stands behind what the reader lost before.
use Rattle.std.proofs.Common.{arith}
use Rattle.std.proofs.lemmas.Result.{err_from_is_err_and}
use Rattle.input.proofs.InputLaws.{consumed-after, filled-after}
use Rattle.input.proofs.fill.Goals as goal

pub returns-in_err-now-clause-kept : goal.returns-in_err-now-clause-kept
returns-in_err-now-clause-kept g c =
    let failed = err_from_is_err_and c.from_residual.result c.from_residual.ensures.1 in
    rw (failed.1, failed.2) (filled-after c.loop-done.done _ c.args.buf.now c.loop-done.buf c.read_at.new.buf (omega arith)
    c.loop-done.invariant.kept c.in_err-now.ensures.filled).1

pub returns-in_err-now-clause-bytes : goal.returns-in_err-now-clause-bytes
returns-in_err-now-clause-bytes g c =
    let failed = err_from_is_err_and c.from_residual.result c.from_residual.ensures.1 in
    rw (failed.1, failed.2) (consumed-after _ _ _ c.loop-done.done _ c.loop-done.buf c.read_at.new.buf
    c.in_err-now.ensures.filled.more c.in_err-now.ensures.front c.loop-done.invariant.bytes c.in_err-now.ensures.bytes)

pub loop-done-preserved : goal.loop-done-preserved
loop-done-preserved g c =
    let whole = filled-after c.loop-done.done _ c.args.buf.now c.loop-done.buf c.read_at.new.buf (omega arith)
    c.loop-done.invariant.kept c.in_ok-now.ensures.filled in
    record {
      within = omega (arith, c.in_ok-now.ensures.filled.filled.0);
      kept = whole.1;
      bytes = consumed-after _ _ _ c.loop-done.done _ c.loop-done.buf c.read_at.new.buf c.in_ok-now.ensures.filled.more
          c.in_ok-now.ensures.front c.loop-done.invariant.bytes c.in_ok-now.ensures.bytes;
    }
