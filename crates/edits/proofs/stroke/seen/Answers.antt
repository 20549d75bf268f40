-- `edits::stroke::seen` meets its contract: the first marked tick so far starts the row. Assumes nothing.
use mathlib.Core.Logic.{inl, inr}
use Rattle.edits.proofs.ScanLaws.{seen_start}
use Rattle.edits.proofs.stroke.seen.Goals as goal
use Rattle.edits.proofs.stroke.seen.Goals.{then-row-eq0, else-row-eq0}

pub returns-then-marked : goal.returns-then-marked
returns-then-marked c =
    let on = c.if-marked.true in (
      seen_start _ _ _ _ _ on (elim c.if-row-eq0.branch [
        | then-row-eq0 w ↦ inl (w.if-row-eq0.true, w.start-is)
        | else-row-eq0 w ↦ inr (w.if-row-eq0.false, w.start-is)
      ]),
      rw on,
    )

pub returns : goal.returns
returns c = let off = c.if-marked.false in (rw off, rw off)
