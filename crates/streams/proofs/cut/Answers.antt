-- `streams::cut` meets its contract: at each `return` the tests that led there say which way `splits` goes.
-- Assumes nothing.
use borrow.Author.Tests.{le-leb, lt-leb}
use Rattle.schedule.specs.Streams.{splits}
use Rattle.streams.specs.Cut
use Rattle.streams.proofs.cut.Goals as goal

pub returns-then-n-lt4 : goal.returns-then-n-lt4
unfolding Cut.cut splits
returns-then-n-lt4 c = simp (lt-leb _ _ c.if-n-lt4.true)

pub returns-then-n-length : goal.returns-then-n-length
unfolding Cut.cut splits
returns-then-n-length c = simp (le-leb _ _ c.if-n-lt4.false, ← c.be32-length.ensures, lt-leb _ _ c.if-n-length.true)

pub returns : goal.returns
unfolding Cut.cut splits
returns c = simp (le-leb _ _ c.if-n-lt4.false, ← c.be32-length.ensures, le-leb _ _ c.if-n-length.false)
