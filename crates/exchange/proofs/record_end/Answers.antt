-- `exchange::record_end` meets its contract: at each way out the tests that led there. Assumes nothing.
use borrow.Author.Tests.{le-leb, lt-leb}
use Rattle.schedule.specs.Exchange.{record_end}
use Rattle.exchange.proofs.record_end.Goals as goal

pub returns-then-said-lt-WRAPPER : goal.returns-then-said-lt-WRAPPER
unfolding record_end
returns-then-said-lt-WRAPPER c = simp (← c.be32-said.ensures, lt-leb _ _ c.if-said-lt-WRAPPER.true)

pub returns-then-n-said : goal.returns-then-n-said
unfolding record_end
returns-then-n-said c = simp (← c.be32-said.ensures, le-leb _ _ c.if-said-lt-WRAPPER.false, lt-leb _ _ c.if-n-said.true)

pub returns : goal.returns
unfolding record_end
returns c = simp (← c.be32-said.ensures, le-leb _ _ c.if-said-lt-WRAPPER.false, le-leb _ _ c.if-n-said.false)
