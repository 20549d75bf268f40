-- `exchange::series_holds` meets its contract: 55's test. Assumes nothing.
use Rattle.schedule.specs.Exchange.{series_rule}
use Rattle.exchange.proofs.series_holds.Goals as goal

pub returns : goal.returns
unfolding series_rule
returns c = simp (c.series-2.ensures, c.series.ensures)
