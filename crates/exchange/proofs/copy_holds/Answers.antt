-- `exchange::copy_holds` meets its contract: 56's test. Assumes nothing.
use Rattle.schedule.specs.Exchange.{copy_rule}
use Rattle.exchange.proofs.RecordLaws.{fields_differ, same_as}
use Rattle.exchange.proofs.copy_holds.Goals as goal

pub returns-then-ne : goal.returns-then-ne
unfolding copy_rule
returns-then-ne c =
    simp (
      ← c.series.ensures,
      ← c.series-2.ensures,
      ← c.issue.ensures,
      ← c.issue-2.ensures,
      ← c.withdrawn.ensures,
      ← c.withdrawn-2.ensures,
      fields_differ,
      ← c.ne.ensures,
      c.if-ne.true,
    )

pub returns-else-ne : goal.returns-else-ne
unfolding copy_rule
returns-else-ne c =
    simp (
      ← c.series.ensures,
      ← c.series-2.ensures,
      ← c.issue.ensures,
      ← c.issue-2.ensures,
      ← c.withdrawn.ensures,
      ← c.withdrawn-2.ensures,
      fields_differ,
      ← c.ne.ensures,
      c.if-ne.false,
      c.eq.ensures,
      same_as c.args.w.now c.args.x.now,
    )
