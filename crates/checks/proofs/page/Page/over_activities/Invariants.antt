-- `checks::page::Page::over_activities` meets its contract: the activities passed are clear. Assumes nothing.
use Rattle.schedule.specs.Model.{model}
use Rattle.schedule.specs.Plan.{plan}
use Rattle.laws.proofs.RowLaws.{ClearTo}
use Rattle.checks.specs.Rules.{activity_rule}
use Rattle.checks.proofs.page.Page.over_activities.Given as goal

abbrev pub invariant-loop-number : goal.invariant-loop-number
invariant-loop-number l = ClearTo (activity_rule l.rule (model l.self.s.now) (plan l.self.r.now)) l.number
