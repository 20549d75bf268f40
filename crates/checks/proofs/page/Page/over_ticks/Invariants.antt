-- `checks::page::Page::over_ticks` meets its contract: the ticks passed are clear, and the last of them broke nothing.
-- Assumes nothing.
use mathlib.Core.Path.{◌≡◌}
use Rattle.schedule.specs.Model.{model}
use Rattle.schedule.specs.Plan.{plan}
use Rattle.laws.proofs.RowLaws.{ClearTo}
use Rattle.ticks.specs.Kept.{Stands}
use Rattle.checks.specs.Ticks.{tick_rule, breaking_of}
use Rattle.checks.specs.Windows.{open_of}
use Rattle.checks.proofs.page.Page.over_ticks.Given as goal

abbrev pub invariant-loop-t : goal.invariant-loop-t
invariant-loop-t l =
    ClearTo (tick_rule l.rule (model l.self.s.now) (plan l.self.r.now)) l.t × Stands (open_of (model l.self.s.now).activities l.self.tables.now.froms l.self.tables.now.ends) l.waitable l.t
    × (breaking_of l.trial.rule l.trial.widths l.trial.outranked l.trial.befores.now l.trial.cores l.passed ≡ 0)
