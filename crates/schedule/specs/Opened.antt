-- Rules that the tables of cases and the proofs unfold together: where one of these names is unfolded, so is each definition
-- on the name's own line.
-- Assumes nothing.
use Rattle.schedule.specs.Records
use Rattle.schedule.specs.Model
use Rattle.schedule.specs.Timing
use Rattle.schedule.specs.Choice
use Rattle.schedule.specs.Plan
use Rattle.schedule.specs.Checks

-- rules 1 to 14, 51 to 53 and 57, of the three records
unfoldable pub form_rules : Unit {0}
unfolding Records.length_rule Records.version_rule Records.formula_rule
    Model.limits_rule Model.rounds_rule Model.thread_rule Model.period_rule Model.activity_rule Model.loop_rule
    Model.width_rule Model.mask_rule
    Choice.choice_counts Choice.range_rule Choice.duration_rule Plan.plan_counts Plan.word_rule
form_rules = tt

-- rules 21 to 31, of the checks
unfoldable pub check_rules : Unit {0}
unfolding Checks.rule21 Checks.rule22 Checks.rule23 Timing.deadline_rule Checks.rule25 Checks.rule26 Checks.rule27
    Checks.rule28 Checks.rule29 Checks.rule30 Checks.rule31
check_rules = tt
