-- `report::verdict` meets its contract: the refusal of 42 and 43, or what a success answers.
-- Assumes nothing.
use Rattle.machine.proofs.PlayLaws.{ended-refused, ended_success}
use Rattle.report.proofs.ReportLaws.{all-ended, succeeds, refuses}
use Rattle.report.proofs.verdict.Goals as goal

pub returns-in-Refused : goal.returns-in-Refused
returns-in-Refused c =
    refuses _ _ _ (ended-refused _ _ _ _ c.requires _ c.in-Refused.is)

pub written-requires : goal.written-requires
written-requires c =
    let ended = c.requires in
    all-ended _ _ _ (record { formed = ended.formed; end_ticks = ended.end_ticks })
    (ended_success _ _ _ _ ended c.in_default.not-Refused)

pub returns : goal.returns
returns c =
    succeeds _ _ _ (ended_success _ _ _ _ c.requires c.in_default.not-Refused) c.written.ensures
