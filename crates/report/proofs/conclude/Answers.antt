-- `report::conclude` meets its contract: the rows are written where the answer fills them.
-- Assumes nothing.
use mathlib.Core.Path.{sym, ◌∙◌}
use Rattle.laws.proofs.LatenessLaws.{rows-filled, rows-kept}
use Rattle.report.proofs.ReportLaws.{concludes}
use Rattle.report.proofs.conclude.Goals as goal

pub returns-then-fills : goal.returns-then-fills
returns-then-fills c =
    concludes _ _ _ _ _ c.verdict-answer.ensures
    (c.write.ensures ∙ sym (rows-filled _ _ _ _ (sym c.fills.ensures ∙ c.if-fills.true)))

pub returns-else-fills : goal.returns-else-fills
returns-else-fills c =
    concludes _ _ _ _ _ c.verdict-answer.ensures
    (sym (rows-kept _ _ _ _ (sym c.fills.ensures ∙ c.if-fills.false)))
