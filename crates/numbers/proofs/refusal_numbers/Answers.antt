-- `numbers::refusal_numbers` meets its contract: each class's number, and the place.
-- Assumes nothing.
use Rattle.numbers.proofs.refusal_numbers.Goals as goal

pub returns-in-Form : goal.returns-in-Form
returns-in-Form c = simp (c.in-Form.is, c.form_number.ensures)

pub returns-in-Rule : goal.returns-in-Rule
returns-in-Rule c = simp (c.in-Rule.is, c.rule_number.ensures)

pub returns-in-Run : goal.returns-in-Run
returns-in-Run c = simp (c.in-Run.is, c.run_number.ensures)
