-- `edits::reason_numbers` meets its contract: a record's refusal by its numbers, an edit's with no place. Assumes nothing.
use Rattle.edits.proofs.reason_numbers.Goals as goal

pub returns-in-Record : goal.returns-in-Record
returns-in-Record c = rw c.in-Record.is c.refusal_numbers.ensures

pub returns-in-Edit : goal.returns-in-Edit
returns-in-Edit c = rw (c.in-Edit.is, ← c.edit_number.ensures)
