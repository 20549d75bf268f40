-- "Where an answer is an enum, a definition sets out this paper's number and values for each of its cases": what an edit, a keep
-- and an ask answer, in the paper's numbers.
-- Assumes nothing.
use Rattle.std.specs.Prelude.{ℕ, Result, Ok, Err}
use Rattle.schedule.specs.Rule.{Refusal}
use Rattle.schedule.specs.Answers.{Answer, accepted, refused, Figures}
use Rattle.schedule.specs.Numbers.{refusal_numbers, Verdict, verdict_numbers}
use Rattle.edit_rules.specs.declared.EditRefusal.{EditRefusal}
use Rattle.edit_rules.specs.declared.Reason.{Reason}
use Rattle.edit_rules.specs.declared.Unkept.{Unkept}

abbrev pub edit_number : EditRefusal → ℕ
edit_number EditRefusal.Activity = 58
edit_number EditRefusal.Tick = 59
edit_number EditRefusal.Bit = 60

-- 58 to 60 name no place
abbrev pub reason_numbers : Reason → Refusal
reason_numbers (Reason.Record x) = refusal_numbers x
reason_numbers (Reason.Edit why) = record { number = edit_number why; A = 0; B = 0 }

-- what a mark or a clear answers: "An unrefused call answers no figure."
abbrev pub Edited : Type 0
Edited = Result (Unit {0}) Reason

abbrev pub edited_numbers : Edited → Answer (Unit {0})
edited_numbers (Ok done) = accepted done
edited_numbers (Err why) = refused (reason_numbers why)

-- 61 names no place either
abbrev pub unkept_numbers : Unkept → Refusal
unkept_numbers Unkept.NothingAsked = record { number = 61; A = 0; B = 0 }
unkept_numbers (Unkept.Edit why) = reason_numbers why

-- what a keep answers: no figure either
abbrev pub Kept : Type 0
Kept = Result (Unit {0}) Unkept

abbrev pub kept_numbers : Kept → Answer (Unit {0})
kept_numbers (Ok done) = accepted done
kept_numbers (Err why) = refused (unkept_numbers why)

-- an ask is told a verdict, which may be a refusal of the plan as it would be, or is itself refused
abbrev pub Told : Type 0
Told = Result Verdict Reason

abbrev pub told_numbers : Told → Answer (Answer Figures)
told_numbers (Ok v) = accepted (verdict_numbers v)
told_numbers (Err why) = refused (reason_numbers why)
