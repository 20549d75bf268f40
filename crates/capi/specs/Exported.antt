-- What the exports answer: number 0 for accepted, then usage, c times H, makespan and the plan's length (0 for a check), or zeros
-- for a mark, a clear or a keep; otherwise the refusal's number, A, B, 0, 0. An ask answers as the check whose verdict it tells, or
-- with its refusal.
-- Of wrapped records: number 0, then the record's number, its first byte in its argument and its length; otherwise the refusal's
-- number, A, 0, 0.
-- Assumes nothing.
use Rattle.std.specs.Prelude.{ℕ, Result, Ok, Err}
use Rattle.schedule.specs.Rule.{Refusal}
use Rattle.schedule.specs.declared.Numbered.{Numbered}
use Rattle.schedule.specs.Numbers.{numbers_of}
use Rattle.schedule.specs.Answers.{Answer, accepted, refused, Figures, Written}
use Rattle.schedule.specs.Exchange.{Part}
use Rattle.capi.specs.declared.GridAnswer.{GridAnswer}
use Rattle.capi.specs.declared.GridPart.{GridPart}

abbrev pub refusal_exported : Refusal → GridAnswer
refusal_exported x = record { number = x.number; first = x.A; second = x.B; third = 0; length = 0 }

-- accepted, with the length of the run's plan
abbrev pub accepted_exported : Figures → ℕ → GridAnswer
accepted_exported f n = record { number = 0; first = f.usage; second = f.capacity; third = f.makespan; length = n }

abbrev pub verdict_exported : Answer Figures → GridAnswer
verdict_exported (accepted f) = accepted_exported f 0
verdict_exported (refused x) = refusal_exported x

abbrev pub run_exported : Answer Written → GridAnswer
run_exported (accepted w) = accepted_exported w.figures w.length
run_exported (refused x) = refusal_exported x

-- what a mark, a clear or a keep answers: nothing, or the numbers of its refusal
abbrev pub done_numbers : Result (Unit {0}) Numbered → Answer (Unit {0})
done_numbers (Ok done) = accepted done
done_numbers (Err said) = refused (numbers_of said)

abbrev pub edit_exported : Answer (Unit {0}) → GridAnswer
edit_exported (accepted _) = record { number = 0; first = 0; second = 0; third = 0; length = 0 }
edit_exported (refused x) = refusal_exported x

abbrev pub ask_exported : Answer (Answer Figures) → GridAnswer
ask_exported (accepted v) = verdict_exported v
ask_exported (refused x) = refusal_exported x

abbrev pub part_exported : Answer Part → GridPart
part_exported (accepted x) = record { number = 0; zero = 0; «record» = x.index; offset = x.offset; length = x.length }
part_exported (refused x) = record { number = x.number; zero = 0; «record» = x.A; offset = 0; length = 0 }
