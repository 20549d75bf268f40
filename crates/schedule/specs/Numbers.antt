-- "Where an answer is an enum, a definition sets out this paper's number and values for each of its cases": what each
-- declared answer says, in the paper's numbers. crate laws, NumbersLaws, shows that no two answers say the same.
-- Assumes nothing.
use Rattle.std.specs.Prelude.{ℕ, Option, Some, None, Result, Ok, Err}
use Rattle.schedule.specs.declared.RowRule.{RowRule}
use Rattle.schedule.specs.declared.FormRefusal.{FormRefusal}
use Rattle.schedule.specs.declared.ActivityRule.{ActivityRule}
use Rattle.schedule.specs.declared.TickRule.{TickRule}
use Rattle.schedule.specs.declared.RuleRefusal.{RuleRefusal}
use Rattle.schedule.specs.declared.RunRefusal.{RunRefusal}
use Rattle.schedule.specs.declared.Refusal.{Refusal}
use Rattle.schedule.specs.declared.Numbered.{Numbered}
use Rattle.schedule.specs.declared.Figures.{Figures}
use Rattle.schedule.specs.declared.Written.{Written}
use Rattle.schedule.specs.declared.WrapRefusal.{WrapRefusal}
use Rattle.schedule.specs.declared.WrapRefused.{WrapRefused}
use Rattle.schedule.specs.declared.Side.{Side}
use Rattle.schedule.specs.declared.Part.{Part}
use Rattle.schedule.specs.Rule
use Rattle.schedule.specs.Answers
use Rattle.schedule.specs.Answers.{Answer, accepted, refused}
use Rattle.schedule.specs.Streams.{WordOrPast, word, past}
use Rattle.schedule.specs.Exchange

abbrev pub form_number : FormRefusal → ℕ
form_number FormRefusal.ModelSize = 1
form_number FormRefusal.ModelVersion = 2
form_number FormRefusal.ModelLimits = 3
form_number FormRefusal.ModelFormula = 4
form_number FormRefusal.Rounds = 51
form_number (FormRefusal.ModelRow RowRule.Thread) = 5
form_number (FormRefusal.ModelRow RowRule.Period) = 52
form_number (FormRefusal.ModelRow RowRule.Activity) = 6
form_number (FormRefusal.ModelRow RowRule.Loop) = 53
form_number (FormRefusal.ModelRow RowRule.Width) = 57
form_number (FormRefusal.ModelRow RowRule.Masks) = 7
form_number FormRefusal.SecondSize = 8
form_number FormRefusal.SecondVersion = 9
form_number FormRefusal.SecondCounts = 10
form_number FormRefusal.SecondFormula = 11
form_number FormRefusal.ThreadChoice = 12
form_number FormRefusal.DurationChoice = 13
form_number FormRefusal.WordBits = 14

abbrev pub rule_number : RuleRefusal → ℕ
rule_number (RuleRefusal.Activity ActivityRule.Window) = 21
rule_number (RuleRefusal.Activity ActivityRule.Count) = 22
rule_number (RuleRefusal.Activity ActivityRule.Deadline) = 23
rule_number (RuleRefusal.Activity ActivityRule.Temporal) = 25
rule_number (RuleRefusal.Activity ActivityRule.Data) = 26
rule_number (RuleRefusal.Activity ActivityRule.Eligible) = 27
rule_number (RuleRefusal.Tick TickRule.Cores) = 28
rule_number (RuleRefusal.Tick TickRule.Preemption) = 29
rule_number (RuleRefusal.Tick TickRule.Idle) = 30
rule_number (RuleRefusal.Tick TickRule.Tie) = 31

abbrev pub run_number : RunRefusal → ℕ
run_number RunRefusal.Room = 41
run_number RunRefusal.Owed = 42
run_number RunRefusal.Late = 43
run_number RunRefusal.Rows = 50

-- "A refusal answers its number, A and B"
abbrev pub refusal_numbers : Refusal → Rule.Refusal
refusal_numbers (Refusal.Form why at) = record { number = form_number why; A = at.a; B = at.b }
refusal_numbers (Refusal.Rule why at) = record { number = rule_number why; A = at.a; B = at.b }
refusal_numbers (Refusal.Run why at) = record { number = run_number why; A = at.a; B = at.b }

abbrev pub numbers_of : Numbered → Rule.Refusal
numbers_of x = record { number = x.number; A = x.a; B = x.b }

abbrev pub figure_numbers : Figures → Answers.Figures
figure_numbers f = record { usage = f.usage; capacity = f.capacity; makespan = f.makespan }

abbrev pub written_numbers : Written → Answers.Written
written_numbers w = record { length = w.length; figures = figure_numbers w.figures }

-- what a check answers: the figures, or why it refuses
abbrev pub Verdict : Type 0
Verdict = Result Figures Refusal

abbrev pub verdict_numbers : Verdict → Answer Answers.Figures
verdict_numbers (Ok f) = accepted (figure_numbers f)
verdict_numbers (Err x) = refused (refusal_numbers x)

-- what the run answers, and the report of lateness
abbrev pub RunVerdict : Type 0
RunVerdict = Result Written Refusal

abbrev pub run_numbers : RunVerdict → Answer Answers.Written
run_numbers (Ok w) = accepted (written_numbers w)
run_numbers (Err x) = refused (refusal_numbers x)

-- what a held view gives at a tick: "the word at a tick, or past for a tick ≥ H"
abbrev pub word_numbers : Option ℕ → WordOrPast
word_numbers (Some w) = word w
word_numbers None = past

abbrev pub wrap_number : WrapRefusal → ℕ
wrap_number WrapRefusal.Wrapper = 54
wrap_number WrapRefusal.Series = 55
wrap_number WrapRefusal.Copy = 56

-- "A the record tried, from 0"
abbrev pub wrap_numbers : WrapRefusal → ℕ → Rule.Refusal
wrap_numbers why k = record { number = wrap_number why; A = k; B = 0 }

abbrev pub wrap_refusal : WrapRefused → Rule.Refusal
wrap_refusal x = wrap_numbers x.why x.index

-- which of two wrapped records stands, 0 for the first and 1 for the second
abbrev pub Standing : Type 0
Standing = Result Side WrapRefused

abbrev pub standing_numbers : Standing → Answer ℕ
standing_numbers (Ok Side.First) = accepted 0
standing_numbers (Ok Side.Second) = accepted 1
standing_numbers (Err x) = refused (wrap_refusal x)

abbrev pub part_numbers : Part → Exchange.Part
part_numbers x = record { index = x.index; offset = x.offset; length = x.length }

-- which record of a file is chosen
abbrev pub Chosen : Type 0
Chosen = Result Part WrapRefused

abbrev pub chosen_numbers : Chosen → Answer Exchange.Part
chosen_numbers (Ok x) = accepted (part_numbers x)
chosen_numbers (Err x) = refused (wrap_refusal x)
