-- "The number is never used again" (U11 of 02): 24, and the one form in which each room says of its own kinds of refusals, and of
-- its own answers, that none of them has it.
-- Assumes nothing.
use Rattle.std.specs.Prelude.{ℕ, ◌≡◌}
use Rattle.std.proofs.Math.Option.{Option, some}
use Rattle.schedule.specs.Rule.{Refusal}
use Rattle.schedule.specs.Answers.{Answer, refused}

-- the number that is out of the book
abbrev pub retired : ℕ
retired = 24

-- of a kind of refusal: no case has it, by the map that gives each case its number
abbrev pub NoCaseRetired : {Kind : Type 0} → (Kind → ℕ) → Type 0
NoCaseRetired {Kind} number = (why : Kind) → ¬ (number why ≡ retired)

-- of an answer: it is no refusal with that number
abbrev pub AnswerNotRetired : {F : Type 0} → Answer F → Type 0
AnswerNotRetired said = (x : Refusal) → said ≡ refused x → ¬ (x.number ≡ retired)

-- of what answers a refusal or none
abbrev pub RefusalNotRetired : Option Refusal → Type 0
RefusalNotRetired said = (x : Refusal) → said ≡ some x → ¬ (x.number ≡ retired)
