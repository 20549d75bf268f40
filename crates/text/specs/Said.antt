-- What a line says of an answer: passed or not, and three numbers. The lines of specs/Lines.antt made of that.
-- Assumes nothing.
use Rattle.std.specs.Prelude.{ℕ, Bool, true, false, List, [], ◌∷◌, ◌++◌}
use Rattle.schedule.specs.Rule
use Rattle.schedule.specs.Answers
use Rattle.schedule.specs.Answers.{Answer, accepted, refused}
use Rattle.schedule.specs.Lines.{three}
use Rattle.text.specs.declared.Said.{Said}

abbrev pub figures_said : Answers.Figures → Said
figures_said f = record { passed = true; a = f.usage; b = f.capacity; c = f.makespan }

abbrev pub refusal_said : Rule.Refusal → Said
refusal_said x = record { passed = false; a = x.number; b = x.A; c = x.B }

abbrev pub verdict_said : Answer Answers.Figures → Said
verdict_said (accepted f) = figures_said f
verdict_said (refused x) = refusal_said x

abbrev pub run_said : Answer Answers.Written → Said
run_said (accepted w) = figures_said w.figures
run_said (refused x) = refusal_said x

-- the words that begin the lines: `plain`, `strict`, `run`
abbrev pub plain_name : List ℕ
plain_name = 112 ∷ 108 ∷ 97 ∷ 105 ∷ 110 ∷ []

abbrev pub strict_name : List ℕ
strict_name = 115 ∷ 116 ∷ 114 ∷ 105 ∷ 99 ∷ 116 ∷ []

abbrev pub run_name : List ℕ
run_name = 114 ∷ 117 ∷ 110 ∷ []

-- ` accepted ` or ` refused `
unfoldable pub verdict_word : Bool → List ℕ
verdict_word true = 32 ∷ 97 ∷ 99 ∷ 99 ∷ 101 ∷ 112 ∷ 116 ∷ 101 ∷ 100 ∷ 32 ∷ []
verdict_word false = 32 ∷ 114 ∷ 101 ∷ 102 ∷ 117 ∷ 115 ∷ 101 ∷ 100 ∷ 32 ∷ []

-- a line: the word that begins it, the verdict and the three numbers
unfoldable pub line : List ℕ → Said → List ℕ
line name s = name ++ (verdict_word s.passed ++ three s.a s.b s.c)
