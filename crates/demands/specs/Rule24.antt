-- Rule 24, which U11 of 02 took out of the book: what it said, the two checks with it in its former place, and what is to hold
-- of the rule, of the verdicts and of the number.
-- Assumes nothing.
use Rattle.std.specs.Prelude.{ℕ, ◌+◌, ◌≤◌, List, [], ◌∷◌, ◌++◌, map, ◌≡◌, leb}
use Rattle.schedule.specs.declared.Refusal.{Refusal}
use Rattle.schedule.specs.Rule.{Rule, first_break, Everywhere}
use Rattle.schedule.specs.Model.{Model, model, model_form}
use Rattle.schedule.specs.Plan.{Plan, plan, plan_form}
use Rattle.schedule.specs.Checks.{count_of, plain_rules, strict_rules}
use Rattle.schedule.specs.Checks.{rule21, rule22, rule23, rule25, rule26, rule27, rule28, rule29, rule30, rule31}
use Rattle.schedule.specs.Keeps.{KeepsPlain}
use Rattle.schedule.specs.Answers.{Answer, answer, Figures, figures, plain_verdict, strict_verdict, run_answer}
use Rattle.schedule.specs.Report.{report_answer}
use Rattle.schedule.specs.Streams.{view_refusal}
use Rattle.schedule.specs.Numbers.{form_number, rule_number, run_number, refusal_numbers}
use Rattle.schedule.specs.Retired.{NoCaseRetired, AnswerNotRetired, RefusalNotRetired}

-- ---- the former checks

-- 24 end − start ≥ count, with no truncated difference. A activity.
unfoldable pub rule24 : Model → Plan → Rule
rule24 m p = record {
  number = 24;
  rows = m.activities;
  columns = 1;
  Holds = λ a _. p.start a + count_of m p a ≤ p.end a;
  test = λ a _. leb (p.start a + count_of m p a) (p.end a);
}

-- The rules of the plain and of the strict check with 24 between 23 and 25. The others are the book's of today: where a later
-- request changes one of them, it changes here too.
unfoldable pub former_plain : Model → Plan → List Rule
former_plain m p =
    rule21 m p
    ∷ rule22 m p
    ∷ rule23 m p
    ∷ rule24 m p
    ∷ rule25 m p
    ∷ rule26 m p
    ∷ rule27 m p
    ∷ rule28 m p
    ∷ rule29 m p
    ∷ []

unfoldable pub former_strict : Model → Plan → List Rule
former_strict m p = former_plain m p ++ (rule30 m p ∷ rule31 m p ∷ [])

-- the verdict on a model's and a plan's bytes by a list of rules, behind the form rules of both
unfoldable pub verdict_by : List Rule → List ℕ → List ℕ → Answer Figures
verdict_by rules s r = answer (first_break (model_form s ++ (plan_form (model s) r ++ rules))) (figures (model s) (plan r))

-- the former verdicts
abbrev pub former_plain_verdict : List ℕ → List ℕ → Answer Figures
former_plain_verdict s r = verdict_by (former_plain (model s) (plan r)) s r

abbrev pub former_strict_verdict : List ℕ → List ℕ → Answer Figures
former_strict_verdict s r = verdict_by (former_strict (model s) (plan r)) s r

-- ---- what is to hold

-- "A plan that keeps rule 21 has its active ticks inside its window, so none can break 24": at each activity
abbrev pub CannotBreak24 : Type 0
CannotBreak24 = (m : Model) (p : Plan) (a : ℕ) → (rule21 m p).Holds a 0 → (rule24 m p).Holds a 0

-- so a plan that keeps the plain rules keeps the COMET paper's end − start ≥ duration as before
abbrev pub StillKept : Type 0
StillKept = (m : Model) (p : Plan) → KeepsPlain m p → Everywhere (rule24 m p)

-- "every plan's verdict and place equal the former ones": of every two byte strings, accepted with the same figures or
-- refused with the same number, A and B
pub record AsBefore : Type 0 where
  pub plain : (s r : List ℕ) → plain_verdict s r ≡ former_plain_verdict s r
  pub strict : (s r : List ℕ) → strict_verdict s r ≡ former_strict_verdict s r

-- "take the rule and its number out": the numbers of the two checks, as they were and as they are
abbrev pub numbers_in : List Rule → List ℕ
numbers_in rules = map (λ (r : Rule). r.number) rules

pub record TakenOut (m : Model) (p : Plan) : Type 0 where
  pub plain_before : numbers_in (former_plain m p) ≡ 21 ∷ 22 ∷ 23 ∷ 24 ∷ 25 ∷ 26 ∷ 27 ∷ 28 ∷ 29 ∷ []
  pub plain_now : numbers_in (plain_rules m p) ≡ 21 ∷ 22 ∷ 23 ∷ 25 ∷ 26 ∷ 27 ∷ 28 ∷ 29 ∷ []
  pub strict_before : numbers_in (former_strict m p) ≡ 21 ∷ 22 ∷ 23 ∷ 24 ∷ 25 ∷ 26 ∷ 27 ∷ 28 ∷ 29 ∷ 30 ∷ 31 ∷ []
  pub strict_now : numbers_in (strict_rules m p) ≡ 21 ∷ 22 ∷ 23 ∷ 25 ∷ 26 ∷ 27 ∷ 28 ∷ 29 ∷ 30 ∷ 31 ∷ []

-- "The number is never used again": no kind of refusal that these calls know has it, and none of them answers it: neither check,
-- nor the run, the report or the making of a view. A room with refusals or answers of its own says the same of these (Exchange),
-- and `scripts/check-numbers` tells of one that does not.
pub record NeverUsed : Type 0 where
  pub forms : NoCaseRetired form_number
  pub rules : NoCaseRetired rule_number
  pub runs : NoCaseRetired run_number
  pub any : NoCaseRetired (λ (x : Refusal). (refusal_numbers x).number)
  pub plain : (s r : List ℕ) → AnswerNotRetired (plain_verdict s r)
  pub strict : (s r : List ℕ) → AnswerNotRetired (strict_verdict s r)
  pub run : (s q : List ℕ) (room : ℕ) → AnswerNotRetired (run_answer s q room)
  pub report : (s q : List ℕ) (lent : ℕ) → AnswerNotRetired (report_answer s q lent)
  pub view : (s r : List ℕ) → RefusalNotRetired (view_refusal s r)
