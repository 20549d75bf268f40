-- The former machine and the former checks (crate demands, FormerMachine, FormerChecks, FormerAnswers), asked of a gang: they answer
-- otherwise than today, in the words, by each of rules 28 to 31 and in the usage. So what is said of models of width 1 is not said
-- of every model. And pairs and files of wrapped models, with and without one of version 3, now and before (FormerExchange). A table
-- of each with one truth about it; the values are worked out by hand.
-- Assumes nothing.
use Prim.Native.Nat.{ℕ, suc, ◌+◌}
use native.Mathlib.Omega.{arith}
use mathlib.Core.List.{List, [], ◌∷◌, ◌++◌, map}
use mathlib.Core.Path.{◌≡◌, refl}
use Rattle.schedule.specs.Bounded.{ones, table}
use Rattle.schedule.specs.Rule.{Rule}
use Rattle.schedule.specs.Model.{Model, model, model_form}
use Rattle.schedule.specs.Choice.{choice}
use Rattle.schedule.specs.Answers.{Answer, accepted, Figures, plain_verdict, strict_verdict, machine_plan, run_answer}
use Rattle.schedule.specs.Exchange.{pair_part, pair_bytes, file_answer, file_bytes}
use Rattle.schedule.specs.Cases.{every, accepts, refuses, printed, Saying, parts}
use Rattle.schedule.specs.Lines.{run_room}
use Rattle.demands.specs.FormerForm
use Rattle.demands.specs.FormerMachine
use Rattle.demands.specs.FormerChecks
use Rattle.demands.specs.FormerAnswers
use Rattle.demands.specs.FormerExchange
use Rattle.demands.specs.Widths.{AnswersAsBefore}

-- c 2, H 4. Three threads with no period, of the given priorities, and an activity of each, for one tick: 0 and 2 of width 1, and 1
-- of the given width.
abbrev gangs : ℕ → ℕ → ℕ → ℕ → List ℕ
gangs width p q r =
    (0 ∷ 0 ∷ 0 ∷ 92 ∷ 3 ∷ 2 ∷ 3 ∷ 3 ∷ 0 ∷ 4 ∷ 1 ∷ [])
    ++ (0 ∷ 0 ∷ 0 ∷ 0 ∷ 0 ∷ 0 ∷ 0 ∷ 0 ∷ 0 ∷ p ∷ [])
    ++ (0 ∷ 0 ∷ 0 ∷ 0 ∷ 0 ∷ 0 ∷ 0 ∷ 0 ∷ 0 ∷ q ∷ [])
    ++ (0 ∷ 0 ∷ 0 ∷ 0 ∷ 0 ∷ 0 ∷ 0 ∷ 0 ∷ 0 ∷ r ∷ [])
    ++ (0 ∷ 0 ∷ 1 ∷ 0 ∷ 1 ∷ 0 ∷ 0 ∷ 0 ∷ 0 ∷ 0 ∷ 0 ∷ 0 ∷ 0 ∷ 0 ∷ 0 ∷ 255 ∷ 1 ∷ [])
    ++ (1 ∷ 0 ∷ 1 ∷ 0 ∷ 1 ∷ 0 ∷ 0 ∷ 0 ∷ 0 ∷ 0 ∷ 0 ∷ 0 ∷ 0 ∷ 0 ∷ 0 ∷ 255 ∷ width ∷ [])
    ++ (2 ∷ 0 ∷ 1 ∷ 0 ∷ 1 ∷ 0 ∷ 0 ∷ 0 ∷ 0 ∷ 0 ∷ 0 ∷ 0 ∷ 0 ∷ 0 ∷ 0 ∷ 255 ∷ 1 ∷ [])

abbrev chosen : List ℕ
chosen =
    (0 ∷ 0 ∷ 0 ∷ 25 ∷ 1 ∷ 3 ∷ 3 ∷ [])
    ++ (0 ∷ 0 ∷ 0 ∷ 0 ∷ 0 ∷ 0 ∷ 0 ∷ 0 ∷ 0 ∷ 0 ∷ 0 ∷ 0 ∷ [])
    ++ (0 ∷ 1 ∷ 0 ∷ 1 ∷ 0 ∷ 1 ∷ [])

-- the plan with activity 0 at tick 0, the others at the given ticks, and the given words
abbrev planned : ℕ → ℕ → ℕ → ℕ → ℕ → List ℕ
planned b c w w' w'' =
    (0 ∷ 0 ∷ 0 ∷ 49 ∷ 1 ∷ 3 ∷ 3 ∷ 0 ∷ 4 ∷ [])
    ++ (0 ∷ 0 ∷ 0 ∷ 0 ∷ 0 ∷ 0 ∷ 0 ∷ 0 ∷ 0 ∷ 0 ∷ 0 ∷ 0 ∷ [])
    ++ (0 ∷ 0 ∷ 0 ∷ 1 ∷ 0 ∷ b ∷ 0 ∷ suc b ∷ 0 ∷ c ∷ 0 ∷ suc c ∷ [])
    ++ (0 ∷ 0 ∷ 0 ∷ w ∷ 0 ∷ 0 ∷ 0 ∷ w' ∷ 0 ∷ 0 ∷ 0 ∷ w'' ∷ 0 ∷ 0 ∷ 0 ∷ 0 ∷ [])

-- What is said of a model's bytes: the machine's words on that choice, the run's verdict, and the plain and the strict verdict on a
-- plan.
pub record Said : Type 0 where
  pub words : List ℕ
  pub run : Answer Figures
  pub plain : Answer Figures
  pub strict : Answer Figures

abbrev says : List ℕ → Answer Figures → Answer Figures → Answer Figures → Said
says words run plain strict = record { words = words; run = run; plain = plain; strict = strict }

abbrev today : List ℕ → List ℕ → Said
today s r =
    says (table (model s).horizon (machine_plan (model s) (choice chosen)).word) (printed (run_answer s chosen run_room))
    (plain_verdict s r) (strict_verdict s r)

abbrev formerly : List ℕ → List ℕ → Said
formerly s r =
    let form : List Rule = model_form s in
    let m : Model = model s in
    says (table m.horizon (FormerAnswers.machine_plan m (choice chosen)).word)
    (printed (FormerAnswers.run_answer form m chosen run_room)) (FormerChecks.plain_verdict form m r) (FormerChecks.strict_verdict form m r)

pub record Case : Type 0 where
  pub model-bytes : List ℕ
  pub plan-bytes : List ℕ
  pub now : Said
  pub before : Said

abbrev case : List ℕ → List ℕ → Said → Said → Case
case s r now before = record { model-bytes = s; plan-bytes = r; now = now; before = before }

-- the words 5 2 that pass over the gang at tick 0, and the words 3 4 that do not
abbrev cases : List Case
cases =
    -- width 1: what is said is the same
    case (gangs 1 5 3 3) (planned 0 1 3 4 0)
    (says (3 ∷ 4 ∷ 0 ∷ 0 ∷ []) (accepts 3 8 2) (accepts 3 8 2) (accepts 3 8 2))
    (says (3 ∷ 4 ∷ 0 ∷ 0 ∷ []) (accepts 3 8 2) (accepts 3 8 2) (accepts 3 8 2))
    -- width 2: the gang does not fit beside activity 0, and 28 counts its width
    ∷ case (gangs 2 5 3 3) (planned 0 1 3 4 0)
    (says (5 ∷ 2 ∷ 0 ∷ 0 ∷ []) (accepts 4 8 2) (refuses 28 0 0) (refuses 28 0 0))
    (says (3 ∷ 4 ∷ 0 ∷ 0 ∷ []) (accepts 3 8 2) (accepts 3 8 2) (accepts 3 8 2))
    -- it waits at tick 0 and does not count: 31, beside activity 2 of its priority, and 29, beside activity 2 of a lower one
    ∷ case (gangs 2 5 3 3) (planned 1 0 5 2 0)
    (says (5 ∷ 2 ∷ 0 ∷ 0 ∷ []) (accepts 4 8 2) (accepts 4 8 2) (accepts 4 8 2))
    (says (3 ∷ 4 ∷ 0 ∷ 0 ∷ []) (accepts 3 8 2) (accepts 3 8 2) (refuses 31 0 1))
    ∷ case (gangs 2 5 4 3) (planned 1 0 5 2 0)
    (says (5 ∷ 2 ∷ 0 ∷ 0 ∷ []) (accepts 4 8 2) (accepts 4 8 2) (accepts 4 8 2))
    (says (3 ∷ 4 ∷ 0 ∷ 0 ∷ []) (accepts 3 8 2) (refuses 29 0 1) (refuses 29 0 1))
    -- a core is free at tick 0, and activity 2 is the first that would fit there: 30
    ∷ case (gangs 2 5 3 3) (planned 1 2 1 2 4)
    (says (5 ∷ 2 ∷ 0 ∷ 0 ∷ []) (accepts 4 8 2) (accepts 4 8 3) (refuses 30 0 2))
    (says (3 ∷ 4 ∷ 0 ∷ 0 ∷ []) (accepts 3 8 2) (accepts 3 8 3) (refuses 30 0 1))
    ∷ []

-- a table is right in both columns
abbrev Right : List Case → Type 0
Right table =
    (map (λ c. today c.model-bytes c.plan-bytes) table ≡ map (λ c. c.now) table)
    × (map (λ c. formerly c.model-bytes c.plan-bytes) table ≡ map (λ c. c.before) table)

-- every former definition
unfoldable pub every_former : Unit {0}
unfolding ones FormerForm.page FormerForm.model_form FormerMachine.rank FormerMachine.selected FormerMachine.word_at FormerMachine.state_at
    FormerMachine.machine_word FormerMachine.machine_start FormerMachine.machine_end FormerMachine.machine_owes
    FormerChecks.rule28 FormerChecks.rule29 FormerChecks.rule30 FormerChecks.rule31 FormerChecks.plain_rules
    FormerChecks.strict_rules FormerChecks.figures FormerChecks.plain_verdict FormerChecks.strict_verdict
    FormerAnswers.machine_plan FormerAnswers.owed_rule FormerAnswers.run_rules FormerAnswers.concluded FormerAnswers.outcome
    FormerAnswers.run_outcome FormerAnswers.run_answer
    FormerExchange.wrapper_form FormerExchange.wrapper_rule FormerExchange.along FormerExchange.standing
    FormerExchange.pair_answer FormerExchange.pair_part FormerExchange.pair_bytes FormerExchange.file_answer FormerExchange.file_bytes
every_former = tt

pub gangs_as_before : Right cases
unfolding every every_former
gangs_as_before = (refl, refl)

-- not every model is answered as before
pub gangs_change : ¬ ((s : List ℕ) → AnswersAsBefore s (model_form s) (model s))
unfolding every every_former
gangs_change all =
    let wrong : ◌≡◌ {A = ℕ} 5 3 = (all (gangs 2 5 3 3)).words (λ _. 0) (λ _. 1) 0 in
    omega arith

-- ---- wrapped models

-- A record of series 7, live, of an issue: a model of a version, with so many bytes, c 2, H 1, one thread without a period and one
-- activity for one tick. Behind H stands i, and at the end the loop byte and the width, where the version has them.
abbrev sheet : ℕ → ℕ → ℕ → List ℕ → List ℕ → List ℕ
sheet issue size version i last =
    (0 ∷ 0 ∷ 0 ∷ (12 + size) ∷ 1 ∷ 0 ∷ 0 ∷ 0 ∷ 7 ∷ 0 ∷ issue ∷ 0 ∷ [])
    ++ (0 ∷ 0 ∷ 0 ∷ size ∷ version ∷ 2 ∷ 1 ∷ 1 ∷ 0 ∷ 1 ∷ [])
    ++ i
    ++ (0 ∷ 0 ∷ 0 ∷ 0 ∷ 0 ∷ 0 ∷ 0 ∷ 0 ∷ 0 ∷ 5 ∷ [])
    ++ (0 ∷ 0 ∷ 1 ∷ 0 ∷ 1 ∷ 0 ∷ 0 ∷ 0 ∷ 0 ∷ 0 ∷ 0 ∷ 0 ∷ 0 ∷ 0 ∷ 0 ∷ [])
    ++ last

-- 47 bytes, 49, and 50 with a width
abbrev first-version : List ℕ
first-version = sheet 1 35 1 [] []

abbrev second-version : List ℕ
second-version = sheet 2 37 2 (1 ∷ []) (255 ∷ [])

abbrev third_version : ℕ → List ℕ
third_version width = sheet 3 38 3 (1 ∷ []) (255 ∷ width ∷ [])

-- what is said of a file or of a pair, now and before
pub record Exchanged : Type 0 where
  pub now : Saying
  pub before : Saying

abbrev of_file : List ℕ → Exchanged
of_file f = record {
  now = parts (file_answer f) (file_bytes f);
  before = parts (FormerExchange.file_answer f) (FormerExchange.file_bytes f);
}

abbrev of_pair : List ℕ → List ℕ → Exchanged
of_pair x y = record {
  now = parts (pair_part x y) (pair_bytes x y);
  before = parts (FormerExchange.pair_part x y) (FormerExchange.pair_bytes x y);
}

-- the record of a number stands, with its first byte, how many it has and what they are; or 54 at a record
abbrev stands : ℕ → ℕ → ℕ → List ℕ → Saying
stands index offset length back = parts (accepted (record { index = index; offset = offset; length = length })) back

abbrev turned_away : ℕ → Saying
turned_away a = parts (refuses 54 a 0) []

-- a file or a pair, and what is expected of it now and before
pub record WrappedCase : Type 0 where
  pub answered : Exchanged
  pub expected : Exchanged

abbrev wrapped : Exchanged → Saying → Saying → WrappedCase
wrapped answered now before = record { answered = answered; expected = record { now = now; before = before } }

-- versions 1 and 2 are answered as before, in a file and in a pair; version 3 was turned away, of width 1 too
abbrev wrapped-cases : List WrappedCase
wrapped-cases =
    wrapped (of_file (first-version ++ second-version)) (stands 1 47 49 second-version) (stands 1 47 49 second-version)
    ∷ wrapped (of_pair second-version first-version) (stands 0 0 49 second-version) (stands 0 0 49 second-version)
    ∷ wrapped (of_file (first-version ++ second-version ++ third_version 2)) (stands 2 96 50 (third_version 2)) (turned_away 2)
    ∷ wrapped (of_file (first-version ++ third_version 1)) (stands 1 47 50 (third_version 1)) (turned_away 1)
    ∷ wrapped (of_pair (third_version 2) second-version) (stands 0 0 50 (third_version 2)) (turned_away 0)
    ∷ []

pub wrapped-before_and_now : map (λ c. c.answered) wrapped-cases ≡ map (λ c. c.expected) wrapped-cases
unfolding every every_former
wrapped-before_and_now = refl
