-- Demand 3 as a statement on records: what the run's success and refusal say of all plan records.
-- Assumes nothing.
use Rattle.std.specs.Prelude.{ℕ, ◌≤◌, ◌<◌, List, ◌↔◌, ◌≡◌, length, take}
use Rattle.schedule.specs.Fields.{Bytes}
use Rattle.schedule.specs.Rule.{Refusal}
use Rattle.schedule.specs.Model.{Model, model}
use Rattle.schedule.specs.Choice.{Choice, choice}
use Rattle.schedule.specs.Plan.{Plan, plan}
use Rattle.schedule.specs.Checks.{count_of}
use Rattle.schedule.specs.Answers.{accepted, refused, Figures, plain_verdict, strict_verdict}
use Rattle.schedule.specs.Answers.{Written, length_needed, run_answer, run_buffer}
use Rattle.schedule.specs.Answers.{MeetsForm, WellFormed, PassesTests}

-- "A plan has the choices of such a record when its releases and periods equal the record's and, for each activity a,
-- count(a) is the chosen duration of a"
pub record HasChoices (m : Model) (q : Choice) (p : Plan) : Type 0 where
  pub releases : (j : ℕ) → j < m.threads → p.release j ≡ q.release j
  pub periods : (j : ℕ) → j < m.threads → p.period j ≡ q.period j
  pub durations : (a : ℕ) → a < m.activities → count_of m p a ≡ q.duration a

-- A plan record that is well-formed for the model, has the choices of the choice record, and passes the strict check
-- with these figures.
pub record PassesWith (s q r : List ℕ) (f : Figures) : Type 0 where
  pub bytes : Bytes r
  pub well_formed : WellFormed s r
  pub choices : HasChoices (model s) (choice q) (plan r)
  pub strict : strict_verdict s r ≡ accepted f

-- the same, with whatever figures
abbrev pub Passes : List ℕ → List ℕ → List ℕ → Type 0
Passes s q r = (f : Figures) × PassesWith s q r f

-- the run of these records with this buffer succeeds
abbrev pub Succeeds : List ℕ → List ℕ → List ℕ → Type 0
Succeeds s q buffer = (w : Written) × (run_answer s q (length buffer) ≡ accepted w)

-- "The plan that a successful run wrote is the lent buffer's first bytes, as many as the length it answers"
abbrev pub plan_written : List ℕ → List ℕ → List ℕ → Written → List ℕ
plan_written s q buffer w = take w.length (run_buffer s q buffer)

-- Demand 3, of a model, a choice and a lent buffer.
pub record SingleStrictPlan (s q buffer : List ℕ) : Type 0 where
  -- "the run succeeds exactly when some well-formed plan with those choices passes the strict check"
  pub exactly : Succeeds s q buffer ↔ ((r : List ℕ) × Passes s q r)
  -- the plan it wrote passes the strict check, with the figures that the run answered
  pub strict : (w : Written) → run_answer s q (length buffer) ≡ accepted w
      → PassesWith s q (plan_written s q buffer w) w.figures
  -- and the plain check, with the same figures
  pub plain : (w : Written) → run_answer s q (length buffer) ≡ accepted w
      → plain_verdict s (plan_written s q buffer w) ≡ accepted w.figures
  -- it is the only one, byte for byte
  pub only : (w : Written) → run_answer s q (length buffer) ≡ accepted w
      → (r : List ℕ) → Passes s q r → r ≡ plan_written s q buffer w
  -- "when it refuses, none passes"
  pub none_passes : (x : Refusal) → run_answer s q (length buffer) ≡ refused x → (r : List ℕ) → ¬ Passes s q r

-- Demand 3, whole: for a model that meets its form rules, a choice that passes its tests and a buffer that is long enough
abbrev pub Demand3 : Type 0
Demand3 = (s q buffer : List ℕ) → Bytes q → MeetsForm s → PassesTests s q
    → length_needed (model s) ≤ length buffer → SingleStrictPlan s q buffer
