-- What follows from the rules and is worth reading by itself: the lengths, the deadline, the makespan, what it is to fail the
-- strict check, the page through the held view, and that the printed text fits the programs' arrays. What follows of efe is in
-- Efe.
-- Assumes nothing.
use Rattle.std.specs.Prelude.{ℕ, ◌+◌, ◌*◌, ◌≤◌, ◌<◌, cond, List, ◌≡◌, ltb, length}
use Rattle.schedule.specs.Bounded.{greatest, least}
use Rattle.schedule.specs.Fields.{Bytes}
use Rattle.schedule.specs.Rule.{Refusal, FirstBroken}
use Rattle.schedule.specs.Model.{Model, model, model_length}
use Rattle.schedule.specs.Timing.{Timing, InTime}
use Rattle.schedule.specs.Choice.{choice, choice_length}
use Rattle.schedule.specs.Plan.{plan, plan_length}
use Rattle.schedule.specs.Machine.{machine_word}
use Rattle.schedule.specs.Checks.{strict_rules}
use Rattle.schedule.specs.Answers.{accepted, refused, Figures, plain_verdict, strict_verdict, Written, length_needed, run_answer}
use Rattle.schedule.specs.Answers.{MeetsForm, WellFormed, PassesTests}
use Rattle.schedule.specs.Streams.{word, past, view_word}
use Rattle.schedule.specs.Lines.{gridcheck, gridrun, gridlate}
use Rattle.demands.specs.Strict.{HasChoices, plan_written}

-- the paper's formulas, from the places of a record's parts
pub record Lengths (n m H : ℕ) : Type 0 where
  -- "Length 10 + 10n + 15m", and with the bytes that versions 2 and 3 add (02)
  pub model_1 : model_length 1 n m ≡ 10 + 10 * n + 15 * m
  pub model_2 : model_length 2 n m ≡ 11 + 10 * n + 16 * m
  pub model_3 : model_length 3 n m ≡ 11 + 10 * n + 17 * m
  -- "Length 7 + 4n + 2m"
  pub choice : choice_length n m ≡ 7 + 4 * n + 2 * m
  -- "Length 9 + 4n + 4m + 4H"
  pub plan : plan_length n m H ≡ 9 + 4 * n + 4 * m + 4 * H

abbrev pub LengthsAre : Type 0
LengthsAre = (n m H : ℕ) → Lengths n m H

-- "a thread with a period" has "end ≤ release + period"
abbrev pub DeadlineIs : Type 1
DeadlineIs = (m : Model) (timing : Timing) (end : ℕ → ℕ) (a : ℕ)
    → InTime m timing end a
    ≡ ((¬ (timing.period (m.thread a) ≡ 0)) → end a ≤ timing.release (m.thread a) + timing.period (m.thread a))

-- what the plain check passes has a greatest end above its least release, so that the makespan is their whole difference
abbrev pub MakespanWhole : Type 0
MakespanWhole = (s r : List ℕ) (f : Figures) → plain_verdict s r ≡ accepted f
    → (least (model s).threads (plan r).release < greatest (model s).activities (plan r).end)
    × (f.makespan + least (model s).threads (plan r).release ≡ greatest (model s).activities (plan r).end)

-- a plan is refused by the strict check with the number and the place of the first break
abbrev pub RefusedStrictly : List ℕ → List ℕ → Type 1
RefusedStrictly s r = (x : Refusal) × ((strict_verdict s r ≡ refused x) × FirstBroken (strict_rules (model s) (plan r)) x)

-- so is a well-formed plan that does not pass it
abbrev pub StrictFails : Type 1
StrictFails = (s r : List ℕ) → MeetsForm s → WellFormed s r → ((f : Figures) → ¬ (strict_verdict s r ≡ accepted f))
    → RefusedStrictly s r

-- and where the run refuses, every well-formed plan with those choices
abbrev pub AllRefused : Type 1
AllRefused = (s q buffer : List ℕ) → Bytes q → MeetsForm s → PassesTests s q → length_needed (model s) ≤ length buffer
    → (y : Refusal) → run_answer s q (length buffer) ≡ refused y
    → (r : List ℕ) → Bytes r → WellFormed s r → HasChoices (model s) (choice q) (plan r) → RefusedStrictly s r

-- the plan that a run wrote gives the machine's page through the view: its word at every tick, and past from H on
abbrev pub ViewOfWritten : Type 0
ViewOfWritten = (s q buffer : List ℕ) → Bytes q → (w : Written) → run_answer s q (length buffer) ≡ accepted w
    → (t : ℕ) → view_word s (plan_written s q buffer w) t
    ≡ cond (ltb t (model s).horizon) (word (machine_word (model s) (choice q).release (choice q).duration t)) past

-- The printed text fits, for every input: gridcheck's two lines; gridrun's page, 14 bytes for each of 4096 ticks and 46 for the
-- last line; and gridlate's lines, 10 for each of 32 activities and again 46.
pub record TextFits : Type 0 where
  pub of_gridcheck : (input : List ℕ) → length (gridcheck input) ≤ 97
  pub of_gridrun : (input : List ℕ) → Bytes input → length (gridrun input) ≤ 57390
  pub of_gridlate : (input : List ℕ) → Bytes input → length (gridlate input) ≤ 366
