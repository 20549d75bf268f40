-- Demand 3 is about something: for model S and its choice a plan passes the strict check, and for S with H 5 none does.
-- Assumes nothing.
use Rattle.std.specs.Prelude.{List, ℕ}
use Rattle.schedule.specs.Starred.{model_s, choice_s, horizon}
use Rattle.demands.specs.Strict.{Passes}

abbrev pub SomePlanAtS : Type 0
SomePlanAtS = (r : List ℕ) × Passes model_s choice_s r

abbrev pub NoPlanAtH5 : Type 0
NoPlanAtH5 = (r : List ℕ) → ¬ Passes (horizon 5) choice_s r
