-- Demand 3 is about something: for model S and its choice a plan passes the strict check, and for S with H 5 none does.
-- Assumes nothing.
use Prim.Native.Nat.{ℕ}
use native.Mathlib.Omega.{arith}
use mathlib.Core.List.{List}
use mathlib.Core.Path.{refl}
use lib.Dec.{ltb, ltb→lt}
use lib.ListN.{length, get_or, replicate}
use Rattle.schedule.specs.Bounded.{all}
use Rattle.schedule.specs.Fields.{Bytes}
use Rattle.schedule.specs.Model.{model}
use Rattle.schedule.specs.Cases.{every}
use Rattle.schedule.specs.Starred.{model_s, choice_s, horizon}
use Rattle.laws.proofs.Tests.{T_all}
use Rattle.demands.specs.AtS.{SomePlanAtS, NoPlanAtH5}
use Rattle.demands.proofs.Demand2.{model-formed, choice-formed}
use Rattle.demands.proofs.Demand3.{demand_3}

choice-bytes : Bytes choice_s
unfolding all
choice-bytes i l =
    ltb→lt (get_or choice_s i 0) 256 ((T_all (length choice_s) (λ i. ltb (get_or choice_s i 0) 256)).0 tt i l)

-- a buffer that is long enough for both
buffer : List ℕ
buffer = replicate 61 0

-- a plan record passes for S
pub some-plan_at_S : SomePlanAtS
unfolding every buffer
some-plan_at_S =
    (demand_3 model_s choice_s buffer choice-bytes ((model-formed model_s).0 refl) ((choice-formed (model model_s) choice_s).0 refl)
    (omega arith)).exactly.0
    (record { length = 61; figures = record { usage = 5; capacity = 8; makespan = 6 } }, refl)

-- none does for S with H 5
pub no_plan_at_H_5 : NoPlanAtH5
unfolding every buffer
no_plan_at_H_5 =
    (demand_3 (horizon 5) choice_s buffer choice-bytes ((model-formed (horizon 5)).0 refl)
    ((choice-formed (model (horizon 5)) choice_s).0 refl) (omega arith)).none_passes
    (record { number = 42; A = 2; B = 0 }) refl
