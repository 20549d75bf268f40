-- Other ways to take 24 out, or to keep it, that are nearly right, each with a literal plan for S on which the plain check
-- would answer otherwise than it does, and did. One table with one truth about it; the values are worked out by hand.
-- Assumes nothing.
use Prim.Native.Nat.{ℕ, ◌+◌, ◌<◌}
use mathlib.Core.List.{List, [], ◌∷◌, map}
use mathlib.Core.Path.{◌≡◌, refl}
use lib.Dec.{ltb}
use Rattle.schedule.specs.Rule.{Rule}
use Rattle.schedule.specs.Model.{Model, model}
use Rattle.schedule.specs.Plan.{Plan, plan}
use Rattle.schedule.specs.Checks.{count_of, plain_rules}
use Rattle.schedule.specs.Checks.{rule21, rule22, rule23, rule25, rule26, rule27, rule28, rule29}
use Rattle.schedule.specs.Answers.{Answer, Figures, plain_verdict, strict_verdict}
use Rattle.schedule.specs.Cases.{every, accepts, refuses}
use Rattle.schedule.specs.Starred.{model_s, plan_s, times, activity2_at_4}
use Rattle.demands.specs.Rule24.{rule24, former_plain, former_strict, verdict_by, former_plain_verdict, former_strict_verdict}

-- ---- the rules of the plain check in other books

-- 24 kept, and tried before 21
abbrev pub tried-first : Model → Plan → List Rule
tried-first m p = rule24 m p ∷ plain_rules m p

-- 21 taken out, and 24 kept
abbrev pub other_one_out : Model → Plan → List Rule
other_one_out m p =
    rule22 m p ∷ rule23 m p ∷ rule24 m p ∷ rule25 m p ∷ rule26 m p ∷ rule27 m p ∷ rule28 m p ∷ rule29 m p ∷ []

-- 24 kept, as end − start > count
abbrev pub longer : Model → Plan → Rule
longer m p = record {
  number = 24;
  rows = m.activities;
  columns = 1;
  Holds = λ a _. p.start a + count_of m p a < p.end a;
  test = λ a _. ltb (p.start a + count_of m p a) (p.end a);
}

abbrev pub longer_windows : Model → Plan → List Rule
longer_windows m p =
    rule21 m p ∷ rule22 m p ∷ rule23 m p ∷ longer m p ∷ rule25 m p ∷ rule26 m p ∷ rule27 m p ∷ rule28 m p ∷ rule29 m p ∷ []

-- 24 taken out, and its number given to the next rule
abbrev pub renumbered : Model → Plan → Rule
renumbered m p = record {
  number = 24;
  rows = (rule25 m p).rows;
  columns = (rule25 m p).columns;
  Holds = (rule25 m p).Holds;
  test = (rule25 m p).test;
}

abbrev pub number_used_again : Model → Plan → List Rule
number_used_again m p =
    rule21 m p ∷ rule22 m p ∷ rule23 m p ∷ renumbered m p ∷ rule26 m p ∷ rule27 m p ∷ rule28 m p ∷ rule29 m p ∷ []

-- ---- the table

-- The rules of another book, and a plan for S: what is right of it, by both checks, and what the plain check would answer by
-- the other book.
pub record Case : Type 1 where
  pub rules : Model → Plan → List Rule
  pub plan : List ℕ
  pub right : Answer Figures
  pub instead : Answer Figures

abbrev pub cases : List Case
cases =
    -- activity 0 is active at 1 and 2, and its window is 2 to 3: 21 and 24 are broken there
    record { rules = tried-first; plan = times 0 2 3 plan_s; right = refuses 21 0 0; instead = refuses 24 0 0 }
    ∷ record { rules = other_one_out; plan = times 0 2 3 plan_s; right = refuses 21 0 0; instead = refuses 24 0 0 }
    -- 21 is broken at 0 by a window that ends late, and both at 1
    ∷ record {
      rules = tried-first;
      plan = times 0 1 4 (times 1 3 4 plan_s);
      right = refuses 21 0 0;
      instead = refuses 24 1 0;
    }
    -- activity 1 is active at 0 and 3, and its window is 0 to 3: 21 is broken, 24 is not
    ∷ record { rules = other_one_out; plan = times 1 0 3 plan_s; right = refuses 21 1 0; instead = accepts 5 8 6 }
    -- S's own plan, in which activity 0 fills its window
    ∷ record { rules = longer_windows; plan = plan_s; right = accepts 5 8 6; instead = refuses 24 0 0 }
    -- "Activity 2 at tick 4 instead: 25 2 1"
    ∷ record {
      rules = number_used_again;
      plan = activity2_at_4 plan_s;
      right = refuses 25 2 1;
      instead = refuses 24 2 1;
    }
    ∷ []

-- what both checks answer, and answered with 24
abbrev rightly : Case → List (Answer Figures)
rightly c =
    plain_verdict model_s c.plan
    ∷ strict_verdict model_s c.plan
    ∷ former_plain_verdict model_s c.plan
    ∷ former_strict_verdict model_s c.plan
    ∷ []

abbrev wrongly : Case → Answer Figures
wrongly c = verdict_by (c.rules (model model_s) (plan c.plan)) model_s c.plan

-- a table is right in both columns
abbrev Right : List Case → Type 0
Right table =
    (map rightly table ≡ map (λ c. c.right ∷ c.right ∷ c.right ∷ c.right ∷ []) table)
    × (map wrongly table ≡ map (λ c. c.instead) table)

pub wrong_removals : Right cases
unfolding every rule24 former_plain former_strict verdict_by
wrong_removals = (refl, refl)
