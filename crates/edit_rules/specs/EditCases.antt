-- Marks and clears on literal plans (U8 of 02): what each call of a list answers, and every byte of the plan after the list. One
-- table with one truth about it; the expected values are worked out by hand from the request's words.
-- Assumes nothing.
use Rattle.std.specs.Prelude.{ℕ, ◌+◌, ◌*◌, List, [], ◌∷◌, ◌++◌, map, ◌≡◌, refl}
use Rattle.schedule.specs.Bounded
use Rattle.schedule.specs.Bounded.{chain}
use Rattle.schedule.specs.Answers.{Answer, accepted}
use Rattle.schedule.specs.Cases.{every, patch, refuses}
use Rattle.schedule.specs.Starred.{model_s, plan_s, times, activity2_at_6}
use Rattle.edit_rules.specs.declared.Edit.{Edit}
use Rattle.edit_rules.specs.Edits
use Rattle.edit_rules.specs.Edits.{marking, clearing, edited_by, answers_to, unrefused}

-- ---- the form of the table

-- a model, a plan and a list of calls, with what they answer, those that are unrefused, and the plan's bytes after them
pub record EditCase : Type 0 where
  pub model : List ℕ
  pub plan : List ℕ
  pub calls : List Edit
  pub answers : List (Answer (Unit {0}))
  pub unrefused_calls : List Edit
  pub after : List ℕ

-- the definitions say what is expected, in every case of a table
abbrev pub AllRight : List EditCase → Type 0
AllRight cases =
    (map (λ c. answers_to c.model c.plan c.calls) cases ≡ map (λ c. c.answers) cases)
    × (map (λ c. unrefused c.model c.plan c.calls) cases ≡ map (λ c. c.unrefused_calls) cases)
    × (map (λ c. edited_by c.model c.plan c.calls) cases ≡ map (λ c. c.after) cases)

abbrev pub done : Answer (Unit {0})
done = accepted tt

abbrev pub no : {F : Type 0} → ℕ → Answer F
no number = refuses number 0 0

-- an unrefused call with the plan after it, and a refused one, which changes nothing
abbrev made : List ℕ → List ℕ → Edit → List ℕ → EditCase
made model plan e after = record {
  model = model;
  plan = plan;
  calls = e ∷ [];
  answers = done ∷ [];
  unrefused_calls = e ∷ [];
  after = after;
}

abbrev turned : List ℕ → List ℕ → Edit → Answer (Unit {0}) → EditCase
turned model plan e said = record {
  model = model;
  plan = plan;
  calls = e ∷ [];
  answers = said ∷ [];
  unrefused_calls = [];
  after = plan;
}

-- ---- model S: activity 0 at ticks 1 and 2, activity 1 at 0 and 3, activity 2 at 5

-- its plan with another word at a tick
abbrev pub word : ℕ → ℕ → List ℕ → List ℕ
word t w r = patch (29 + 4 * t) (0 ∷ 0 ∷ 0 ∷ w ∷ []) r

abbrev on_S : List EditCase
on_S =
    -- a last mark, a first one, and one at tick 0
    made model_s plan_s (marking 2 6) (times 2 5 7 (word 6 4 plan_s))
    ∷ made model_s plan_s (marking 2 4) (times 2 4 6 (word 4 4 plan_s))
    ∷ made model_s plan_s (marking 2 0) (times 2 0 6 (word 0 6 plan_s))
    -- the only tick cleared, the first and the last
    ∷ made model_s plan_s (clearing 2 5) (times 2 0 0 (word 5 0 plan_s))
    ∷ made model_s plan_s (clearing 0 1) (times 0 2 3 (word 1 0 plan_s))
    ∷ made model_s plan_s (clearing 0 2) (times 0 1 2 (word 2 0 plan_s))
    -- what is left is tick 0: the end tells it from nothing
    ∷ made model_s plan_s (clearing 1 3) (times 1 0 1 (word 3 0 plan_s))
    -- a tick between two marked ones is free too, and the row stays
    ∷ made model_s plan_s (marking 1 2) (word 2 3 plan_s)
    ∷ []

-- rows that disagree with the bits: beside them, inside them and around them
abbrev disagreeing : List EditCase
disagreeing =
    made model_s (times 2 1 2 plan_s) (marking 2 6) (times 2 5 7 (word 6 4 plan_s))
    ∷ made model_s (times 0 2 2 plan_s) (clearing 0 1) (times 0 2 3 (word 1 0 plan_s))
    ∷ made model_s (times 2 0 8 plan_s) (marking 2 6) (times 2 5 7 (word 6 4 plan_s))
    ∷ made model_s (times 2 3 9 plan_s) (clearing 2 5) (times 2 0 0 (word 5 0 plan_s))
    -- a row that says none, one with both its ends marked, and one with the tick inside it
    ∷ made model_s (times 2 0 0 plan_s) (marking 2 6) (times 2 5 7 (word 6 4 plan_s))
    ∷ made model_s (times 1 0 1 plan_s) (marking 1 1) (times 1 0 4 (word 1 3 plan_s))
    ∷ made model_s (times 0 0 8 plan_s) (clearing 0 2) (times 0 1 2 (word 2 0 plan_s))
    -- another activity's wrong row is left alone, of a lower number, of a higher one, and of one at the same tick
    ∷ made model_s (times 0 9 2 plan_s) (marking 2 6) (times 0 9 2 (times 2 5 7 (word 6 4 plan_s)))
    ∷ made model_s (times 1 0 0 plan_s) (clearing 2 5) (times 1 0 0 (times 2 0 0 (word 5 0 plan_s)))
    ∷ made model_s (times 2 7 7 plan_s) (marking 0 3) (times 2 7 7 (times 0 1 4 (word 3 3 plan_s)))
    ∷ made model_s (times 0 9 2 plan_s) (marking 2 1) (times 0 9 2 (times 2 1 6 (word 1 5 plan_s)))
    -- and so is a wrong row where the call is refused
    ∷ turned model_s (times 0 9 2 plan_s) (marking 0 1) (no 60)
    ∷ []

-- 58, 59 and 60, and their order
abbrev refusals : List EditCase
refusals =
    turned model_s plan_s (marking 3 0) (no 58)
    ∷ turned model_s plan_s (clearing 3 0) (no 58)
    ∷ turned model_s plan_s (marking 32 0) (no 58)
    ∷ turned model_s plan_s (marking 255 0) (no 58)
    ∷ turned model_s plan_s (marking 258 6) (no 58)
    ∷ turned model_s plan_s (marking 4294967295 0) (no 58)
    ∷ turned model_s plan_s (marking 0 8) (no 59)
    ∷ turned model_s plan_s (clearing 2 8) (no 59)
    ∷ turned model_s plan_s (marking 2 65542) (no 59)
    ∷ turned model_s plan_s (marking 0 4294967295) (no 59)
    ∷ turned model_s plan_s (marking 0 1) (no 60)
    ∷ turned model_s plan_s (clearing 0 0) (no 60)
    ∷ turned model_s plan_s (clearing 3 8) (no 58)
    ∷ turned model_s plan_s (marking 4294967295 4294967295) (no 58)
    -- the records come first, the model before the plan
    ∷ turned [] [] (marking 3 8) (refuses 1 0 0)
    ∷ turned (patch 53 (2 ∷ []) model_s) [] (marking 3 8) (refuses 7 1 0)
    ∷ turned model_s [] (marking 3 8) (refuses 8 0 0)
    ∷ turned model_s (patch 9 (0 ∷ 3 ∷ []) plan_s) (marking 3 8) (refuses 12 0 0)
    ∷ turned model_s (word 7 8 plan_s) (marking 3 8) (refuses 14 7 0)
    ∷ turned model_s (word 7 8 plan_s) (clearing 3 7) (refuses 14 7 0)
    ∷ []

-- lists of calls
abbrev lists : List EditCase
lists =
    record { model = model_s; plan = plan_s; calls = []; answers = []; unrefused_calls = []; after = plan_s }
    -- activity 2 moved to tick 6, one of the starred plans
    ∷ record {
      model = model_s;
      plan = plan_s;
      calls = marking 2 6 ∷ marking 2 6 ∷ clearing 2 5 ∷ marking 3 6 ∷ [];
      answers = done ∷ no 60 ∷ done ∷ no 58 ∷ [];
      unrefused_calls = marking 2 6 ∷ clearing 2 5 ∷ [];
      after = activity2_at_6 plan_s;
    }
    -- the first mark of an activity that has none, at the last tick
    ∷ record {
      model = model_s;
      plan = plan_s;
      calls = clearing 2 5 ∷ marking 2 7 ∷ [];
      answers = done ∷ done ∷ [];
      unrefused_calls = clearing 2 5 ∷ marking 2 7 ∷ [];
      after = times 2 7 8 (word 5 0 (word 7 4 plan_s));
    }
    -- a middle tick cleared
    ∷ record {
      model = model_s;
      plan = plan_s;
      calls = marking 0 3 ∷ clearing 0 2 ∷ [];
      answers = done ∷ done ∷ [];
      unrefused_calls = marking 0 3 ∷ clearing 0 2 ∷ [];
      after = times 0 1 4 (word 2 0 (word 3 3 plan_s));
    }
    -- three activities, two of them at one tick
    ∷ record {
      model = model_s;
      plan = plan_s;
      calls = marking 0 4 ∷ marking 1 5 ∷ clearing 2 5 ∷ [];
      answers = done ∷ done ∷ done ∷ [];
      unrefused_calls = marking 0 4 ∷ marking 1 5 ∷ clearing 2 5 ∷ [];
      after = times 0 1 5 (times 1 0 6 (times 2 0 0 (word 4 1 (word 5 2 plan_s))));
    }
    -- refused calls among the others: the last unrefused one on a bit counts
    ∷ record {
      model = model_s;
      plan = times 2 9 9 plan_s;
      calls = marking 2 6 ∷ marking 2 6 ∷ clearing 2 5 ∷ clearing 2 5 ∷ marking 3 0 ∷ marking 2 5 ∷ clearing 2 6 ∷ [];
      answers = done ∷ no 60 ∷ done ∷ no 60 ∷ no 58 ∷ done ∷ done ∷ [];
      unrefused_calls = marking 2 6 ∷ clearing 2 5 ∷ marking 2 5 ∷ clearing 2 6 ∷ [];
      after = plan_s;
    }
    ∷ []

-- ---- pages of several rounds, of gangs, and of 32 activities

-- two rounds of two activities: m is 4, and activity 3 is 1 in round 1, at ticks 7 and 8
abbrev pub model_r : List ℕ
model_r =
    (0 ∷ 0 ∷ 0 ∷ 53 ∷ 2 ∷ 1 ∷ 1 ∷ 2 ∷ 0 ∷ 10 ∷ 2 ∷ [])
    ++ (0 ∷ 5 ∷ 0 ∷ 5 ∷ 0 ∷ 0 ∷ 0 ∷ 1 ∷ 0 ∷ 1 ∷ [])
    ++ (0 ∷ 0 ∷ 1 ∷ 0 ∷ 2 ∷ 0 ∷ 0 ∷ 0 ∷ 0 ∷ 0 ∷ 0 ∷ 0 ∷ 0 ∷ 0 ∷ 0 ∷ 1 ∷ [])
    ++ (0 ∷ 0 ∷ 2 ∷ 0 ∷ 3 ∷ 0 ∷ 1 ∷ 0 ∷ 0 ∷ 0 ∷ 0 ∷ 0 ∷ 0 ∷ 0 ∷ 1 ∷ 255 ∷ [])

abbrev pub plan_r : List ℕ
plan_r =
    (0 ∷ 0 ∷ 0 ∷ 73 ∷ 1 ∷ 2 ∷ 4 ∷ 0 ∷ 10 ∷ [])
    ++ (0 ∷ 0 ∷ 0 ∷ 5 ∷ 0 ∷ 5 ∷ 0 ∷ 5 ∷ [])
    ++ (0 ∷ 0 ∷ 0 ∷ 2 ∷ 0 ∷ 2 ∷ 0 ∷ 5 ∷ 0 ∷ 6 ∷ 0 ∷ 7 ∷ 0 ∷ 7 ∷ 0 ∷ 9 ∷ [])
    ++ (0 ∷ 0 ∷ 0 ∷ 1 ∷ 0 ∷ 0 ∷ 0 ∷ 1 ∷ 0 ∷ 0 ∷ 0 ∷ 2 ∷ 0 ∷ 0 ∷ 0 ∷ 2 ∷ 0 ∷ 0 ∷ 0 ∷ 2 ∷ [])
    ++ (0 ∷ 0 ∷ 0 ∷ 0 ∷ 0 ∷ 0 ∷ 0 ∷ 4 ∷ 0 ∷ 0 ∷ 0 ∷ 8 ∷ 0 ∷ 0 ∷ 0 ∷ 8 ∷ 0 ∷ 0 ∷ 0 ∷ 0 ∷ [])

-- a gang, activity 1 of width 2, at ticks 2 and 3: one bit of a word
abbrev pub model_g : List ℕ
model_g =
    (0 ∷ 0 ∷ 0 ∷ 92 ∷ 3 ∷ 2 ∷ 3 ∷ 3 ∷ 0 ∷ 6 ∷ 1 ∷ [])
    ++ (0 ∷ 0 ∷ 0 ∷ 0 ∷ 0 ∷ 0 ∷ 0 ∷ 0 ∷ 0 ∷ 3 ∷ [])
    ++ (0 ∷ 6 ∷ 0 ∷ 6 ∷ 0 ∷ 0 ∷ 0 ∷ 0 ∷ 0 ∷ 2 ∷ [])
    ++ (0 ∷ 0 ∷ 0 ∷ 0 ∷ 0 ∷ 0 ∷ 0 ∷ 0 ∷ 0 ∷ 1 ∷ [])
    ++ (0 ∷ 0 ∷ 1 ∷ 0 ∷ 2 ∷ 0 ∷ 0 ∷ 0 ∷ 0 ∷ 0 ∷ 0 ∷ 0 ∷ 0 ∷ 0 ∷ 0 ∷ 255 ∷ 1 ∷ [])
    ++ (1 ∷ 0 ∷ 1 ∷ 0 ∷ 2 ∷ 0 ∷ 0 ∷ 0 ∷ 0 ∷ 0 ∷ 0 ∷ 0 ∷ 0 ∷ 0 ∷ 0 ∷ 255 ∷ 2 ∷ [])
    ++ (2 ∷ 0 ∷ 1 ∷ 0 ∷ 3 ∷ 0 ∷ 0 ∷ 0 ∷ 0 ∷ 0 ∷ 0 ∷ 0 ∷ 0 ∷ 0 ∷ 0 ∷ 255 ∷ 1 ∷ [])

abbrev pub plan_g : List ℕ
plan_g =
    (0 ∷ 0 ∷ 0 ∷ 57 ∷ 1 ∷ 3 ∷ 3 ∷ 0 ∷ 6 ∷ [])
    ++ (0 ∷ 0 ∷ 0 ∷ 0 ∷ 0 ∷ 0 ∷ 0 ∷ 6 ∷ 0 ∷ 0 ∷ 0 ∷ 0 ∷ [])
    ++ (0 ∷ 0 ∷ 0 ∷ 2 ∷ 0 ∷ 2 ∷ 0 ∷ 4 ∷ 0 ∷ 0 ∷ 0 ∷ 5 ∷ [])
    ++ (0 ∷ 0 ∷ 0 ∷ 5 ∷ 0 ∷ 0 ∷ 0 ∷ 5 ∷ 0 ∷ 0 ∷ 0 ∷ 2 ∷ 0 ∷ 0 ∷ 0 ∷ 2 ∷ 0 ∷ 0 ∷ 0 ∷ 4 ∷ 0 ∷ 0 ∷ 0 ∷ 0 ∷ [])

-- 32 activities of one thread and one tick, none of them marked
abbrev model32 : List ℕ
model32 =
    (0 ∷ 0 ∷ 1 ∷ 244 ∷ 1 ∷ 1 ∷ 1 ∷ 32 ∷ 0 ∷ 1 ∷ [])
    ++ (0 ∷ 0 ∷ 0 ∷ 0 ∷ 0 ∷ 0 ∷ 0 ∷ 0 ∷ 0 ∷ 1 ∷ [])
    ++ chain 32 (λ _. 0 ∷ 0 ∷ 1 ∷ 0 ∷ 1 ∷ 0 ∷ 0 ∷ 0 ∷ 0 ∷ 0 ∷ 0 ∷ 0 ∷ 0 ∷ 0 ∷ 0 ∷ [])

abbrev plan32 : List ℕ
plan32 =
    (0 ∷ 0 ∷ 0 ∷ 145 ∷ 1 ∷ 1 ∷ 32 ∷ 0 ∷ 1 ∷ [])
    ++ (0 ∷ 0 ∷ 0 ∷ 0 ∷ [])
    ++ chain 32 (λ _. 0 ∷ 0 ∷ 0 ∷ 0 ∷ [])
    ++ (0 ∷ 0 ∷ 0 ∷ 0 ∷ [])

abbrev others : List EditCase
others =
    made model_r plan_r (marking 3 9) (patch 29 (0 ∷ 7 ∷ 0 ∷ 10 ∷ []) (patch 69 (0 ∷ 0 ∷ 0 ∷ 8 ∷ []) plan_r))
    ∷ made model_r plan_r (clearing 2 6) (patch 25 (0 ∷ 0 ∷ 0 ∷ 0 ∷ []) (patch 57 (0 ∷ 0 ∷ 0 ∷ 0 ∷ []) plan_r))
    ∷ turned model_r plan_r (marking 4 0) (no 58)
    ∷ turned model_r plan_r (marking 3 10) (no 59)
    ∷ turned model_r plan_r (marking 2 6) (no 60)
    -- a plan of the counts of one round, and a width above c: both before 58
    ∷ turned model_r (patch 6 (2 ∷ []) plan_r) (marking 4 0) (refuses 10 0 0)
    ∷ turned (patch 91 (3 ∷ []) model_g) plan_g (marking 3 0) (refuses 57 2 0)
    ∷ made model_g plan_g (marking 1 4) (patch 25 (0 ∷ 2 ∷ 0 ∷ 5 ∷ []) (patch 49 (0 ∷ 0 ∷ 0 ∷ 6 ∷ []) plan_g))
    ∷ made model_g plan_g (clearing 1 2) (patch 25 (0 ∷ 3 ∷ 0 ∷ 4 ∷ []) (patch 41 (0 ∷ 0 ∷ 0 ∷ 0 ∷ []) plan_g))
    ∷ turned model_g plan_g (clearing 1 4) (no 60)
    -- the bit beside it is another activity's, clear or set
    ∷ made model_g plan_g (marking 1 5) (patch 25 (0 ∷ 2 ∷ 0 ∷ 6 ∷ []) (patch 53 (0 ∷ 0 ∷ 0 ∷ 2 ∷ []) plan_g))
    ∷ record {
      model = model_g;
      plan = plan_g;
      calls = marking 1 4 ∷ clearing 1 4 ∷ [];
      answers = done ∷ done ∷ [];
      unrefused_calls = marking 1 4 ∷ clearing 1 4 ∷ [];
      after = plan_g;
    }
    ∷ record {
      model = model32;
      plan = plan32;
      calls = marking 31 0 ∷ marking 32 0 ∷ marking 0 0 ∷ clearing 0 0 ∷ [];
      answers = done ∷ no 58 ∷ done ∷ done ∷ [];
      unrefused_calls = marking 31 0 ∷ marking 0 0 ∷ clearing 0 0 ∷ [];
      after = patch 137 (0 ∷ 0 ∷ 0 ∷ 1 ∷ 128 ∷ 0 ∷ 0 ∷ 0 ∷ []) plan32;
    }
    ∷ []

-- ---- the table

abbrev cases : List EditCase
cases = on_S ++ disagreeing ++ refusals ++ lists ++ others

pub edit_cases : AllRight cases
unfolding every Bounded.without_bit Edits.edited_word Edits.first_marked Edits.past_marked Edits.edited_plan
    Edits.rule58 Edits.rule59 Edits.rule60 Edits.edit_checks Edits.edit_answer Edits.edit_bytes Edits.edited_by Edits.answers_to
    Edits.unrefused_by
edit_cases = (refl, refl, refl)
