-- "mark and clear single ticks in a lent plan" (U8 of 02): what an edit makes of a plan, 58 to 60, what a call answers and what it
-- leaves in the lent plan, and a list of calls over one model.
-- Assumes nothing.
use Rattle.std.specs.Prelude.{ℕ, ◌+◌, ◌<◌, Bool, true, false, not, cond, List, [], ◌∷◌, ◌++◌, ◌≡◌, eqb, ltb}
use Rattle.schedule.specs.Bounded.{bit, with_bit, without_bit, lowest, greatest}
use Rattle.schedule.specs.Rule.{Rule, first_break}
use Rattle.schedule.specs.Model.{Model, model, model_form}
use Rattle.schedule.specs.Plan.{Plan, plan, active, plan_form, plan_bytes}
use Rattle.schedule.specs.Answers.{Answer, accepted, refused, answer}
use Rattle.edit_rules.specs.declared.Edit.{Edit}

-- ---- an edit

-- a mark and a clear of an activity's bit at a tick
abbrev pub marking : ℕ → ℕ → Edit
marking a t = record { on = true; activity = a; tick = t }

abbrev pub clearing : ℕ → ℕ → Edit
clearing a t = record { on = false; activity = a; tick = t }

-- a word with the edit's bit as the edit wants it
abbrev pub word_with : Edit → ℕ → ℕ
word_with e w = cond e.on (with_bit w e.activity) (without_bit w e.activity)

-- the word of every tick after the edit: the changed one at its own tick, and elsewhere the old one
unfoldable pub edited_word : Plan → Edit → ℕ → ℕ
edited_word p e t = cond (eqb t e.tick) (word_with e (p.word e.tick)) (p.word t)

-- "start is its first marked tick and its end its last plus 1, or both 0 when none is marked", of the ticks below h
unfoldable pub first_marked : ℕ → (ℕ → Bool) → ℕ
first_marked h marked = let t : ℕ = lowest h marked in cond (ltb t h) t 0

unfoldable pub past_marked : ℕ → (ℕ → Bool) → ℕ
past_marked h marked = greatest h (λ t. cond (marked t) (t + 1) 0)

-- a plan after an edit: that word, "that activity's" start and end as the words then have them, and everything else as it was
unfoldable pub edited_plan : Plan → Edit → Plan
edited_plan p e =
    let marked : ℕ → Bool = λ t. bit (edited_word p e t) e.activity in
    record {
      threads = p.threads;
      activities = p.activities;
      horizon = p.horizon;
      release = p.release;
      period = p.period;
      start = λ a. cond (eqb a e.activity) (first_marked p.horizon marked) (p.start a);
      end = λ a. cond (eqb a e.activity) (past_marked p.horizon marked) (p.end a);
      word = edited_word p e;
    }

-- ---- 58 to 60

-- 58 "activity outside m": m is that of all rounds
unfoldable pub rule58 : Model → Edit → Rule
rule58 m e = record {
  number = 58;
  rows = 1;
  columns = 1;
  Holds = λ _ _. e.activity < m.activities;
  test = λ _ _. ltb e.activity m.activities;
}

-- 59 "tick outside H"
unfoldable pub rule59 : Model → Edit → Rule
rule59 m e = record {
  number = 59;
  rows = 1;
  columns = 1;
  Holds = λ _ _. e.tick < m.horizon;
  test = λ _ _. ltb e.tick m.horizon;
}

-- 60 "a bit already so"
unfoldable pub rule60 : Plan → Edit → Rule
rule60 p e = record {
  number = 60;
  rows = 1;
  columns = 1;
  Holds = λ _ _. ¬ (active p e.tick e.activity ≡ e.on);
  test = λ _ _. cond e.on (not (active p e.tick e.activity)) (active p e.tick e.activity);
}

abbrev pub edit_rules : Model → Plan → Edit → List Rule
edit_rules m p e = rule58 m e ∷ rule59 m e ∷ rule60 p e ∷ []

-- ---- a call

-- "after 1 to 14": the rules that a call tries, in their order
unfoldable pub edit_checks : List ℕ → List ℕ → Edit → List Rule
edit_checks s r e = model_form s ++ (plan_form (model s) r ++ edit_rules (model s) (plan r) e)

-- what it answers: "An unrefused call answers no figure"
unfoldable pub edit_answer : List ℕ → List ℕ → Edit → Answer (Unit {0})
edit_answer s r e = answer (first_break (edit_checks s r e)) tt

-- one thing where a call is unrefused, and another where it is refused
abbrev pub if_unrefused {ℓ} : {F : Type 0} {A : Type ℓ} → Answer F → A → A → A
if_unrefused (accepted _) done turned_away = done
if_unrefused (refused x) done turned_away = turned_away

-- what it leaves in the lent plan: the edited plan's bytes, and "nothing changed" where it is refused
unfoldable pub edit_bytes : List ℕ → List ℕ → Edit → List ℕ
edit_bytes s r e = if_unrefused (edit_answer s r e) (plan_bytes (edited_plan (plan r) e)) r

-- ---- a list of calls over one model, each on the plan as the one before left it

-- the plan's bytes after them
unfoldable pub edited_by : List ℕ → List ℕ → List Edit → List ℕ
edited_by s r [] = r
edited_by s r (e ∷ es) = edited_by s (edit_bytes s r e) es

-- what they answered, one after the other
unfoldable pub answers_to : List ℕ → List ℕ → List Edit → List (Answer (Unit {0}))
answers_to s r [] = []
answers_to s r (e ∷ es) = edit_answer s r e ∷ answers_to s (edit_bytes s r e) es

-- those that were unrefused, by these answers
unfoldable pub unrefused_by : List (Answer (Unit {0})) → List Edit → List Edit
unrefused_by [] es = []
unrefused_by (x ∷ xs) [] = []
unrefused_by (x ∷ xs) (e ∷ es) = let rest : List Edit = unrefused_by xs es in if_unrefused x (e ∷ rest) rest

abbrev pub unrefused : List ℕ → List ℕ → List Edit → List Edit
unrefused s r es = unrefused_by (answers_to s r es) es
