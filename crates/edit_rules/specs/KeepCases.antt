-- Asks, keeps and direct edits on literal plans (U9 of 02): what each call of a list answers, the edits that are kept, and the state
-- and every byte of the plan after the list; lists whose calls are each lent a model and a plan of their own; and the numbers of the
-- refusals. The expected values are worked out by hand from the words of the request and of the rules.
-- Assumes nothing.
use Rattle.std.specs.Prelude.{ℕ, List, [], ◌∷◌, ◌++◌, map, ◌≡◌, refl}
use Rattle.std.proofs.Math.Option.{Option, some, none}
use Rattle.schedule.specs.Bounded
use Rattle.schedule.specs.Rule.{Refusal}
use Rattle.schedule.specs.Answers.{Answer, accepted, Figures}
use Rattle.schedule.specs.Cases.{every, patch, accepts, refuses}
use Rattle.schedule.specs.Starred.{model_s, plan_s, times, activity2_at_6, wider_period}
use Rattle.edit_rules.specs.declared.Edit.{Edit}
use Rattle.std.specs.Prelude.{Some, None}
use Rattle.edit_rules.specs.Keeping.{Asked}
use Rattle.edit_rules.specs.declared.Editing.{Editing}
use Rattle.edit_rules.specs.declared.EditRefusal.{EditRefusal}
use Rattle.edit_rules.specs.declared.Reason.{Reason}
use Rattle.edit_rules.specs.declared.Unkept.{Unkept}
use Rattle.edit_rules.specs.Edits
use Rattle.edit_rules.specs.Edits.{marking, clearing}
use Rattle.edit_rules.specs.Keeping
use Rattle.edit_rules.specs.Keeping.{nothing_asked, asking, Call, ask, keep, direct, Session, begun, left_by}
use Rattle.edit_rules.specs.Keeping.{Entry, asks, keeps, edits, entries, kept_after, Lent, state_by, seen_by}
use Rattle.edit_rules.specs.EditNumbers.{unkept_numbers}
use Rattle.edit_rules.specs.EditCases.{word, done, no, model_r, plan_r, model_g, plan_g}

-- ---- the form of the table

-- A model, the state and the plan before the calls, the calls with what they answer, the edits that are kept, and the state and the
-- plan after the calls.
pub record KeepCase : Type 0 where
  pub model : List ℕ
  pub before : Session
  pub calls : List Entry
  pub edits_kept : List Edit
  pub after : Session

abbrev call_of : Entry → Call
call_of (asks e said) = ask e
call_of (keeps said) = keep
call_of (edits e said) = direct e

-- the edit that is asked before the first call, if there is one
abbrev asked_before : Asked → Option Edit
asked_before None = none
asked_before (Some e) = some e

-- the definitions say what is expected, in every case of a table
abbrev pub AllRight : List KeepCase → Type 0
AllRight cases =
    (map (λ c. entries c.model c.before (map call_of c.calls)) cases ≡ map (λ c. c.calls) cases)
    × (map (λ c. kept_after (asked_before c.before.state.asked) c.calls) cases ≡ map (λ c. c.edits_kept) cases)
    × (map (λ c. left_by c.model c.before (map call_of c.calls)) cases ≡ map (λ c. c.after) cases)

-- a verdict that is told: accepted with its figures, or a rule and its place
abbrev told : ℕ → ℕ → ℕ → Answer (Answer Figures)
told number a b = accepted (refuses number a b)

abbrev passes : ℕ → ℕ → ℕ → Answer (Answer Figures)
passes u c h = accepted (accepts u c h)

-- an edit that is asked, with a plan
abbrev holding : Edit → List ℕ → Session
holding e r = record { state = asking e; plan = r }

-- S's plan with one of its ticks cleared or marked
abbrev without_2_5 : List ℕ
without_2_5 = times 2 0 0 (word 5 0 plan_s)

abbrev with_2_6 : List ℕ
with_2_6 = times 2 5 7 (word 6 4 plan_s)

abbrev with_1_4 : List ℕ
with_1_4 = times 1 0 5 (word 4 2 plan_s)

abbrev without_0_2 : List ℕ
without_0_2 = times 0 1 2 (word 2 0 plan_s)

abbrev without_0_1 : List ℕ
without_0_1 = times 0 2 3 (word 1 0 plan_s)

-- ---- lists of calls on S's plan, from nothing asked

abbrev on_S : List Entry → List Edit → Session → KeepCase
on_S calls edits_kept after = record {
  model = model_s;
  before = begun plan_s;
  calls = calls;
  edits_kept = edits_kept;
  after = after;
}

abbrev lists : List KeepCase
lists =
    -- nothing, and an ask alone
    on_S [] [] (begun plan_s)
    ∷ on_S (asks (marking 2 6) (told 22 2 0) ∷ []) [] (holding (marking 2 6) plan_s)
    -- ask, keep
    ∷ on_S (asks (marking 2 6) (told 22 2 0) ∷ keeps done ∷ []) (marking 2 6 ∷ []) (begun with_2_6)
    -- ask, ask, keep: "A new ask replaces the old one"
    ∷ on_S
    (asks (marking 2 6) (told 22 2 0) ∷ asks (clearing 2 5) (told 21 2 0) ∷ keeps done ∷ [])
    (clearing 2 5 ∷ [])
    (begun without_2_5)
    -- ask, refused ask, keep: "a refused ask leaves nothing asked", whichever refuses it
    ∷ on_S (asks (marking 2 6) (told 22 2 0) ∷ asks (marking 2 5) (no 60) ∷ keeps (no 61) ∷ []) [] (begun plan_s)
    ∷ on_S (asks (marking 2 6) (told 22 2 0) ∷ asks (marking 3 0) (no 58) ∷ keeps (no 61) ∷ []) [] (begun plan_s)
    ∷ on_S (asks (marking 2 6) (told 22 2 0) ∷ asks (clearing 2 8) (no 59) ∷ keeps (no 61) ∷ []) [] (begun plan_s)
    -- ask, direct, keep: "Unrefused direct edits are kept edits"; of the very edit that is asked too, where 60 would be due
    ∷ on_S
    (asks (marking 2 6) (told 22 2 0) ∷ edits (marking 1 4) done ∷ keeps (no 61) ∷ [])
    (marking 1 4 ∷ [])
    (begun with_1_4)
    ∷ on_S
    (asks (marking 2 6) (told 22 2 0) ∷ edits (marking 2 6) done ∷ keeps (no 61) ∷ [])
    (marking 2 6 ∷ [])
    (begun with_2_6)
    ∷ on_S
    (asks (marking 2 6) (told 22 2 0) ∷ edits (clearing 0 2) done ∷ keeps (no 61) ∷ [])
    (clearing 0 2 ∷ [])
    (begun without_0_2)
    -- direct, ask, keep: two kept edits, in their order
    ∷ on_S
    (edits (clearing 0 2) done ∷ asks (marking 2 6) (told 22 2 0) ∷ keeps done ∷ [])
    (clearing 0 2 ∷ marking 2 6 ∷ [])
    (begun (times 2 5 7 (word 6 4 without_0_2)))
    -- ask, refused direct, keep
    ∷ on_S
    (asks (marking 2 6) (told 22 2 0) ∷ edits (marking 2 5) (no 60) ∷ edits (clearing 3 8) (no 58) ∷ keeps done ∷ [])
    (marking 2 6 ∷ [])
    (begun with_2_6)
    ∷ on_S
    (asks (marking 2 6) (told 22 2 0) ∷ edits (marking 2 8) (no 59) ∷ [])
    []
    (holding (marking 2 6) plan_s)
    -- keep, keep
    ∷ on_S (keeps (no 61) ∷ keeps (no 61) ∷ []) [] (begun plan_s)
    -- keep, ask, keep: a refused keep is no kept edit
    ∷ on_S (keeps (no 61) ∷ asks (clearing 2 5) (told 21 2 0) ∷ keeps done ∷ []) (clearing 2 5 ∷ []) (begun without_2_5)
    -- ask, keep, keep: the edit is made once, and clearing it again is a direct edit of its own
    ∷ on_S
    (asks (marking 2 6) (told 22 2 0) ∷ keeps done ∷ keeps (no 61) ∷ edits (clearing 2 6) done ∷ keeps (no 61) ∷ [])
    (marking 2 6 ∷ clearing 2 6 ∷ [])
    (begun plan_s)
    -- activity 2 moved to tick 6: the first edit would break a plan that passes, and after the second it passes
    ∷ on_S
    (asks (marking 2 6) (told 22 2 0) ∷ keeps done ∷ asks (clearing 2 5) (passes 5 8 7) ∷ keeps done ∷ [])
    (marking 2 6 ∷ clearing 2 5 ∷ [])
    (begun (activity2_at_6 plan_s))
    ∷ []

-- ---- verdicts

abbrev verdicts : List KeepCase
verdicts =
    on_S (asks (clearing 2 5) (told 21 2 0) ∷ []) [] (holding (clearing 2 5) plan_s)
    ∷ on_S (asks (clearing 1 3) (told 22 1 0) ∷ []) [] (holding (clearing 1 3) plan_s)
    -- with a period of 6 for thread 1
    ∷ record {
      model = wider_period;
      before = begun (patch 15 (0 ∷ 6 ∷ []) plan_s);
      calls = asks (marking 1 6) (told 23 1 0) ∷ [];
      edits_kept = [];
      after = holding (marking 1 6) (patch 15 (0 ∷ 6 ∷ []) plan_s);
    }
    ∷ on_S (asks (marking 1 4) (told 25 2 1) ∷ []) [] (holding (marking 1 4) plan_s)
    -- activity 0 left with tick 1, and then given another
    ∷ on_S
    (edits (clearing 0 2) done ∷ asks (marking 0 6) (told 26 2 0) ∷ [])
    (clearing 0 2 ∷ [])
    (holding (marking 0 6) without_0_2)
    ∷ on_S
    (edits (clearing 0 2) done ∷ asks (marking 0 0) (told 27 0 0) ∷ [])
    (clearing 0 2 ∷ [])
    (holding (marking 0 0) without_0_2)
    -- it may run in one tick alone
    ∷ on_S (asks (clearing 0 2) (passes 4 8 6) ∷ []) [] (holding (clearing 0 2) plan_s)
    ∷ on_S (asks (marking 1 1) (told 28 1 0) ∷ []) [] (holding (marking 1 1) plan_s)
    ∷ on_S
    (edits (clearing 0 1) done ∷ asks (marking 1 1) (told 29 1 0) ∷ [])
    (clearing 0 1 ∷ [])
    (holding (marking 1 1) without_0_1)
    -- plain and not strict: 30 is no verdict
    ∷ on_S (asks (clearing 0 1) (passes 4 8 6) ∷ []) [] (holding (clearing 0 1) plan_s)
    -- its own row is counted anew, and the plan keeps the wrong one
    ∷ record {
      model = model_s;
      before = begun (times 2 1 2 (word 6 4 plan_s));
      calls = asks (clearing 2 5) (passes 5 8 7) ∷ [];
      edits_kept = [];
      after = holding (clearing 2 5) (times 2 1 2 (word 6 4 plan_s));
    }
    -- another's wrong row counts, before the edit's own break, and stays
    ∷ record {
      model = model_s;
      before = begun (times 0 9 2 plan_s);
      calls = asks (marking 2 6) (told 21 0 0) ∷ keeps done ∷ [];
      edits_kept = marking 2 6 ∷ [];
      after = begun (times 0 9 2 with_2_6);
    }
    -- two rounds, and a gang, whose tick is two core ticks
    ∷ record {
      model = model_r;
      before = begun plan_r;
      calls = asks (marking 3 9) (passes 9 10 10) ∷ asks (marking 4 0) (no 58) ∷ keeps (no 61) ∷ [];
      edits_kept = [];
      after = begun plan_r;
    }
    ∷ record {
      model = model_g;
      before = begun plan_g;
      calls = asks (clearing 1 3) (passes 7 12 5) ∷ keeps done ∷ [];
      edits_kept = clearing 1 3 ∷ [];
      after = begun (patch 25 (0 ∷ 2 ∷ 0 ∷ 3 ∷ []) (patch 45 (0 ∷ 0 ∷ 0 ∷ 0 ∷ []) plan_g));
    }
    ∷ []

-- ---- records of another form, and plans or models that were changed elsewhere since the asking

-- one keep with a state and a plan, refused: nothing changes
abbrev turned : List ℕ → Session → Answer (Unit {0}) → KeepCase
turned model before said = record {
  model = model;
  before = before;
  calls = keeps said ∷ [];
  edits_kept = [];
  after = before;
}

abbrev elsewhere : List KeepCase
elsewhere =
    -- the records come before 61
    turned [] (begun plan_s) (refuses 1 0 0)
    ∷ turned (patch 53 (2 ∷ []) model_s) (begun []) (refuses 7 1 0)
    ∷ turned model_s (begun []) (refuses 8 0 0)
    ∷ turned model_s (begun (patch 9 (0 ∷ 3 ∷ []) plan_s)) (refuses 12 0 0)
    ∷ turned model_s (begun (word 7 8 plan_s)) (refuses 14 7 0)
    -- and before 58 to 60
    ∷ turned model_s (holding (marking 3 8) (word 7 8 plan_s)) (refuses 14 7 0)
    ∷ turned [] (holding (marking 2 6) plan_s) (refuses 1 0 0)
    -- the bit is already so, and another model has fewer activities or fewer ticks
    ∷ turned model_s (holding (marking 2 6) with_2_6) (no 60)
    ∷ turned model_s (holding (marking 3 0) plan_s) (no 58)
    ∷ turned model_s (holding (marking 0 9) plan_s) (no 59)
    ∷ turned model_s (holding (marking 3 9) plan_s) (no 58)
    -- a change that leaves the edit to be made: it is made in what is lent
    ∷ record {
      model = model_s;
      before = holding (clearing 2 5) with_1_4;
      calls = keeps done ∷ keeps (no 61) ∷ [];
      edits_kept = clearing 2 5 ∷ [];
      after = begun (times 2 0 0 (word 5 0 with_1_4));
    }
    -- asks that the records refuse leave nothing asked
    ∷ record {
      model = model_s;
      before = holding (marking 2 6) (word 7 8 plan_s);
      calls = asks (marking 2 6) (refuses 14 7 0) ∷ keeps (refuses 14 7 0) ∷ [];
      edits_kept = [];
      after = begun (word 7 8 plan_s);
    }
    ∷ record {
      model = [];
      before = holding (marking 2 6) plan_s;
      calls = asks (marking 2 6) (refuses 1 0 0) ∷ [];
      edits_kept = [];
      after = begun plan_s;
    }
    -- a direct edit that the records refuse leaves the ask
    ∷ record {
      model = model_s;
      before = holding (marking 2 6) (word 7 8 plan_s);
      calls = edits (marking 2 6) (refuses 14 7 0) ∷ [];
      edits_kept = [];
      after = holding (marking 2 6) (word 7 8 plan_s);
    }
    ∷ []

-- ---- calls that are each lent a model and a plan of their own

-- the calls, from a state with nothing asked; what is seen of them; and the state that is handed on
pub record LentCase : Type 0 where
  pub calls : List Lent
  pub seen : List Entry
  pub after : Editing

abbrev pub AllSeen : List LentCase → Type 0
AllSeen cases =
    (map (λ c. seen_by nothing_asked c.calls) cases ≡ map (λ c. c.seen) cases)
    × (map (λ c. state_by nothing_asked c.calls) cases ≡ map (λ c. c.after) cases)

abbrev lent : List ℕ → List ℕ → Call → Lent
lent model plan call = record { model = model; plan = plan; call = call }

-- S's plan with a bit of no activity
abbrev broken : List ℕ
broken = word 7 8 plan_s

abbrev lent_cases : List LentCase
lent_cases =
    -- asked of the page of two rounds, and kept on S
    record {
      calls = lent model_r plan_r (ask (marking 3 9)) ∷ lent model_s plan_s keep ∷ [];
      seen = asks (marking 3 9) (passes 9 10 10) ∷ keeps (no 58) ∷ [];
      after = asking (marking 3 9);
    }
    ∷ record {
      calls = lent model_r plan_r (ask (marking 0 9)) ∷ lent model_s plan_s keep ∷ [];
      seen = asks (marking 0 9) (told 22 0 0) ∷ keeps (no 59) ∷ [];
      after = asking (marking 0 9);
    }
    -- refused where the bit is already so, where the plan or the model is broken, and then made; and made once
    ∷ record {
      calls =
          lent model_s plan_s (ask (marking 2 6))
          ∷ lent model_s with_2_6 keep
          ∷ lent model_s broken keep
          ∷ lent [] plan_s keep
          ∷ lent model_s plan_s keep
          ∷ lent model_s plan_s keep
          ∷ [];
      seen =
          asks (marking 2 6) (told 22 2 0)
          ∷ keeps (no 60)
          ∷ keeps (refuses 14 7 0)
          ∷ keeps (refuses 1 0 0)
          ∷ keeps done
          ∷ keeps (no 61)
          ∷ [];
      after = nothing_asked;
    }
    -- a kept edit on another plan counts since the asking, though what is asked could not be kept there
    ∷ record {
      calls = lent model_s plan_s (ask (marking 2 6)) ∷ lent model_s with_2_6 (direct (clearing 2 6)) ∷ lent model_s plan_s keep ∷ [];
      seen = asks (marking 2 6) (told 22 2 0) ∷ edits (clearing 2 6) done ∷ keeps (no 61) ∷ [];
      after = nothing_asked;
    }
    -- a direct edit that is refused there does not count, and an ask that is refused there erases
    ∷ record {
      calls = lent model_s plan_s (ask (marking 2 6)) ∷ lent model_s broken (direct (marking 2 6)) ∷ lent model_s plan_s keep ∷ [];
      seen = asks (marking 2 6) (told 22 2 0) ∷ edits (marking 2 6) (refuses 14 7 0) ∷ keeps done ∷ [];
      after = nothing_asked;
    }
    ∷ record {
      calls = lent model_s plan_s (ask (marking 2 6)) ∷ lent model_s broken (ask (marking 2 6)) ∷ lent model_s plan_s keep ∷ [];
      seen = asks (marking 2 6) (told 22 2 0) ∷ asks (marking 2 6) (refuses 14 7 0) ∷ keeps (no 61) ∷ [];
      after = nothing_asked;
    }
    ∷ []

-- ---- the numbers

abbrev reasons : List Unkept
reasons =
    Unkept.Edit (Reason.Edit EditRefusal.Activity)
    ∷ Unkept.Edit (Reason.Edit EditRefusal.Tick)
    ∷ Unkept.Edit (Reason.Edit EditRefusal.Bit)
    ∷ Unkept.NothingAsked
    ∷ []

abbrev number : ℕ → Refusal
number n = record { number = n; A = 0; B = 0 }

-- ---- the table

abbrev cases : List KeepCase
cases = lists ++ verdicts ++ elsewhere

pub keep_cases : AllRight cases × AllSeen lent_cases × (map unkept_numbers reasons ≡ number 58 ∷ number 59 ∷ number 60 ∷ number 61 ∷ [])
unfolding every Bounded.without_bit Edits.edited_word Edits.first_marked Edits.past_marked Edits.edited_plan
    Edits.rule58 Edits.rule59 Edits.rule60 Edits.edit_checks Edits.edit_answer Edits.edit_bytes
    Keeping.edit_state Keeping.ask_answer Keeping.ask_state Keeping.rule61 Keeping.keep_checks Keeping.keep_answer Keeping.keep_bytes
    Keeping.keep_state Keeping.leaves Keeping.left_by Keeping.entry Keeping.entries Keeping.kept_after
    Keeping.state_by Keeping.seen_by
keep_cases = ((refl, refl, refl), (refl, refl), refl)
