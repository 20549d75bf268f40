-- The run's answer is what its rules alone say, and the lent buffer what the number of the answer says: where a refusal
-- comes from shows in its number.
-- Assumes nothing.
use Prim.Native.Nat.{ℕ, ◌≤◌}
use native.Mathlib.Decide.{dec_lt}
use native.Mathlib.Omega.{arith}
use mathlib.Core.Bool.{Bool, true, false, cond}
use mathlib.Core.List.{List}
use mathlib.Core.Option.{Option, some, none}
use mathlib.Core.Path.{◌≡◌, refl, sym, subst, ◌∙◌, ap}
use lib.Dec.{ltb}
use lib.ListN.{length}
use borrow.Author.Tests.{lt-ltb, le-ltb}
use Rattle.schedule.specs.Rule.{Refusal, first_break}
use Rattle.schedule.specs.Model.{Model, model}
use Rattle.schedule.specs.Choice.{Choice, choice}
use Rattle.schedule.specs.Timing.{deadline_rule}
use Rattle.schedule.specs.Answers.{Answer, refused, answer, owed_rule, run_rules, run_checks, Written, written, length_needed}
use Rattle.schedule.specs.Answers.{Outcome, from_input, from_buffer, from_run, succeeded, concluded, outcome, run_outcome}
use Rattle.schedule.specs.Answers.{answer_of, run_answer, buffer_after, run_buffer}
use Rattle.laws.proofs.FirstBreak.{none_iff, some_iff, ◌&◌}
use Rattle.laws.proofs.Sound.{run_rules_sound, run_checks_sound}
use Rattle.laws.proofs.RuleNumbers.{AllNumbers, first-broken-number}
use Rattle.laws.proofs.VerdictLaws.{
  input-number,
  run-from-input,
  run-past-input,
  outcome-short,
  outcome_fits,
  concluded-refused,
  concluded-succeeded,
  run-verdict,
}
use Rattle.demands.specs.ByNumber.{answer_by, answer_by_rules, zeroing, buffer_by_number}
use Rattle.demands.specs.Runs.{RunsByNumber}

-- The answer is what the rules alone say.
pub answer_is_by_rules : (s q : List ℕ) (room : ℕ) → run_answer s q room ≡ answer_by_rules s q room
unfolding run_answer answer_of answer_by answer_by_rules
answer_is_by_rules s q room = by (first_break (run_checks s q)) refl
  where
    past : Bool → Answer Written
    past b =
        cond b (refused (record { number = 41; A = length_needed (model s); B = 0 }))
        (answer (first_break (run_rules (model s) (choice q))) (written (model s) (choice q)))

    room_left : first_break (run_checks s q) ≡ none → answer_of (run_outcome s q room) ≡ past (ltb room (length_needed (model s)))
    room_left e = elim (dec_lt room (length_needed (model s))) [
      | yes l ↦
          ap answer_of (run-past-input s q room e ∙ outcome-short (model s) (choice q) room l)
          ∙ ap past (sym (lt-ltb room (length_needed (model s)) l))
      | no l ↦
          let fits : length_needed (model s) ≤ room = omega arith in
          run-verdict s q room ((none_iff (run_checks s q) (run_checks_sound s q)).0 e) fits
          ∙ ap past (sym (le-ltb room (length_needed (model s)) fits))
    ]

    by : (o : Option Refusal) → first_break (run_checks s q) ≡ o
        → answer_of (run_outcome s q room) ≡ elim o [ some x ↦ refused x | none ↦ past (ltb room (length_needed (model s))) ]
    by (some x) e = ap answer_of (run-from-input s q room x e)
    by none e = room_left e

-- Where a refusal comes from, and whether it has one of the numbers that set bytes to 0.
abbrev KindNumbered : Outcome → Type 0
KindNumbered (from_input x) = zeroing x.number ≡ false
KindNumbered (from_buffer x) = zeroing x.number ≡ false
KindNumbered (from_run x) = zeroing x.number ≡ true
KindNumbered (succeeded w) = Unit {0}

run-numbers : (m : Model) (q : Choice) → AllNumbers (λ k. zeroing k ≡ true) (run_rules m q)
unfolding run_rules owed_rule deadline_rule
run-numbers m q = refl & refl & tt

concluded-numbered : (m : Model) (q : Choice) → KindNumbered (concluded m q)
concluded-numbered m q = by (first_break (run_rules m q)) refl
  where
    by : (o : Option Refusal) → first_break (run_rules m q) ≡ o → KindNumbered (concluded m q)
    by none e = subst KindNumbered (sym (concluded-succeeded m q e)) tt
    by (some x) e =
        subst KindNumbered (sym (concluded-refused m q x e))
        (first-broken-number (λ k. zeroing k ≡ true) (run_rules m q) x (run-numbers m q)
        ((some_iff (run_rules m q) x (run_rules_sound m q)).0 e))

outcome-numbered : (m : Model) (q : Choice) (room : ℕ) → KindNumbered (outcome m q room)
outcome-numbered m q room = elim (dec_lt room (length_needed m)) [
  | yes l ↦ subst KindNumbered (sym (outcome-short m q room l)) refl
  | no l ↦ subst KindNumbered (sym (outcome_fits m q room (omega arith))) (concluded-numbered m q)
]

run-numbered : (s q : List ℕ) (room : ℕ) → KindNumbered (run_outcome s q room)
run-numbered s q room = by (first_break (run_checks s q)) refl
  where
    by : (o : Option Refusal) → first_break (run_checks s q) ≡ o → KindNumbered (run_outcome s q room)
    by none e = subst KindNumbered (sym (run-past-input s q room e)) (outcome-numbered (model s) (choice q) room)
    by (some x) e =
        subst KindNumbered (sym (run-from-input s q room x e))
        (let n = input-number s q x e in rw (n.0, n.1))

-- The lent buffer after the run is what the number that it answers says.
pub buffer_is_by_number : (s q buffer : List ℕ)
    → run_buffer s q buffer ≡ buffer_by_number (run_answer s q (length buffer)) (model s) (choice q) buffer
unfolding run_buffer run_answer answer_of buffer_after buffer_by_number
buffer_is_by_number s q buffer = by (run_outcome s q (length buffer)) (run-numbered s q (length buffer))
  where
    by : (o : Outcome) → KindNumbered o
        → buffer_after o (model s) (choice q) buffer ≡ buffer_by_number (answer_of o) (model s) (choice q) buffer
    by (from_input x) e = rw e
    by (from_buffer x) e = rw e
    by (from_run x) e = rw e
    by (succeeded w) e = refl

pub runs_by_number : RunsByNumber
runs_by_number s q buffer = record { answer = answer_is_by_rules s q; buffer_left = buffer_is_by_number s q buffer }
