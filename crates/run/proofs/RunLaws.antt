-- What the run answers and leaves: the buffer from its pieces.
-- Assumes nothing.
use Prim.Native.Nat.{ℕ, ◌+◌, ◌-◌, ◌≤◌, ◌<◌}
use native.Mathlib.Nat.{lt_of_lt_of_le}
use native.Mathlib.Omega.{arith}
use mathlib.Core.Bool.{Bool, cond}
use mathlib.Core.List.{List, ◌++◌, append_assoc}
use mathlib.Core.Option.{Option, some, none}
use mathlib.Core.Path.{◌≡◌, refl, sym, ap, ◌∙◌}
use lib.ListN.{length, get_or, take, drop, replicate, length-append, length-drop}
use borrow.Author.Tests.{le-leb}
use borrow.Rule.Slice.PartMut.{put_mid}
use lib.Pow.{pow_mono}
use Rattle.schedule.specs.Bounded.{bit}
use Rattle.schedule.specs.Rule.{Refusal, first_break}
use Rattle.schedule.specs.declared.Figures.{Figures as Shown}
use Rattle.schedule.specs.declared.Refusal.{Refusal as Declared}
use Rattle.std.specs.Prelude.{Ok, Err}
use Rattle.schedule.specs.Numbers.{RunVerdict}
use Rattle.schedule.specs.Numbers.{refusal_numbers, figure_numbers, run_numbers}
use Rattle.schedule.specs.Model.{Model, Formed, model}
use Rattle.schedule.specs.Choice.{Choice, choice}
use Rattle.schedule.specs.Plan.{plan, plan_bytes, pair_rows, tick_at, word_in}
use Rattle.schedule.specs.Machine.{machine_word, machine_start, machine_end}
use Rattle.schedule.specs.Answers.{Answer, accepted, refused, figures, Written, machine_plan, run_rules}
use Rattle.schedule.specs.Answers.{length_needed, written, run_checks, Outcome, from_run, succeeded, concluded, outcome}
use Rattle.schedule.specs.Answers.{answer_of, run_answer, buffer_after, run_buffer}
use Rattle.laws.proofs.Lowest.{lowest_ext}
use Rattle.laws.proofs.FieldLaws.{length-bytes, field-drop}
use Rattle.laws.proofs.Parts.{Stands, stands-whole, stands-first, stands-field, stands-row}
use Rattle.laws.proofs.Sums.{figures_ext}
use Rattle.laws.proofs.MachineLaws.{word_lt}
use Rattle.laws.proofs.MachinePlan.{end_le, plan-fits}
use Rattle.laws.proofs.PlanBytes.{length_pairs, length-plan_bytes, reads_from}
use Rattle.laws.proofs.VerdictLaws.{run-from-input, run-past-input, outcome-short, outcome_fits}
use Rattle.laws.proofs.VerdictLaws.{concluded-refused, concluded-succeeded}
use Rattle.fields.specs.Put.{put}
use Rattle.fields.proofs.PutLaws.{put_at, put_back, put_front, put_twice, drop-put, length-put}
use Rattle.records.specs.Writes.{head_bytes}
use Rattle.records.proofs.WriteLaws.{length-head, pairs_ext}
use Rattle.machine.specs.declared.Judged.{Judged}
use Rattle.machine.specs.Played.{grid_bytes, played_ends, judged_numbers, played_judgement, written_grid, played_grid}
use Rattle.machine.proofs.PlayLaws.{length-grid, grid-whole, played_ended}
use Rattle.run.specs.Outcome.{Placed, Standing, Answers}
use Rattle.run.specs.Front.{front_bytes, front_in, grid_of, grid_in, start_in}
use Rattle.run.proofs.PlanLaws.{rest-says, part_says}

-- ---- the words, starts and ends of the buffer

module _ (m : Model) (q : Choice) (out : List ℕ) (judged : Judged) (ends : List ℕ) (stands : Standing m q out judged ends) where
  fits : grid_of m + length (grid_bytes m q m.horizon) ≤ length out
  unfolding length_needed
  fits = omega (arith, length-grid m q m.horizon, stands.room)

  word_in_is : (t : ℕ) → t < m.horizon → word_in (grid_in m out) t ≡ machine_word m q.release q.duration t
  unfolding grid_bytes
  word_in_is t l =
      field-drop (grid_of m) out (tick_at t) 4
      ∙ stands-field out (grid_of m + tick_at t) 4 (machine_word m q.release q.duration t)
      (stands-row out (grid_of m) 4 m.horizon _ (λ u _. length-bytes 4 (machine_word m q.release q.duration u)) whole t l)
      (lt_of_lt_of_le (word_lt m q.release q.duration t) (pow_mono stands.ended.formed.activities.1))
    where
      whole : Stands out (grid_of m) (grid_bytes m q m.horizon)
      whole i k =
          ap (λ (b : List ℕ). get_or b (grid_of m + i) 0) (sym stands.grid) ∙ put_at (grid_of m) (grid_bytes m q m.horizon) out fits i k

  start_in_grid : (a : ℕ) → start_in (grid_in m out) m.horizon a ≡ machine_start m q.release q.duration a
  unfolding start_in machine_start
  start_in_grid a = lowest_ext m.horizon _ _ (λ t l. ap (λ (w : ℕ). bit w a) (word_in_is t l))

  -- the front and the grid are the plan
  front-plan : front_in m q out ends ++ grid_bytes m q m.horizon ≡ plan_bytes (machine_plan m q)
  unfolding front_in front_bytes head_bytes grid_bytes plan_bytes machine_plan
  front-plan =
      ap (λ (b : List ℕ).
      (head_bytes m.threads m.activities m.horizon ++ (pair_rows m.threads q.release q.period ++ b))
      ++ grid_bytes m q m.horizon)
      (pairs_ext m.activities _ _ (machine_start m q.release q.duration) (machine_end m q.release q.duration)
      (λ a l. start_in_grid a) stands.ended.end_ticks)
      ∙ opened
    where
      opened : (head_bytes m.threads m.activities m.horizon
          ++ (pair_rows m.threads q.release q.period
          ++ pair_rows m.activities (machine_start m q.release q.duration) (machine_end m q.release q.duration)))
          ++ grid_bytes m q m.horizon
          ≡ plan_bytes (machine_plan m q)
      opened = simp append_assoc

  length_front : length (front_in m q out ends) ≡ grid_of m
  unfolding front_in front_bytes
  length_front =
      simp length-append
      (omega (
        arith,
        length-head m.threads m.activities m.horizon,
        length_pairs m.threads q.release q.period,
        length_pairs m.activities (start_in (grid_in m out) m.horizon) (λ a. get_or ends a 0),
      ))

  -- the front written before the grid leaves the plan and what stood behind it
  pub plan-written : put 0 (front_in m q out ends) out ≡ plan_bytes (machine_plan m q) ++ drop (length_needed m) out
  unfolding length_needed machine_plan
  plan-written =
      let front : List ℕ = front_in m q out ends in
      let grid : List ℕ = grid_bytes m q m.horizon in
      let behind : 0 + length front ≡ grid_of m = omega (arith, length_front) in
      ap (put 0 front) (sym stands.grid ∙ ap (λ (k : ℕ). put k grid out) (sym behind))
      ∙ put_back 0 front grid out (omega (arith, length-append front grid, length_front, fits))
      ∙ put_front (front ++ grid) out (omega (arith, length-append front grid, length_front, fits))
      ∙ ap (λ (b : List ℕ). b ++ drop (length b) out) front-plan
      ∙ ap (λ (k : ℕ). plan_bytes (machine_plan m q) ++ drop k out) (length-plan_bytes (machine_plan m q))

  pub ends-small : (a : ℕ) → a < m.activities → get_or ends a 0 < 65536
  unfolding machine_end
  ends-small a l =
      omega (
        arith,
        stands.ended.end_ticks a l,
        end_le m q.release q.duration m.horizon a l,
        stands.ended.formed.horizon.1,
      )

-- ---- the grid that was placed

placed-fits : (m : Model) (q : Choice) (l : List ℕ) → length_needed m ≤ length l
    → length_needed m ≡ grid_of m + length (grid_bytes m q m.horizon)
unfolding length_needed
placed-fits m q l h = omega (arith, length-grid m q m.horizon)

-- the machine played into the part behind the rows
pub played_placed : (m : Model) (q : Choice) (at : ℕ) (out part : List ℕ) (judged : Judged) (ends : List ℕ) → Formed m
    → grid_of m + tick_at m.horizon ≤ length out → at ≡ grid_of m
    → (ends ≡ played_ends m q) × (judged_numbers judged ≡ played_judgement m q)
    × (part ≡ played_grid m q (take (length out - at) (drop at out)))
    → Placed m q out (put_mid at (length out - at) out part) judged ends
unfolding played_grid
played_placed m q at out part judged ends formed room e h =
    let few = formed.activities.1 in
    let yes? = le-leb m.activities 32 few in
    let behind : List ℕ = take (length out - at) (drop at out) in
    let fits : tick_at m.horizon ≤ length behind =
    omega (arith, e, room, ap length (rest-says at out), length-drop at out) in
    record {
      written = part_says at _ _ out part (omega arith) refl
          (h.2 ∙ ap (λ (t : Bool). cond t (written_grid m q m.horizon behind) behind) yes? ∙ grid-whole m q behind fits)
          ∙ ap (λ (k : ℕ). put k (grid_bytes m q m.horizon) out) e;
      ended = played_ended m q judged ends formed h.0 h.1;
    }

-- it stands
pub placed-stands : (m : Model) (q : Choice) (l out : List ℕ) (judged : Judged) (ends : List ℕ) → length_needed m ≤ length l
    → Placed m q l out judged ends → Standing m q out judged ends
placed-stands m q l out judged ends room p =
    let e = placed-fits m q l room in
    record {
      room = omega (arith, ap length p.written, length-put (grid_of m) (grid_bytes m q m.horizon) l);
      grid = ap (put (grid_of m) (grid_bytes m q m.horizon)) p.written
          ∙ put_twice (grid_of m) (grid_bytes m q m.horizon) l (omega arith)
          ∙ sym p.written;
      ended = p.ended;
    }

-- ---- the answers where there is room

accepted-same : (m : Model) (q : Choice) (l l' : List ℕ) → drop (length_needed m) l ≡ drop (length_needed m) l'
    → buffer_after (succeeded (written m q)) m q l ≡ buffer_after (succeeded (written m q)) m q l'
unfolding buffer_after
accepted-same m q l l' e = ap (λ (b : List ℕ). plan_bytes (machine_plan m q) ++ b) e

refused-same : (m : Model) (q : Choice) (x : Refusal) (l l' : List ℕ) → drop (length_needed m) l ≡ drop (length_needed m) l'
    → buffer_after (from_run x) m q l ≡ buffer_after (from_run x) m q l'
unfolding buffer_after
refused-same m q x l l' e = ap (λ (b : List ℕ). replicate (length_needed m) 0 ++ b) e

pub refused-answers : (m : Model) (q : Choice) (out out' : List ℕ) (x : Declared)
    → first_break (run_rules m q) ≡ some (refusal_numbers x)
    → out' ≡ replicate (length_needed m) 0 ++ drop (length_needed m) out
    → Answers (concluded m q) m q out out' (Err x)
unfolding answer_of buffer_after
refused-answers m q out out' x e f =
    let c = concluded-refused m q (refusal_numbers x) e in
    record {
      says = sym (ap answer_of c);
      leaves = f ∙ sym (ap (λ (o : Outcome). buffer_after o m q out) c);
    }

-- the figures of the plan that stands in the buffer are those of the machine's plan
figures_read : (m : Model) (q : Choice) (rest : List ℕ) → Formed m
    → ((j : ℕ) → q.release j < 65536) → ((j : ℕ) → q.period j < 65536)
    → figures m (plan (plan_bytes (machine_plan m q) ++ rest)) ≡ figures m (machine_plan m q)
unfolding machine_plan
figures_read m q rest formed release period =
    let bytes : List ℕ = plan_bytes (machine_plan m q) in
    let back = reads_from (machine_plan m q) (plan-fits m q formed release period) (bytes ++ rest)
    (stands-first (bytes ++ rest) 0 bytes rest (stands-whole (bytes ++ rest))) in
    figures_ext m (plan (bytes ++ rest)) (machine_plan m q) back.word back.end back.release

pub accepted-answers : (m : Model) (q : Choice) (out out' : List ℕ) (judged : Judged) (ends : List ℕ) (k : ℕ) (f : Shown)
    → ((j : ℕ) → q.release j < 65536) → ((j : ℕ) → q.period j < 65536)
    → Standing m q out judged ends → first_break (run_rules m q) ≡ none
    → k ≡ length_needed m → out' ≡ put 0 (front_in m q out ends) out → figure_numbers f ≡ figures m (plan out')
    → Answers (concluded m q) m q out out' (Ok (record { length = k; figures = f }))
unfolding answer_of buffer_after
accepted-answers m q out out' judged ends k f release period stands e ek eo ef =
    let c = concluded-succeeded m q e in
    let whole = eo ∙ plan-written m q out judged ends stands in
    let g = ef ∙ ap (λ (l : List ℕ). figures m (plan l)) whole
    ∙ figures_read m q (drop (length_needed m) out) stands.ended.formed release period in
    let both : ◌≡◌ {A = Written} (record { length = k; figures = figure_numbers f }) (written m q) =
    λ i. record { length = ek i; figures = g i } in
    record {
      says = ap {B = Answer Written} accepted both ∙ sym (ap answer_of c);
      leaves = whole ∙ sym (ap (λ (o : Outcome). buffer_after o m q out) c);
    }

-- ---- 41, and the rest of the outcome

pub room-answers : (m : Model) (q : Choice) (l : List ℕ) (x : Declared) → length l < length_needed m
    → refusal_numbers x ≡ record { number = 41; A = length_needed m; B = 0 }
    → Answers (outcome m q (length l)) m q l l (Err x)
unfolding answer_of buffer_after
room-answers m q l x h e =
    let o = outcome-short m q (length l) h in
    record {
      says = ap {B = Answer Written} refused e ∙ sym (ap answer_of o);
      leaves = sym (ap (λ (o : Outcome). buffer_after o m q l) o);
    }

-- with room, what was concluded of the buffer with the grid holds of the buffer as it was lent
pub outcome-answers : (m : Model) (q : Choice) (l out out' : List ℕ) (judged : Judged) (ends : List ℕ) (r : RunVerdict)
    → length_needed m ≤ length l → Placed m q l out judged ends → Answers (concluded m q) m q out out' r
    → Answers (outcome m q (length l)) m q l out' r
outcome-answers m q l out out' judged ends r h p a =
    let o = outcome_fits m q (length l) h in
    record {
      says = a.says ∙ sym (ap answer_of o);
      leaves = a.leaves ∙ same (first_break (run_rules m q)) refl ∙ sym (ap (λ (o : Outcome). buffer_after o m q l) o);
    }
  where
    behind : drop (length_needed m) out ≡ drop (length_needed m) l
    behind =
        ap (drop (length_needed m)) p.written
        ∙ drop-put (grid_of m) (length_needed m) (grid_bytes m q m.horizon) l (placed-fits m q l h) h

    same : (o : Option Refusal) → first_break (run_rules m q) ≡ o
        → buffer_after (concluded m q) m q out ≡ buffer_after (concluded m q) m q l
    same (some x) e =
        let c = concluded-refused m q x e in
        ap (λ (o : Outcome). buffer_after o m q out) c
        ∙ refused-same m q x out l behind
        ∙ sym (ap (λ (o : Outcome). buffer_after o m q l) c)
    same none e =
        let c = concluded-succeeded m q e in
        ap (λ (o : Outcome). buffer_after o m q out) c
        ∙ accepted-same m q out l behind
        ∙ sym (ap (λ (o : Outcome). buffer_after o m q l) c)

-- ---- the input

module _ (s q : List ℕ) where
  -- an input refusal changes no byte
  pub input-refused : (l : List ℕ) (x : Refusal) → first_break (run_checks s q) ≡ some x
      → (refused x ≡ run_answer s q (length l)) × (l ≡ run_buffer s q l)
  unfolding run_answer answer_of run_buffer buffer_after
  input-refused l x e =
      let o = run-from-input s q (length l) x e in
      (sym (ap answer_of o), sym (ap (λ (o : Outcome). buffer_after o (model s) (choice q) l) o))

  -- past the input the outcome counts
  pub input-passed : (l l' : List ℕ) (r : RunVerdict) → first_break (run_checks s q) ≡ none
      → Answers (outcome (model s) (choice q) (length l)) (model s) (choice q) l l' r
      → (run_numbers r ≡ run_answer s q (length l)) × (l' ≡ run_buffer s q l)
  unfolding run_answer run_buffer
  input-passed l l' r e a =
      let o = run-past-input s q (length l) e in
      (a.says ∙ sym (ap answer_of o), a.leaves ∙ sym (ap (λ (o : Outcome). buffer_after o (model s) (choice q) l) o))
