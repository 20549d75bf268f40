-- A plan that keeps the strict rules, with the machine's releases and durations, has the machine's words, ends and
-- starts: there is at most one such plan. By induction on the tick.
-- Assumes nothing.
use Prim.Native.Nat.{ℕ, zero, suc, ◌+◌, ◌-◌, ◌^◌, ◌≤◌, ◌<◌}
use native.Mathlib.Decide.{dec_lt}
use native.Mathlib.Nat.{lt_of_lt_of_le}
use native.Mathlib.Omega.{arith}
use mathlib.Core.Bool.{Bool}
use mathlib.Core.Logic.{◌⊎◌, inl, inr, ⊎_elim}
use mathlib.Core.Path.{◌≡◌, sym, subst, ap, ◌∙◌}
use lib.Dec.{T}
use lib.Pow.{pow_mono}
use Rattle.schedule.specs.Bounded.{count, bit}
use Rattle.schedule.specs.Model.{Model, temporally, by_data, Ordered}
use Rattle.schedule.specs.Plan.{Plan, active}
use Rattle.schedule.specs.Machine.{State, owes, end_of, ready, machine_word, machine_start, machine_end, machine_owes}
use Rattle.schedule.specs.Checks.{count_of, efe, Waiting, ahead, Contends}
use Rattle.schedule.specs.Keeps.{KeepsStrict}
use Rattle.laws.proofs.Counting.{dec_t, T_false, weight, one_if, zero_if}
use Rattle.laws.proofs.Counting.{count-suc, count-zero, count-some, count_grows, count_stops, count_between}
use Rattle.laws.proofs.Words.{bit_high, word_ext}
use Rattle.laws.proofs.Rank.{Before}
use Rattle.laws.proofs.Selection.{Picked, picked_fits, fits-selected}
use Rattle.laws.proofs.Lowest.{lowest_unique}
use Rattle.laws.proofs.MachineLaws.{Ready, ready_sound, at, runs, owes-first, owes_next, runs-selected, word_lt, end-idle, end_last}
use Rattle.laws.proofs.EfeLaws.{efe-release, efe_bound}
use Rattle.laws.proofs.Windows.{window_span}

-- What a plan is beside a model and the machine's releases and durations: its words are 32 bits wide with no bit from
-- m on, its releases are the machine's, and its counts are the durations.
pub record Beside (m : Model) (release duration : ℕ → ℕ) (p : Plan) : Type 0 where
  pub ordered : Ordered m
  pub wide : (a : ℕ) → a < m.activities → 1 ≤ m.width a
  pub few : m.activities ≤ 32
  pub narrow : (t : ℕ) → t < m.horizon → p.word t < 2 ^ 32
  pub known : (t : ℕ) → t < m.horizon → (b : ℕ) → b < 32 → m.activities ≤ b → ¬ T (active p t b)
  pub released : (a : ℕ) → a < m.activities → p.release (m.thread a) ≡ release (m.thread a)
  pub lasts : (a : ℕ) → a < m.activities → count_of m p a ≡ duration a

module _ (m : Model) (release duration : ℕ → ℕ) (p : Plan) (w : Beside m release duration p) (k : KeepsStrict m p) where
  -- how often a has been active before tick t
  done : ℕ → ℕ → ℕ
  done t a = count t (λ u. active p u a)

  -- the machine's state at tick t is what the plan's first t words say
  record Agrees (t : ℕ) : Type 0 where
    left : (a : ℕ) → a < m.activities → owes (at m release duration t) a + done t a ≡ duration a
    finished : (a : ℕ) → a < m.activities → owes (at m release duration t) a ≡ 0
        → end_of (at m release duration t) a ≡ p.end a

  agrees_first : ((a : ℕ) → a < m.activities → 0 < duration a) → Agrees 0
  unfolding done
  agrees_first pos = record {
    left = λ a l. omega (arith, owes-first m release duration a l, count-zero (λ u. active p u a));
    finished = λ a l e. absurd (omega (arith, owes-first m release duration a l, pos a l));
  }

  -- all of the count is done once the end is past
  all_done : (t a : ℕ) → a < m.activities → p.end a ≤ t → t ≤ m.horizon → done t a ≡ duration a
  unfolding done count_of
  all_done t a l e h =
      sym (count_stops t m.horizon (λ u. active p u a) h
      (λ u lo hi x. absurd (omega (arith, ((k.plain.window a l).outside_none u hi x).1))))
      ∙ w.lasts a l

  -- something left to do lies before the end
  before-end : (t a : ℕ) → a < m.activities → done t a < duration a → t < p.end a
  unfolding done count_of
  before-end t a l h =
      let f = count_between t m.horizon (λ u. active p u a) (omega (arith, w.lasts a l)) in
      omega (arith, f.1, ((k.plain.window a l).outside_none f.0 f.2 f.3).1)

  module _ (t : ℕ) (within_time : t < m.horizon) (agrees : Agrees t) where
    s : State
    s = at m release duration t

    -- what has ended by tick t in the plan has ended in the machine, with the same end
    ended_by : (b : ℕ) → b < m.activities → p.end b ≤ t → (owes s b ≡ 0) × (end_of s b ≡ p.end b)
    unfolding s
    ended_by b l e =
        let z : owes s b ≡ 0 = omega (arith, agrees.left b l, all_done t b l e (omega arith)) in
        (z, agrees.finished b l z)

    active-ready : (a : ℕ) → a < m.activities → T (active p t a) → Ready m release t s a
    unfolding s done count_of
    active-ready a l x =
        let win = k.plain.window a l in
        let from : p.start a ≤ t = (win.outside_none t within_time x).0 in
        record {
          owing = omega (
            arith,
            agrees.left a l,
            w.lasts a l,
            count-suc t (λ u. active p u a),
            one_if (active p t a) x,
            count_grows (suc t) m.horizon (λ u. active p u a) within_time,
          );
          released = omega (arith, w.released a l, efe-release m p w.ordered a l, k.plain.eligible a l);
          temporal = λ b lb y.
              let r = k.plain.temporal a b l lb y in
              let e = ended_by b lb (omega arith) in
              (e.0, omega (arith, e.1));
          on_data = λ b lb y.
              let r = k.plain.on_data a b l lb y in
              let e = ended_by b lb (omega arith) in
              (e.0, omega (arith, e.1));
        }

    ready-waits : (a : ℕ) → a < m.activities → Ready m release t s a → (¬ T (active p t a)) → Waiting m p t a
    unfolding s done
    ready-waits a l r idle =
        let spent : (b : ℕ) → b < m.activities → efe m p b + count_of m p b ≤ p.end b =
        λ b lb. omega (arith, k.plain.eligible b lb, window_span m p b (k.plain.window b lb)) in
        let after : (b : ℕ) → b < m.activities → T (temporally m b a) → p.end b + m.delay b ≤ t =
        λ b lb y. omega (arith, (r.temporal b lb y).1, agrees.finished b lb (r.temporal b lb y).0) in
        let behind : (b : ℕ) → b < m.activities → T (by_data m b a) → p.end b ≤ t =
        λ b lb y. omega (arith, (r.on_data b lb y).1, agrees.finished b lb (r.on_data b lb y).0) in
        record {
          clear = idle;
          eligible = efe_bound m p w.ordered a t l (omega (arith, w.released a l, r.released))
              (λ b lb y. omega (arith, spent b lb, after b lb y))
              (λ b lb y. omega (arith, spent b lb, behind b lb y));
          unended = before-end t a l (omega (arith, agrees.left a l, r.owing));
          temporal = after;
          on_data = behind;
        }

    -- a ready activity that is not active, though it would fit, contends
    ready-contends : (b : ℕ) → b < m.activities → T (ready m release t s b) → (¬ T (active p t b))
        → m.width b + ahead m (active p t) b ≤ m.cores → Contends m p t b
    ready-contends b l r idle room = record {
      waiting = ready-waits b l ((ready_sound m release t s b).0 r) idle;
      fits = room;
    }

    picked : Picked m (ready m release t s) (active p t)
    unfolding s Before
    picked = record {
      are_ready = λ a l x. (ready_sound m release t s a).1 (active-ready a l x);
      at_most = k.plain.cores t within_time;
      not-idle = λ few b l r room. ⊎_elim (λ x. x)
          (λ x. absurd (k.idle t b within_time l few (ready-contends b l r x room)))
          (dec_t (active p t b));
      in_order = λ all b a lb la r room x y. ⊎_elim
          (λ h. omega (arith, k.plain.priority t b within_time lb all (ready-contends b lb r x room) a la y))
          (λ h. k.tie t b within_time lb (ready-contends b lb r x room) all a la y h.1 h.0);
    }

    -- the plan's tick is the machine's
    same_bit : (a : ℕ) → a < m.activities → active p t a ≡ runs m release duration t a
    unfolding s
    same_bit a l =
        fits-selected m (ready m release t s) (active p t) (picked_fits m (ready m release t s) (active p t) w.wide picked) a l
        ∙ sym (runs-selected m release duration t a l)

    -- the last active tick is the one before the end
    last_tick : (a : ℕ) → a < m.activities → T (active p t a) → done (suc t) a ≡ duration a → p.end a ≡ t + 1
    unfolding done count_of
    last_tick a l x e =
        let win = k.plain.window a l in
        let inside = (win.outside_none t within_time x).1 in
        elim (dec_lt (t + 1) (p.end a)) [
          | yes h ↦ absurd (omega (
            arith,
            e,
            w.lasts a l,
            count_grows (suc t) (p.end a - 1) (λ u. active p u a) (omega arith),
            count-suc (p.end a - 1) (λ u. active p u a),
            one_if (active p (p.end a - 1) a) win.last_set,
            count_grows (suc (p.end a - 1)) m.horizon (λ u. active p u a) (omega (arith, win.inside)),
          ))
          | no h ↦ omega arith
        ]

    agrees_next : Agrees (suc t)
    unfolding s done
    agrees_next = record { left = λ a l. still a l (dec_t (active p t a)); finished = λ a l e. fin a l e (dec_t (active p t a)) }
      where
        moved : (a : ℕ) → a < m.activities
            → owes (at m release duration (suc t)) a ≡ owes s a - weight (active p t a)
        moved a l =
            owes_next m release duration t a l ∙ ap (λ (b : Bool). owes s a - weight b) (sym (same_bit a l))

        still : (a : ℕ) → a < m.activities → T (active p t a) ⊎ (¬ T (active p t a))
            → owes (at m release duration (suc t)) a + done (suc t) a ≡ duration a
        still a l (inl x) =
            omega (
              arith,
              moved a l,
              agrees.left a l,
              count-suc t (λ u. active p u a),
              one_if (active p t a) x,
              (active-ready a l x).owing,
            )
        still a l (inr x) =
            omega (arith, moved a l, agrees.left a l, count-suc t (λ u. active p u a), zero_if (active p t a) x)

        fin : (a : ℕ) → a < m.activities → owes (at m release duration (suc t)) a ≡ 0
            → T (active p t a) ⊎ (¬ T (active p t a)) → end_of (at m release duration (suc t)) a ≡ p.end a
        fin a l e (inl x) =
            end_last m release duration t a l (subst T (same_bit a l) x)
            (omega (arith, moved a l, one_if (active p t a) x, (active-ready a l x).owing, e))
            ∙ sym (last_tick a l x (omega (arith, still a l (inl x), e)))
        fin a l e (inr x) =
            end-idle m release duration t a l (λ y. x (subst T (sym (same_bit a l)) y))
            ∙ agrees.finished a l (omega (arith, moved a l, zero_if (active p t a) x, e))

  -- "every activity's duration is 1 or more": its start is an active tick
  lasts-long : (a : ℕ) → a < m.activities → 0 < duration a
  unfolding count_of
  lasts-long a l =
      let win = k.plain.window a l in
      omega (
        arith,
        w.lasts a l,
        count-some m.horizon (λ u. active p u a) (p.start a) (omega (arith, win.ordered, win.inside)) win.first_set,
      )

  agrees_at : (t : ℕ) → t ≤ m.horizon → Agrees t
  agrees_at zero h = agrees_first lasts-long
  agrees_at (suc t) h = agrees_next t h (agrees_at t (omega arith))

  -- every word of the plan is the machine's
  pub same_word : (t : ℕ) → t < m.horizon → p.word t ≡ machine_word m release duration t
  same_word t h =
      word_ext 32 (p.word t) (machine_word m release duration t) (w.narrow t h)
      (lt_of_lt_of_le (word_lt m release duration t) (pow_mono w.few))
      (λ b l. elim (dec_lt b m.activities) [
        | yes c ↦ same_bit t h (agrees_at t (omega arith)) b c
        | no c ↦ T_false (active p t b) (w.known t h b l (omega arith))
            ∙ sym (T_false (runs m release duration t b)
            (bit_high (machine_word m release duration t) m.activities b (word_lt m release duration t) (omega arith)))
      ])

  -- the machine ends with nothing owed, and with the plan's ends and starts
  pub nothing_owed : (a : ℕ) → a < m.activities → machine_owes m release duration a ≡ 0
  unfolding machine_owes done count_of
  nothing_owed a l = omega (arith, (agrees_at m.horizon (omega arith)).left a l, w.lasts a l)

  pub same_end : (a : ℕ) → a < m.activities → p.end a ≡ machine_end m release duration a
  unfolding machine_end machine_owes
  same_end a l = sym ((agrees_at m.horizon (omega arith)).finished a l (nothing_owed a l))

  pub same_start : (a : ℕ) → a < m.activities → p.start a ≡ machine_start m release duration a
  unfolding machine_start
  same_start a l =
      let win = k.plain.window a l in
      let first : p.start a < m.horizon = omega (arith, win.ordered, win.inside) in
      sym (lowest_unique m.horizon (λ t. runs m release duration t a) (p.start a) first
      (subst (λ (x : ℕ). T (bit x a)) (same_word (p.start a) first) win.first_set)
      (λ t b x. absurd (omega (
        arith,
        b,
        (win.outside_none t (omega arith) (subst (λ (y : ℕ). T (bit y a)) (sym (same_word t (omega arith))) x)).0,
      ))))
