-- The plan that the machine makes, where nothing is owed at its end, keeps the strict rules but for 22 and 23, which the
-- selected durations and the deadlines decide.
-- Assumes nothing.
use Prim.Native.Nat.{ℕ, zero, suc, ◌+◌, ◌-◌, ◌≤◌, ◌<◌}
use native.Mathlib.Decide.{dec_lt}
use native.Mathlib.Omega.{arith}
use mathlib.Core.Bool.{Bool, ◌&&◌}
use mathlib.Core.Path.{◌≡◌, sym, subst, ap, ◌∙◌}
use lib.Dec.{T}
use Rattle.schedule.specs.Bounded.{bit, lowest}
use Rattle.schedule.specs.Records.{Within}
use Rattle.schedule.specs.Model.{Model, temporally, by_data, Ordered}
use Rattle.schedule.specs.Timing.{InTime}
use Rattle.schedule.specs.Plan.{Plan, plan_timing, active}
use Rattle.schedule.specs.Machine.{owes, end_of, ready, before, machine_start, machine_end, machine_owes}
use Rattle.schedule.specs.Checks.{count_of, efe, Waiting, cores_of, load, Contends, Window}
use Rattle.schedule.specs.Keeps.{KeepsStrict}
use Rattle.schedule.specs.Answers.{Made}
use Rattle.laws.proofs.Counting.{count_ext, count_stops}
use Rattle.laws.proofs.Cores.{cores_ext}
use Rattle.laws.proofs.Selection.{selected, selected-fits, selected-few}
use Rattle.laws.proofs.Lowest.{lowest_is, lowest_found}
use Rattle.laws.proofs.MachineLaws.{Ready, ready_sound, at, runs, runs-selected, runs-ready, runs-duration}
use Rattle.laws.proofs.MachineLaws.{owed-done, stays, Ended, ended}
use Rattle.laws.proofs.EfeLaws.{efe-release, efe_bound}
use Rattle.laws.proofs.Windows.{window_span}

module _ (m : Model) (release duration : ℕ → ℕ) (p : Plan) (made : Made m release duration p)
    (ordered : Ordered m) (few : m.activities ≤ 32)
    (lasting : (a : ℕ) → a < m.activities → 0 < duration a)
    (settled : (a : ℕ) → a < m.activities → machine_owes m release duration a ≡ 0) where
  same_bit : (t a : ℕ) → t < m.horizon → active p t a ≡ runs m release duration t a
  same_bit t a l = ap (λ (w : ℕ). bit w a) (made.words t l)

  is_active : (t a : ℕ) → t < m.horizon → T (runs m release duration t a) → T (active p t a)
  is_active t a l x = subst T (sym (same_bit t a l)) x

  is_run : (t a : ℕ) → t < m.horizon → T (active p t a) → T (runs m release duration t a)
  is_run t a l x = subst T (same_bit t a l) x

  -- count(a) is the duration
  pub counted : (a : ℕ) → a < m.activities → count_of m p a ≡ duration a
  unfolding count_of
  counted a l =
      count_ext m.horizon (λ t. active p t a) (λ t. runs m release duration t a) (λ t h. same_bit t a h)
      ∙ runs-duration m release duration a l (settled a l)

  -- what the machine's end of an activity says
  at_end : (a : ℕ) → a < m.activities → Ended m release duration m.horizon a
  unfolding machine_owes
  at_end a l = ended m release duration m.horizon a l (lasting a l) (settled a l)

  its_end : (a : ℕ) → a < m.activities → p.end a ≡ end_of (at m release duration m.horizon) a
  unfolding machine_end
  its_end a l = made.ends a l

  window : (a : ℕ) → a < m.activities → Window m p a
  unfolding machine_start
  window a l =
      let fin = at_end a l in
      let e : p.end a ≡ end_of (at m release duration m.horizon) a = its_end a l in
      let run : ℕ → Bool = λ t. runs m release duration t a in
      let low = lowest_found m.horizon run (end_of (at m release duration m.horizon) a - 1)
      (omega (arith, fin.positive, fin.past)) fin.last in
      let b : p.start a ≡ lowest m.horizon run = made.starts a l in
      record {
        ordered = omega (arith, fin.positive, low.0);
        inside = omega (arith, fin.past);
        first_set = subst (λ (t : ℕ). T (active p t a)) (sym b)
            (is_active (lowest m.horizon run) a (omega (arith, fin.positive, fin.past, low.0)) low.1);
        last_set = subst (λ (t : ℕ). T (active p (t - 1) a)) (sym e)
            (is_active (end_of (at m release duration m.horizon) a - 1) a (omega (arith, fin.positive, fin.past)) fin.last);
        outside_none = λ t h x. (
          elim (dec_lt t (p.start a)) [
            | yes c ↦ absurd ((lowest_is m.horizon run).none_below t (omega arith) (is_run t a h x))
            | no c ↦ omega arith
          ],
          elim (dec_lt t (p.end a)) [
            | yes c ↦ c
            | no c ↦ absurd (fin.since t (omega arith) h (is_run t a h x))
          ],
        );
      }

  -- an activity is ready at its start
  ready-start : (a : ℕ) → a < m.activities → Ready m release (p.start a) (at m release duration (p.start a)) a
  ready-start a l =
      let win = window a l in
      runs-ready m release duration (p.start a) a l
      (is_run (p.start a) a (omega (arith, win.ordered, win.inside)) win.first_set)

  -- what had ended at a tick has that end in the plan
  end_then : (t b : ℕ) → b < m.activities → t ≤ m.horizon → owes (at m release duration t) b ≡ 0
      → p.end b ≡ end_of (at m release duration t) b
  end_then t b l h e = its_end b l ∙ (stays m release duration t m.horizon b l h e).1

  temporal : (a b : ℕ) → a < m.activities → b < m.activities → T (temporally m b a)
      → p.end b + m.delay b ≤ p.start a
  temporal a b l lb x =
      let r = (ready-start a l).temporal b lb x in
      let win = window a l in
      omega (arith, r.1, end_then (p.start a) b lb (omega (arith, win.ordered, win.inside)) r.0)

  on_data : (a b : ℕ) → a < m.activities → b < m.activities → T (by_data m b a) → p.end b ≤ p.start a
  on_data a b l lb x =
      let r = (ready-start a l).on_data b lb x in
      let win = window a l in
      omega (arith, r.1, end_then (p.start a) b lb (omega (arith, win.ordered, win.inside)) r.0)

  -- by induction on the activity's number, since predecessors have lower ones
  eligible-below : (k a : ℕ) → a < k → a < m.activities → efe m p a ≤ p.start a
  eligible-below zero a b l = absurd (omega arith)
  eligible-below (suc k) a b l =
      efe_bound m p ordered a (p.start a) l (omega (arith, made.released a l, (ready-start a l).released))
      (λ c lc x. omega (
        arith,
        temporal a c l lc x,
        window_span m p c (window c lc),
        eligible-below k c (omega (arith, ordered.temporal a c l lc x)) lc,
      ))
      (λ c lc x. omega (
        arith,
        on_data a c l lc x,
        window_span m p c (window c lc),
        eligible-below k c (omega (arith, ordered.on_data a c l lc x)) lc,
      ))

  eligible : (a : ℕ) → a < m.activities → efe m p a ≤ p.start a
  eligible a l = eligible-below (suc a) a (omega arith) l

  active-selected : (t a : ℕ) → t < m.horizon → a < m.activities
      → active p t a ≡ selected m (ready m release t (at m release duration t)) a
  active-selected t a h l = same_bit t a h ∙ runs-selected m release duration t a l

  -- what is done of an activity once its end is past
  all_done : (t b : ℕ) → b < m.activities → t < m.horizon → p.end b ≤ t → owes (at m release duration t) b ≡ 0
  unfolding machine_owes
  all_done t b l h e =
      omega (
        arith,
        owed-done m release duration t b l,
        owed-done m release duration m.horizon b l,
        settled b l,
        count_stops t m.horizon (λ u. runs m release duration u b) (omega arith)
            (λ u lo hi x. (at_end b l).since u (omega (arith, its_end b l)) hi x),
      )

  -- whatever waits is ready, and not selected
  waits-ready : (t a : ℕ) → t < m.horizon → a < m.activities → Waiting m p t a
      → Ready m release t (at m release duration t) a
  waits-ready t a h l w = record {
    owing = elim (dec_lt 0 (owes (at m release duration t) a)) [
      | yes o ↦ o
      | no o ↦ let z : owes (at m release duration t) a ≡ 0 = omega arith in
          absurd (omega (
            arith,
            w.unended,
            end_then t a l (omega arith) z,
            (ended m release duration t a l (lasting a l) z).past,
          ))
    ];
    released = omega (arith, made.released a l, efe-release m p ordered a l, w.eligible);
    temporal = λ b lb x.
        let e = w.temporal b lb x in
        let z = all_done t b lb h (omega arith) in
        (z, omega (arith, e, end_then t b lb (omega arith) z));
    on_data = λ b lb x.
        let e = w.on_data b lb x in
        let z = all_done t b lb h e in
        (z, omega (arith, e, end_then t b lb (omega arith) z));
  }

  -- a tick's active take as many cores as its selected
  cores-selected : (t : ℕ) → t < m.horizon → load m p t ≡ cores_of m (selected m (ready m release t (at m release duration t)))
  cores-selected t h = cores_ext m _ _ (λ a l. active-selected t a h l)

  -- nothing contends: what waits and fits has been selected
  none-contends : (t b : ℕ) → t < m.horizon → b < m.activities → ¬ Contends m p t b
  none-contends t b h l c =
      c.waiting.clear (subst T (sym (active-selected t b h l))
      ((selected-fits m (ready m release t (at m release duration t))).is_active b l
      ((ready_sound m release t (at m release duration t) b).1 (waits-ready t b h l c.waiting))
      (omega (
        arith,
        c.fits,
        cores_ext m (λ a. active p t a && before m a b)
            (λ a. selected m (ready m release t (at m release duration t)) a && before m a b)
            (λ a la. ap (λ (x : Bool). x && before m a b) (active-selected t a h la)),
      ))))

  -- rules 21 to 31, given 22 and 23
  pub keeps : ((a : ℕ) → a < m.activities → Within (m.least_duration a) (m.most_duration a) (duration a))
      → ((a : ℕ) → a < m.activities → InTime m (plan_timing p) p.end a)
      → KeepsStrict m p
  keeps range deadline = record {
    plain = record {
      window = window;
      duration = λ a l. subst (λ (d : ℕ). Within (m.least_duration a) (m.most_duration a) d) (sym (counted a l)) (range a l);
      deadline = deadline;
      temporal = temporal;
      on_data = on_data;
      eligible = eligible;
      cores = λ t h. omega (arith, cores-selected t h, selected-few m (ready m release t (at m release duration t)));
      priority = λ t b h lb _ c. absurd (none-contends t b h lb c);
    };
    idle = λ t b h lb _ c. none-contends t b h lb c;
    tie = λ t b h lb c. absurd (none-contends t b h lb c);
  }
