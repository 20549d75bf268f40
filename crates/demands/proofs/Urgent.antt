-- "Urgent threads don't notice the others" (U3 of 02): at every tick what is owed and ended by the activities of threads at
-- or above P is the same with both choices, so these are ready alike; and whether one is selected depends only on those that
-- rank before it, which are at or above P too (`selected_local`).
-- Assumes nothing.
use Prim.Native.Nat.{ℕ, zero, suc, ◌+◌, ◌-◌, ◌<◌}
use native.Mathlib.Omega.{arith}
use mathlib.Core.Bool.{Bool, ◌&&◌, cond}
use mathlib.Core.Logic.{inl, inr}
use mathlib.Core.Path.{◌≡◌, sym, ap, ap₂, ◌∙◌}
use lib.Dec.{eqb}
use lib.ListN.{length}
use Rattle.schedule.specs.Bounded.{bit}
use Rattle.schedule.specs.Model.{Model, model}
use Rattle.schedule.specs.Choice.{Choice, choice}
use Rattle.schedule.specs.Machine.{State, ready, machine_start, machine_end}
use Rattle.laws.proofs.Counting.{weight}
use Rattle.laws.proofs.Formed.{model-says}
use Rattle.laws.proofs.Lowest.{lowest_ext}
use Rattle.laws.proofs.MachineLaws.{SameFor, ready_local, at, owes-first, end-first, owes_next, end_next, runs-selected}
use Rattle.laws.proofs.Rank.{Before}
use Rattle.laws.proofs.Selection.{selected_local}
use Rattle.demands.specs.Urgent.{Below, Urgent, Apart, Alike, machine_bit, Unaffected, PagesStand}
use Rattle.demands.proofs.Page.{formed, written-made}

module _ (m : Model) (owner : (a : ℕ) → a < m.activities → m.thread a < m.threads)
    (P : ℕ) (apart : Apart m P) (q q' : Choice) (alike : Alike m P q q') where
  abbrev state : Choice → ℕ → State
  state c t = at m c.release c.duration t

  -- what is not below P is at or above it
  not-below : (b : ℕ) → (¬ Below m P (m.thread b)) → Urgent m P b
  not-below b h = omega arith

  -- what ranks before an urgent activity is urgent
  urgent_before : (b a : ℕ) → Before m b a → Urgent m P a → Urgent m P b
  unfolding Before
  urgent_before b a (inl above) u = omega arith
  urgent_before b a (inr level) u = omega arith

  -- the states of tick t are the same for each urgent activity
  abbrev Same : ℕ → Type 0
  Same t = (a : ℕ) → a < m.activities → Urgent m P a → SameFor (state q t) (state q' t) a

  ready_alike : (t : ℕ) → Same t → (a : ℕ) → a < m.activities → Urgent m P a
      → ready m q.release t (state q t) a ≡ ready m q'.release t (state q' t) a
  ready_alike t same a l u =
      ready_local m q.release q'.release t _ _ a (same a l u).owed (alike.releases (m.thread a) (owner a l) u)
      (λ b lb x. same b lb (not-below b (λ low. apart.temporal b a lb l low u x)))
      (λ b lb x. same b lb (not-below b (λ low. apart.on_data b a lb l low u x)))

  runs_alike : (t : ℕ) → Same t → (a : ℕ) → a < m.activities → Urgent m P a
      → machine_bit m q t a ≡ machine_bit m q' t a
  runs_alike t same a l u =
      runs-selected m q.release q.duration t a l
      ∙ selected_local m _ _ a l (ready_alike t same a l u) (λ b lb h. ready_alike t same b lb (urgent_before b a h u))
      ∙ sym (runs-selected m q'.release q'.duration t a l)

  always_same : (t : ℕ) → Same t
  always_same zero a l u = record {
    owed =
        owes-first m q.release q.duration a l
        ∙ alike.durations a l u
        ∙ sym (owes-first m q'.release q'.duration a l);
    end = end-first m q.release q.duration a l ∙ sym (end-first m q'.release q'.duration a l);
  }
  always_same (suc t) a l u = next (always_same t)
    where
      next : Same t → SameFor (state q (suc t)) (state q' (suc t)) a
      next same =
          let now = same a l u in
          let ran = runs_alike t same a l u in
          record {
            owed =
                owes_next m q.release q.duration t a l
                ∙ ap₂ (λ (o : ℕ) (r : Bool). o - weight r) now.owed ran
                ∙ sym (owes_next m q'.release q'.duration t a l);
            end =
                end_next m q.release q.duration t a l
                ∙ ap₂ (λ (r : Bool) (e : ℕ). cond r (t + 1) e)
                (ap₂ (λ (r : Bool) (o : ℕ). r && eqb o 1) ran now.owed) now.end
                ∙ sym (end_next m q'.release q'.duration t a l);
          }

  words_alike : (t a : ℕ) → a < m.activities → Urgent m P a
      → machine_bit m q t a ≡ machine_bit m q' t a
  words_alike t a l u = runs_alike t (always_same t) a l u

  starts_alike : (a : ℕ) → a < m.activities → Urgent m P a
      → machine_start m q.release q.duration a ≡ machine_start m q'.release q'.duration a
  unfolding machine_start
  starts_alike a l u = lowest_ext m.horizon _ _ (λ t _. words_alike t a l u)

  ends_alike : (a : ℕ) → a < m.activities → Urgent m P a
      → machine_end m q.release q.duration a ≡ machine_end m q'.release q'.duration a
  unfolding machine_end
  ends_alike a l u = (always_same m.horizon a l u).end

pub unaffected : Unaffected
unaffected s P q q' form apart alike t a l u = words_alike (model s) (model-says s form).owner P apart q q' alike t a l u

pub pages_stand : PagesStand
pages_stand s q q' buffer buffer' P bytes bytes' apart alike w w' e e' =
    let m : Model = model s in
    let owner = (model-says s (formed s q (length buffer) w e)).owner in
    let one = written-made s q buffer bytes w e in
    let other = written-made s q' buffer' bytes' w' e' in
    record {
      words = λ t a lt l u.
          ap (λ (x : ℕ). bit x a) (one.words t lt)
          ∙ words_alike m owner P apart (choice q) (choice q') alike t a l u
          ∙ sym (ap (λ (x : ℕ). bit x a) (other.words t lt));
      starts = λ a l u.
          one.starts a l ∙ starts_alike m owner P apart (choice q) (choice q') alike a l u ∙ sym (other.starts a l);
      ends = λ a l u.
          one.ends a l ∙ ends_alike m owner P apart (choice q) (choice q') alike a l u ∙ sym (other.ends a l);
    }
