-- Claims like that of "Urgent threads don't notice the others" (U3 of 02): the request's, with tests of what it asks for and of
-- what it promises, and others that differ from it in one thing. UrgentCases has records on which each of the others is false.
-- Assumes nothing.
use Prim.Native.Nat.{ℕ, ◌%◌, ◌≤◌, ◌<◌}
use mathlib.Core.Bool.{Bool, true, false, ◌&&◌, ◌||◌, not}
use mathlib.Core.List.{List}
use mathlib.Core.Logic.{◌⊎◌, inl, inr, ⊎_elim, ◌↔◌}
use mathlib.Core.Path.{◌≡◌, sym, subst}
use lib.Dec.{T, eqb, leb, ltb}
use Rattle.schedule.specs.Bounded.{all, ◌⇒◌}
use Rattle.schedule.specs.Model.{Model, model, priority_of, temporally, by_data, Page}
use Rattle.schedule.specs.Choice.{Choice}
use Rattle.schedule.specs.Answers.{MeetsForm}
use Rattle.laws.proofs.Tests.{tests}
use Rattle.laws.proofs.Counting.{T_ext}
use Rattle.demands.specs.Urgent.{Urgent, Apart, Alike, machine_bit}
use Rattle.demands.proofs.Urgent.{unaffected}

-- A claim by its parts. It asks that no activity below P `precedes` one with a `preceded` priority, and that two choices agree
-- on the `releases` of threads and on the `durations` of activities with such priorities; it promises that the bits of
-- activities with a `promised` one agree. These four are tests of P and a priority; `priority` is an activity's.
pub record Claim : Type 0 where
  pub precedes : Model → ℕ → ℕ → Bool
  pub preceded : ℕ → ℕ → Bool
  pub releases : ℕ → ℕ → Bool
  pub durations : ℕ → ℕ → Bool
  pub promised : ℕ → ℕ → Bool
  pub priority : Model → ℕ → ℕ

-- what a claim asks of a model, a P and two choices
abbrev pub asks : Claim → Model → ℕ → Choice → Choice → Bool
asks c m P q q' =
    all m.activities (λ b. all m.activities (λ a.
    (ltb (c.priority m b) P && c.preceded P (c.priority m a)) ⇒ not (c.precedes m b a)))
    && (all m.threads (λ j. c.releases P (m.priority j) ⇒ eqb (q.release j) (q'.release j))
    && all m.activities (λ a. c.durations P (c.priority m a) ⇒ eqb (q.duration a) (q'.duration a)))

-- the bits that a claim promises agree at every tick
abbrev pub agree : Claim → Model → ℕ → Choice → Choice → Bool
agree c m P q q' =
    all m.horizon (λ t. all m.activities (λ a. c.promised P (c.priority m a)
    ⇒ ((machine_bit m q t a ⇒ machine_bit m q' t a) && (machine_bit m q' t a ⇒ machine_bit m q t a))))

-- b precedes a by either mask
abbrev either : Model → ℕ → ℕ → Bool
either m b a = temporally m b a || by_data m b a

-- a priority is at or above P, or above P
abbrev at_or_above : ℕ → ℕ → Bool
at_or_above P p = leb P p

abbrev above : ℕ → ℕ → Bool
above P p = ltb P p

abbrev always : ℕ → ℕ → Bool
always P p = true

abbrev never : ℕ → ℕ → Bool
never P p = false

-- a claim from its parts, in the order above
abbrev claim : (Model → ℕ → ℕ → Bool) → (preceded releases durations promised : ℕ → ℕ → Bool)
    → (Model → ℕ → ℕ) → Claim
claim precedes preceded releases durations promised priority = record {
  precedes = precedes;
  preceded = preceded;
  releases = releases;
  durations = durations;
  promised = promised;
  priority = priority;
}

-- the request's claim
abbrev pub requested : Claim
requested = claim either at_or_above at_or_above at_or_above at_or_above priority_of

-- the others: predecessors by one mask only
abbrev pub temporal_only : Claim
temporal_only = claim temporally at_or_above at_or_above at_or_above at_or_above priority_of

abbrev pub data_only : Claim
data_only = claim by_data at_or_above at_or_above at_or_above at_or_above priority_of

-- predecessors by the masks as they stand in the rows of a record's page, of which activity a has row a % m: a loop byte is none
-- of their bits
abbrev pub by_rows : Page → Claim
by_rows p =
    let m : ℕ = p.plain.activities in
    claim (λ _ b a. either p.plain (b % m) (a % m)) at_or_above at_or_above at_or_above at_or_above priority_of

-- "above" for "at or above", in one place
abbrev pub preceded_above : Claim
preceded_above = claim either above at_or_above at_or_above at_or_above priority_of

abbrev pub releases_above : Claim
releases_above = claim either at_or_above above at_or_above at_or_above priority_of

abbrev pub durations_above : Claim
durations_above = claim either at_or_above at_or_above above at_or_above priority_of

-- the same in all four places, with below P as it is
abbrev pub above_everywhere : Claim
above_everywhere = claim either above above above above priority_of

-- agreement on releases, or on durations, dropped
abbrev pub without_releases : Claim
without_releases = claim either at_or_above never at_or_above at_or_above priority_of

abbrev pub without_durations : Claim
without_durations = claim either at_or_above at_or_above never at_or_above priority_of

-- the bits of all activities
abbrev pub every_bit : Claim
every_bit = claim either at_or_above at_or_above at_or_above always priority_of

-- "priority looked up by activity number"
abbrev pub by_number : Claim
by_number = claim either at_or_above at_or_above at_or_above at_or_above (λ m a. m.priority a)

-- ---- the tests say what the statement says

pub asks_sound : (m : Model) (P : ℕ) (q q' : Choice) → T (asks requested m P q q') ↔ (Apart m P × Alike m P q q')
asks_sound m P q q' = (λ t. there (simp tests at t), λ h. simp tests (back h))
  where
    Parts : Type 0
    Parts =
        ((b : ℕ) → b < m.activities → (a : ℕ) → a < m.activities
        → (priority_of m b < P) × (P ≤ priority_of m a) → ¬ (T (temporally m b a) ⊎ T (by_data m b a)))
        × (((j : ℕ) → j < m.threads → P ≤ m.priority j → q.release j ≡ q'.release j)
        × ((a : ℕ) → a < m.activities → P ≤ priority_of m a → q.duration a ≡ q'.duration a))

    there : Parts → Apart m P × Alike m P q q'
    there h = (
      record {
        temporal = λ b a lb la x y t. h.0 b lb a la (x, y) (inl t);
        on_data = λ b a lb la x y t. h.0 b lb a la (x, y) (inr t);
      },
      record { releases = h.1.0; durations = h.1.1 },
    )

    back : Apart m P × Alike m P q q' → Parts
    back h = (
      λ b lb a la x. ⊎_elim (h.0.temporal b a lb la x.0 x.1) (h.0.on_data b a lb la x.0 x.1),
      (h.1.releases, h.1.durations),
    )

pub agree_sound : (m : Model) (P : ℕ) (q q' : Choice) → T (agree requested m P q q')
    ↔ ((t : ℕ) → t < m.horizon → (a : ℕ) → a < m.activities → Urgent m P a
    → machine_bit m q t a ≡ machine_bit m q' t a)
agree_sound m P q q' = (
  λ h t lt a l u. let both = (simp tests at h) t lt a l u in T_ext (machine_bit m q t a) (machine_bit m q' t a) both.0 both.1,
  λ h. simp tests (λ (t : ℕ) (lt : t < m.horizon) (a : ℕ) (l : a < m.activities) (u : Urgent m P a).
      (subst T (h t lt a l u), subst T (sym (h t lt a l u)))),
)

-- so what the request's claim asks for is never given without what it promises
pub requested_keeps : (s : List ℕ) (P : ℕ) (q q' : Choice) → MeetsForm s
    → T (asks requested (model s) P q q') → T (agree requested (model s) P q q')
requested_keeps s P q q' formed given =
    let both = (asks_sound (model s) P q q').0 given in
    (agree_sound (model s) P q q').1 (λ t _ a l u. unaffected s P q q' formed both.0 both.1 t a l u)
