-- The form rules of a plan's bytes beside a model: what they say, that they leave a well-formed plan's bytes to its
-- parts alone, and that the bytes written from parts in range keep them.
-- Assumes nothing.
use Prim.Native.Nat.{ℕ, ◌+◌, ◌*◌, ◌≤◌, ◌<◌}
use native.Mathlib.Nat.{add_assoc}
use native.Mathlib.Omega.{arith}
use mathlib.Core.List.{List}
use mathlib.Core.Path.{◌≡◌, sym, ◌∙◌}
use lib.Dec.{T}
use lib.ListN.{length}
use lib.Seq.{ext_get_or}
use Rattle.schedule.specs.declared.FormRefusal.{FormRefusal}
use Rattle.schedule.specs.Fields.{field, pair_row, Bytes}
use Rattle.schedule.specs.Rule.{AllHold}
use Rattle.schedule.specs.Records.{Within}
use Rattle.schedule.specs.Model.{Model}
use Rattle.schedule.specs.Plan.{Plan, plan, active, plan_bytes, plan_form, plan_thread_row, grid_at, tick_at, plan_length}
use Rattle.schedule.specs.Numbers.{form_number}
use Rattle.schedule.specs.Opened.{form_rules}
use Rattle.laws.proofs.FirstBreak.{says}
use Rattle.laws.proofs.Parts.{Alike, alike_join, alike_field, alike_rows}
use Rattle.laws.proofs.PlanBytes.{Fits, ReadsBack, reads_back, length-plan_bytes}

-- the thread ranges of rule 12, and the words of rule 14, of a plan's parts
abbrev pub InRange : Model → Plan → Type 0
InRange m p = (j : ℕ) → j < m.threads
    → Within (m.least_release j) (m.most_release j) (p.release j)
    × Within (m.least_period j) (m.most_period j) (p.period j)

abbrev pub WordsWithin : Model → Plan → Type 0
WordsWithin m p = (t : ℕ) → t < m.horizon → (b : ℕ) → b < 32 → m.activities ≤ b → ¬ T (active p t b)

-- what rules 8 to 12 and 14 say of a plan's bytes beside a model
pub record WellFormed (m : Model) (r : List ℕ) : Type 0 where
  pub length : length r ≡ plan_length m.threads m.activities m.horizon
  pub stated : field r 0 4 ≡ plan_length m.threads m.activities m.horizon
  pub version : field r 4 1 ≡ 1
  pub threads : (plan r).threads ≡ m.threads
  pub activities : (plan r).activities ≡ m.activities
  pub horizon : (plan r).horizon ≡ m.horizon
  pub in_range : InRange m (plan r)
  pub words-within : WordsWithin m (plan r)

pub form-says : (m : Model) (r : List ℕ) → AllHold (plan_form m r) → WellFormed m r
unfolding plan_form form_rules
form-says m r h =
    let sized = says (form_number FormRefusal.SecondSize) (plan_form m r) h 0 0 (omega arith) (omega arith) in
    let counts = says (form_number FormRefusal.SecondCounts) (plan_form m r) h 0 0 (omega arith) (omega arith) in
    let formula = says (form_number FormRefusal.SecondFormula) (plan_form m r) h 0 0 (omega arith) (omega arith) in
    record {
      length = omega arith;
      stated = omega arith;
      version = omega (arith, says (form_number FormRefusal.SecondVersion) (plan_form m r) h 0 0 (omega arith) (omega arith));
      threads = counts.0.0;
      activities = counts.0.1;
      horizon = counts.1;
      in_range = λ j l. says (form_number FormRefusal.ThreadChoice) (plan_form m r) h j 0 l (omega arith);
      words-within = λ t l. says (form_number FormRefusal.WordBits) (plan_form m r) h t 0 l (omega arith);
    }

-- and back
pub well_formed : (m : Model) (r : List ℕ) → WellFormed m r → AllHold (plan_form m r)
unfolding plan_form form_rules
well_formed m r w = (
  λ _ _ _ _. (omega arith, w.stated ∙ sym w.length),
  (
    λ _ _ _ _. omega (arith, w.version),
    (
      λ _ _ _ _. ((w.threads, w.activities), w.horizon),
      (
        λ _ _ _ _. omega arith,
        (
          λ j _ l _. w.in_range j l,
          (
            λ t _ l _. w.words-within t l,
            tt,
          ),
        ),
      ),
    ),
  ),
)

-- ---- uniqueness

-- two plans have equal parts, as many as a model asks for
pub record SameParts (m : Model) (p p' : Plan) : Type 0 where
  pub release : (j : ℕ) → j < m.threads → p.release j ≡ p'.release j
  pub period : (j : ℕ) → j < m.threads → p.period j ≡ p'.period j
  pub start : (a : ℕ) → a < m.activities → p.start a ≡ p'.start a
  pub end : (a : ℕ) → a < m.activities → p.end a ≡ p'.end a
  pub word : (t : ℕ) → t < m.horizon → p.word t ≡ p'.word t

-- rows of two fields each: they are alike where the fields are equal
alike_pairs : (r r' : List ℕ) → Bytes r → Bytes r' → (at k l n : ℕ)
    → ((j : ℕ) → j < n → field r (at + (k + l) * j) k ≡ field r' (at + (k + l) * j) k)
    → ((j : ℕ) → j < n → field r (at + (k + l) * j + k) l ≡ field r' (at + (k + l) * j + k) l)
    → Alike r r' at (at + (k + l) * n)
alike_pairs r r' b b' at k l n f g =
    alike_rows r r' at (k + l) n (λ j h. rw (← add_assoc)
    (alike_join r r' (at + (k + l) * j) (at + (k + l) * j + k) (at + (k + l) * j + k + l)
    (alike_field r r' b b' (at + (k + l) * j) k (f j h))
    (alike_field r r' b b' (at + (k + l) * j + k) l (g j h))))

pub parts_determine : (m : Model) (r r' : List ℕ) → Bytes r → Bytes r'
    → AllHold (plan_form m r) → AllHold (plan_form m r') → SameParts m (plan r) (plan r') → r ≡ r'
unfolding plan
parts_determine m r r' b b' h h' same =
    ext_get_or 0 r r' (w.length ∙ sym w'.length) (λ i l. everywhere i (omega arith) (omega (arith, w.length)))
  where
    w : WellFormed m r
    w = form-says m r h

    w' : WellFormed m r'
    w' = form-says m r' h'

    n : ℕ
    n = m.threads

    k : ℕ
    k = m.activities

    alike : (at size : ℕ) → field r at size ≡ field r' at size → Alike r r' at (at + size)
    alike = alike_field r r' b b'

    pairs : (at n : ℕ) → ((j : ℕ) → j < n → field r (pair_row at j) 2 ≡ field r' (pair_row at j) 2)
        → ((j : ℕ) → j < n → field r (pair_row at j + 2) 2 ≡ field r' (pair_row at j + 2) 2) → Alike r r' at (pair_row at n)
    pairs at = alike_pairs r r' b b' at 2 2

    header : Alike r r' 0 9
    header =
        alike_join r r' 0 4 9 (alike 0 4 (w.stated ∙ sym w'.stated))
        (alike_join r r' 4 5 9 (alike 4 1 (w.version ∙ sym w'.version))
        (alike_join r r' 5 6 9 (alike 5 1 (w.threads ∙ sym w'.threads))
        (alike_join r r' 6 7 9 (alike 6 1 (w.activities ∙ sym w'.activities))
        (alike 7 2 (w.horizon ∙ sym w'.horizon)))))

    spans : Alike r r' (plan_thread_row n) (grid_at n k)
    spans =
        pairs (plan_thread_row n) k (λ a l. rw (w.threads, w'.threads) at (same.start a l))
        (λ a l. rw (w.threads, w'.threads) at (same.end a l))

    words : Alike r r' (grid_at n k) (plan_length n k m.horizon)
    words =
        alike_rows r r' (grid_at n k) 4 m.horizon (λ t l. alike (grid_at n k + tick_at t) 4
        (rw (w.threads, w'.threads, w.activities, w'.activities) at (same.word t l)))

    everywhere : Alike r r' 0 (plan_length n k m.horizon)
    everywhere =
        alike_join r r' 0 9 (plan_length n k m.horizon) header
        (alike_join r r' 9 (plan_thread_row n) (plan_length n k m.horizon) (pairs 9 n same.release same.period)
        (alike_join r r' (plan_thread_row n) (grid_at n k) (plan_length n k m.horizon) spans words))

-- ---- the bytes written from parts

pub written-form : (m : Model) (p : Plan) → Fits p
    → p.threads ≡ m.threads → p.activities ≡ m.activities → p.horizon ≡ m.horizon
    → InRange m p → WordsWithin m p → AllHold (plan_form m (plan_bytes p))
written-form m p fits n a H range within =
    let back : ReadsBack p = reads_back p fits in
    well_formed m (plan_bytes p) (record {
      length = rw (← n, ← a, ← H) (length-plan_bytes p);
      stated = rw (← n, ← a, ← H) back.length;
      version = back.version;
      threads = back.threads ∙ n;
      activities = back.activities ∙ a;
      horizon = back.horizon ∙ H;
      in_range = λ j l. rw (back.release j (rw n l), back.period j (rw n l)) (range j l);
      words-within = λ t l. rw (back.word t (rw H l)) (within t l);
    })
