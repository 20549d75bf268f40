-- The machine from tick to tick: the tables hold its state, and the words written so far are its words. Whether it is played, and
-- what the judgement of its end says.
-- Assumes nothing.
use Prim.Native.Nat.{ℕ, ◌+◌, ◌≤◌, ◌<◌, min}
use native.Mathlib.Decide.{dec_lt}
use native.Mathlib.Numerals.{add-one}
use native.Mathlib.Omega.{arith}
use mathlib.Core.Bool.{Bool, true, false, ◌&&◌, cond}
use mathlib.Core.List.{List}
use mathlib.Core.Option.{Option, some, none}
use mathlib.Core.Path.{◌≡◌, refl, sym, subst, ap, ap₂, ◌∙◌}
use lib.Dec.{eqb}
use lib.ListN.{length, get_or, replicate, get_or-eq_default}
use borrow.Author.Tests.{le-leb, lt-leb}
use Rattle.schedule.specs.Bounded.{bit, chain}
use Rattle.schedule.specs.Fields.{bytes}
use Rattle.schedule.specs.Rule.{Refusal, first_break}
use Rattle.schedule.specs.Model.{Model, Formed}
use Rattle.schedule.specs.Choice.{Choice}
use Rattle.schedule.specs.Plan.{tick_at, ticks_in}
use Rattle.schedule.specs.Machine.{state_at, machine_word, machine_end, machine_owes}
use Rattle.schedule.specs.Answers.{run_rules}
use Rattle.schedule.specs.Numbers.{refusal_numbers}
use Rattle.schedule.specs.declared.Refusal.{Refusal as Declared}
use Rattle.laws.proofs.FieldLaws.{length-bytes, length-chain}
use Rattle.laws.proofs.NumbersLaws.{refusal_injective}
use Rattle.laws.proofs.Steps.{zeros_at}
use Rattle.fields.specs.Put.{put}
use Rattle.fields.proofs.PutLaws.{put_nil, put_next, put_out, length-put}
use Rattle.tables.specs.Columns.{by_activity}
use Rattle.tables.proofs.TableLaws.{by_table, by_beyond, length_by, table_by}
use Rattle.machine.specs.declared.inputs.Tables.{Tables}
use Rattle.machine.specs.Masks.{tick_word, Tabled, Keeps, Stepped}
use Rattle.machine.specs.Ending.{Stopped}
use Rattle.machine.specs.declared.Judged.{Judged}
use Rattle.machine.specs.Played.{grid_bytes, written_grid, played_ends, played_grid, Finished, Ended}
use Rattle.machine.specs.Played.{Judgement, refused, not_played, judged_numbers, judged_by, played_judgement}
use Rattle.machine.proofs.MaskLaws.{tick_is, keeps-first, keeps_next, stepped_fewer}

-- ---- the words in the grid

-- the words of the first k ticks take 4 bytes each
pub length-grid : (m : Model) (q : Choice) (k : ℕ) → length (grid_bytes m q k) ≡ tick_at k
unfolding grid_bytes
length-grid m q k = length-chain 4 k _ (λ t _. length-bytes 4 (machine_word m q.release q.duration t))

grid-start : (m : Model) (q : Choice) (grid : List ℕ) → grid ≡ written_grid m q 0 grid
unfolding grid_bytes chain
grid-start m q grid =
    let none : min 0 (ticks_in grid) ≡ 0 = omega arith in
    sym (ap (λ (k : ℕ). put 0 (grid_bytes m q k) grid) none ∙ put_nil 0 grid)

-- one word more, or none where there is no room for it
grid_next : (m : Model) (q : Choice) (t : ℕ) (grid : List ℕ)
    → put (tick_at t) (bytes 4 (machine_word m q.release q.duration t)) (written_grid m q t grid)
    ≡ written_grid m q (t + 1) grid
unfolding grid_bytes chain
grid_next m q t grid = elim (dec_lt t (ticks_in grid)) [
  | yes l ↦
      let now : min t (ticks_in grid) ≡ t = omega arith in
      let then : min (t + 1) (ticks_in grid) ≡ t + 1 = omega arith in
      ap (λ (k : ℕ). put (tick_at t) (bytes 4 word) (put 0 (grid_bytes m q k) grid)) now
      ∙ put_next 0 (tick_at t) (grid_bytes m q t) (bytes 4 word) grid (omega (arith, length-grid m q t))
      (omega (arith, length-bytes 4 word, l))
      ∙ ap (λ (k : ℕ). put 0 (grid_bytes m q k) grid) (sym (then ∙ add-one t))
  | no l ↦
      let same : min t (ticks_in grid) ≡ min (t + 1) (ticks_in grid) = omega arith in
      put_out (tick_at t) (bytes 4 word) (written_grid m q t grid)
      (omega (arith, length-bytes 4 word, length-put 0 (grid_bytes m q (min t (ticks_in grid))) grid, l))
      ∙ ap (λ (k : ℕ). put 0 (grid_bytes m q k) grid) same
]
  where
    word : ℕ
    word = machine_word m q.release q.duration t

-- where there is room for all, all are written
pub grid-whole : (m : Model) (q : Choice) (grid : List ℕ) → tick_at m.horizon ≤ length grid
    → written_grid m q m.horizon grid ≡ put 0 (grid_bytes m q m.horizon) grid
grid-whole m q grid room =
    let whole : min m.horizon (ticks_in grid) ≡ m.horizon = omega arith in
    ap (λ (k : ℕ). put 0 (grid_bytes m q k) grid) whole

-- ---- from tick to tick

-- What holds at tick t.
pub record Running (m : Model) (q : Choice) (grid₀ grid owed ends : List ℕ) (t : ℕ) : Type 0 where
  pub so_far : t ≤ m.horizon
  pub sized : (length owed ≡ 32) × (length ends ≡ 32)
  pub beyond : (a : ℕ) → m.activities ≤ a → (get_or owed a 0 ≡ 0) × (get_or ends a 0 ≡ 0)
  pub keeps : Keeps m (state_at m q.release q.duration t) owed ends
  pub written : grid ≡ written_grid m q t grid₀

pub running_start : (m : Model) (q : Choice) (grid owed ends : List ℕ) → m.activities ≤ 32
    → owed ≡ by_activity m q.duration → ends ≡ replicate 32 0 → Running m q grid grid owed ends 0
running_start m q grid owed ends few o e = record {
  so_far = omega arith;
  sized = (ap length o ∙ length_by m q.duration, ap length e);
  beyond = λ a l. (ap (λ (x : List ℕ). get_or x a 0) o ∙ by_beyond m q.duration a l, no_end a);
  keeps = keeps-first m q.release q.duration owed ends (by_table m q.duration owed few o) (λ a l. no_end a);
  written = grid-start m q grid;
}
  where
    no_end : (a : ℕ) → get_or ends a 0 ≡ 0
    no_end a = ap (λ (x : List ℕ). get_or x a 0) e ∙ zeros_at 32 a

module _ (m : Model) (q : Choice) (grid₀ grid owed ends : List ℕ) (t : ℕ) (h : Running m q grid₀ grid owed ends t) where
  pub running_next : (tables : Tables) (word : ℕ) (grid' owed' ends' : List ℕ)
      → Tabled m q.release tables → t < m.horizon
      → word ≡ tick_word tables owed ends t
      → Stepped 32 word t owed ends owed' ends'
      → grid' ≡ put (tick_at t) (bytes 4 word) grid
      → Running m q grid₀ grid' owed' ends' (t + 1)
  unfolding machine_word
  running_next tables word grid' owed' ends' tabled l ew stepped eg =
      record {
        so_far = omega arith;
        sized = stepped.sized;
        beyond = still;
        keeps = keeps_next m q.release q.duration t word owed ends owed' ends' right h.keeps
            (stepped_fewer m.activities word t owed ends owed' ends' tabled.few stepped);
        written =
            eg
            ∙ ap₂ (λ (g : List ℕ) (w : ℕ). put (tick_at t) (bytes 4 w) g) h.written right
            ∙ grid_next m q t grid₀;
      }
    where
      right : word ≡ machine_word m q.release q.duration t
      right = ew ∙ tick_is m q.release tables tabled (state_at m q.release q.duration t) owed ends t h.keeps

      still : (a : ℕ) → m.activities ≤ a → (get_or owed' a 0 ≡ 0) × (get_or ends' a 0 ≡ 0)
      still a k = elim (dec_lt a 32) [
        | yes here ↦ (
          omega (arith, stepped.owed_less a here, (h.beyond a k).0),
          stepped.ends_next a here ∙ ap (λ (x : ℕ). cond (bit word a && eqb x 1) (t + 1) (get_or ends a 0)) (h.beyond a k).0
              ∙ never (bit word a) ∙ (h.beyond a k).1,
        )
        | no here ↦ (
          get_or-eq_default owed' 0 {n = a} (omega (arith, stepped.sized.0)),
          get_or-eq_default ends' 0 {n = a} (omega (arith, stepped.sized.1)),
        )
      ]
        where
          never : (b : Bool) → cond (b && eqb 0 1) (t + 1) (get_or ends a 0) ≡ get_or ends a 0
          never true = refl
          never false = refl

  pub running_end : m.horizon ≤ t → Finished m q grid₀ grid owed ends
  unfolding machine_owes machine_end
  running_end l =
      let last : t ≡ m.horizon = omega (arith, h.so_far) in
      let held = subst (λ (k : ℕ). Keeps m (state_at m q.release q.duration k) owed ends) last h.keeps in
      record {
        written = h.written ∙ ap (λ (k : ℕ). written_grid m q k grid₀) last;
        owed_ticks = table_by m _ owed h.sized.0 (λ a la _. held.owed_ticks a la) (λ a la _. (h.beyond a la).0);
        end_ticks = table_by m _ ends h.sized.1 (λ a la _. held.end_ticks a la) (λ a la _. (h.beyond a la).1);
      }

  pub running_length : length grid ≡ length grid₀
  running_length = ap length h.written ∙ length-put 0 (grid_bytes m q (min t (ticks_in grid₀))) grid₀

-- the tables hold what the machine leaves
pub finished_stopped : (m : Model) (q : Choice) (grid grid' owed ends : List ℕ) → m.activities ≤ 32
    → Finished m q grid grid' owed ends → Stopped m q owed ends
finished_stopped m q grid grid' owed ends few h = record {
  few = few;
  owed_ticks = by_table m _ owed few h.owed_ticks;
  end_ticks = by_table m _ ends few h.end_ticks;
}

-- ---- played or not

-- the ends, how they are judged, and the grid that a call answers and leaves
abbrev Says : Model → Choice → List ℕ → List ℕ → List ℕ → Judgement → Type 0
Says m q grid grid' ends judged =
    (ends ≡ played_ends m q) × (judged ≡ played_judgement m q) × (grid' ≡ played_grid m q grid)

module _ (m : Model) (q : Choice) (grid grid' owed ends : List ℕ) (judged : Judgement) where
  pub played : m.activities ≤ 32 → Finished m q grid grid' owed ends → judged ≡ judged_by (first_break (run_rules m q))
      → Says m q grid grid' ends judged
  unfolding played_ends played_judgement played_grid
  played few h j =
      let yes? = le-leb m.activities 32 few in (
        h.end_ticks ∙ sym (ap (λ (t : Bool). cond t (by_activity m (machine_end m q.release q.duration)) (replicate 32 0)) yes?),
        j ∙ sym (ap (λ (t : Bool). cond t (judged_by (first_break (run_rules m q))) not_played) yes?),
        h.written ∙ sym (ap (λ (t : Bool). cond t (written_grid m q m.horizon grid) grid) yes?),
      )

module _ (m : Model) (q : Choice) (grid grid' ends : List ℕ) (judged : Judgement) where
  pub unplayed : 32 < m.activities → ends ≡ replicate 32 0 → judged ≡ not_played → grid' ≡ grid → Says m q grid grid' ends judged
  unfolding played_ends played_judgement played_grid
  unplayed many e j g =
      let no? = lt-leb m.activities 32 many in (
        e ∙ sym (ap (λ (t : Bool). cond t (by_activity m (machine_end m q.release q.duration)) (replicate 32 0)) no?),
        j ∙ sym (ap (λ (t : Bool). cond t (judged_by (first_break (run_rules m q))) not_played) no?),
        g ∙ sym (ap (λ (t : Bool). cond t (written_grid m q m.horizon grid) grid) no?),
      )

-- what it promises of a model that meets its form rules
pub played_ended : (m : Model) (q : Choice) (judged : Judged) (ends : List ℕ) → Formed m
    → ends ≡ played_ends m q → judged_numbers judged ≡ played_judgement m q → Ended m q judged ends
unfolding played_ends played_judgement
played_ended m q judged ends formed e j =
    let few = formed.activities.1 in
    let yes? = le-leb m.activities 32 few in
    record {
      formed = formed;
      judgement = j ∙ ap (λ (t : Bool). cond t (judged_by (first_break (run_rules m q))) not_played) yes?;
      end_ticks = by_table m _ ends few
          (e ∙ ap (λ (t : Bool). cond t (by_activity m (machine_end m q.release q.duration)) (replicate 32 0)) yes?);
    }

-- ---- what the judgement of a machine that was played says of 42 and 43

judged_refused : (x : Refusal) (o : Option Refusal) → refused x ≡ judged_by o → o ≡ some x
judged_refused x none e = cc
judged_refused x (some y) e = cc

-- a judgement that is no refusal
abbrev pub Unrefused : Judged → Type 0
Unrefused judged = (x : Declared) → judged ≡ Judged.Refused x → ⊥

judged_none : (judged : Judged) (o : Option Refusal) → judged_numbers judged ≡ judged_by o → Unrefused judged → o ≡ none
judged_none Judged.Succeeds none e u = refl
judged_none Judged.Succeeds (some x) e u = cc
judged_none (Judged.Refused x) o e u = absurd (u x refl)
judged_none Judged.NotPlayed none e u = refl
judged_none Judged.NotPlayed (some x) e u = cc

module _ (m : Model) (q : Choice) (judged : Judged) (ends : List ℕ) (ended : Ended m q judged ends) where
  -- a refusal is their first break
  pub ended-refused : (x : Declared) → judged ≡ Judged.Refused x → first_break (run_rules m q) ≡ some (refusal_numbers x)
  ended-refused x e =
      judged_refused (refusal_numbers x) (first_break (run_rules m q)) (sym (ap judged_numbers e) ∙ ended.judgement)

  -- where there is no refusal none breaks
  pub ended_success : Unrefused judged → first_break (run_rules m q) ≡ none
  ended_success u = judged_none judged (first_break (run_rules m q)) ended.judgement u

-- no two judgements say the same
pub judged_injective : (x y : Judged) → judged_numbers x ≡ judged_numbers y → x ≡ y
judged_injective Judged.Succeeds Judged.Succeeds e = refl
judged_injective Judged.Succeeds (Judged.Refused y) e = let z : ◌≡◌ {A = ℕ} 0 1 = cc in absurd (omega arith)
judged_injective Judged.Succeeds Judged.NotPlayed e = let z : ◌≡◌ {A = ℕ} 0 1 = cc in absurd (omega arith)
judged_injective (Judged.Refused x) Judged.Succeeds e = let z : ◌≡◌ {A = ℕ} 0 1 = cc in absurd (omega arith)
judged_injective (Judged.Refused x) (Judged.Refused y) e =
    let same : refusal_numbers x ≡ refusal_numbers y = cc in
    ap Judged.Refused (refusal_injective x y same)
judged_injective (Judged.Refused x) Judged.NotPlayed e = let z : ◌≡◌ {A = ℕ} 0 1 = cc in absurd (omega arith)
judged_injective Judged.NotPlayed Judged.Succeeds e = let z : ◌≡◌ {A = ℕ} 0 1 = cc in absurd (omega arith)
judged_injective Judged.NotPlayed (Judged.Refused y) e = let z : ◌≡◌ {A = ℕ} 0 1 = cc in absurd (omega arith)
judged_injective Judged.NotPlayed Judged.NotPlayed e = refl
