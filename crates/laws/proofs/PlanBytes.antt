-- The bytes written from a plan's parts: how many they are, and that a plan whose parts fit is read back from them.
-- Assumes nothing.
use Prim.Native.Nat.{ℕ, ◌+◌, ◌*◌, ◌^◌, ◌<◌}
use native.Mathlib.Omega.{arith}
use mathlib.Core.List.{List, ◌++◌}
use mathlib.Core.Path.{◌≡◌, ap, ◌∙◌}
use lib.ListN.{length, length-append}
use Rattle.schedule.specs.Bounded.{chain}
use Rattle.schedule.specs.Fields.{field, bytes, pair, pair_row, Bytes}
use Rattle.schedule.specs.Plan.{Plan, plan, plan_bytes, plan_length, plan_thread_row, grid_at, tick_at, word_in, plan_grid, pair_rows}
use Rattle.laws.proofs.FieldLaws.{length-bytes, bytes-bytes, length-chain, bytes_append, bytes-chain, field-drop}
use Rattle.laws.proofs.Parts.{Stands, stands-whole, stands-first, stands-second}
use Rattle.laws.proofs.Parts.{stands-field, stands_next, stands-row}

-- every part of a plan fits the bytes that it is written in
pub record Fits (p : Plan) : Type 0 where
  pub threads : p.threads < 256
  pub activities : p.activities < 256
  pub horizon : p.horizon < 65536
  pub length : plan_length p.threads p.activities p.horizon < 256 ^ 4
  pub release : (j : ℕ) → j < p.threads → p.release j < 65536
  pub period : (j : ℕ) → j < p.threads → p.period j < 65536
  pub start : (a : ℕ) → a < p.activities → p.start a < 65536
  pub end : (a : ℕ) → a < p.activities → p.end a < 65536
  pub word : (t : ℕ) → t < p.horizon → p.word t < 256 ^ 4

-- bytes that begin with a plan's, read as a plan: its length, its version and every part
pub record ReadsFrom (p : Plan) (r : List ℕ) : Type 0 where
  pub length : field r 0 4 ≡ plan_length p.threads p.activities p.horizon
  pub version : field r 4 1 ≡ 1
  pub threads : (plan r).threads ≡ p.threads
  pub activities : (plan r).activities ≡ p.activities
  pub horizon : (plan r).horizon ≡ p.horizon
  pub release : (j : ℕ) → j < p.threads → (plan r).release j ≡ p.release j
  pub period : (j : ℕ) → j < p.threads → (plan r).period j ≡ p.period j
  pub start : (a : ℕ) → a < p.activities → (plan r).start a ≡ p.start a
  pub end : (a : ℕ) → a < p.activities → (plan r).end a ≡ p.end a
  pub word : (t : ℕ) → t < p.horizon → (plan r).word t ≡ p.word t

-- the plan's bytes themselves
abbrev pub ReadsBack : Plan → Type 0
ReadsBack p = ReadsFrom p (plan_bytes p)

-- the bytes of a plan from each of its parts on
abbrev words : Plan → List ℕ
words p = chain p.horizon (λ t. bytes 4 (p.word t))

abbrev spans : Plan → List ℕ
spans p = pair_rows p.activities p.start p.end ++ words p

abbrev choices : Plan → List ℕ
choices p = pair_rows p.threads p.release p.period ++ spans p

abbrev from_horizon : Plan → List ℕ
from_horizon p = bytes 2 p.horizon ++ choices p

abbrev from_activities : Plan → List ℕ
from_activities p = bytes 1 p.activities ++ from_horizon p

abbrev from_threads : Plan → List ℕ
from_threads p = bytes 1 p.threads ++ from_activities p

abbrev from_version : Plan → List ℕ
from_version p = bytes 1 1 ++ from_threads p

-- ---- how many bytes, and that they are bytes

pub length-pair : (x y : ℕ) → length (pair x y) ≡ 4
length-pair x y = simp (length-append, length-bytes)

pub length_pairs : (n : ℕ) (f g : ℕ → ℕ) → length (pair_rows n f g) ≡ 4 * n
length_pairs n f g = length-chain 4 n (λ j. pair (f j) (g j)) (λ j _. length-pair (f j) (g j))

pub length-plan_bytes : (p : Plan) → length (plan_bytes p) ≡ plan_length p.threads p.activities p.horizon
unfolding plan_bytes
length-plan_bytes p =
    simp (length-append, length-bytes)
    (omega (
      arith,
      length_pairs p.threads p.release p.period,
      length_pairs p.activities p.start p.end,
      length-chain 4 p.horizon (λ t. bytes 4 (p.word t)) (λ t _. length-bytes 4 (p.word t)),
    ))

bytes_pair : (x y : ℕ) → Bytes (pair x y)
bytes_pair x y = bytes_append (bytes 2 x) (bytes 2 y) (bytes-bytes 2 x) (bytes-bytes 2 y)

bytes-field : (k v : ℕ) (c : List ℕ) → Bytes c → Bytes (bytes k v ++ c)
bytes-field k v c h = bytes_append (bytes k v) c (bytes-bytes k v) h

bytes-pairs : (n : ℕ) (f g : ℕ → ℕ) (c : List ℕ) → Bytes c → Bytes (pair_rows n f g ++ c)
bytes-pairs n f g c h =
    bytes_append (pair_rows n f g) c (bytes-chain n (λ j. pair (f j) (g j)) (λ j _. bytes_pair (f j) (g j))) h

pub bytes-plan_bytes : (p : Plan) → Bytes (plan_bytes p)
unfolding plan_bytes
bytes-plan_bytes p =
    bytes-field 4 (plan_length p.threads p.activities p.horizon) (from_version p)
    (bytes-field 1 1 (from_threads p)
    (bytes-field 1 p.threads (from_activities p)
    (bytes-field 1 p.activities (from_horizon p)
    (bytes-field 2 p.horizon (choices p)
    (bytes-pairs p.threads p.release p.period (spans p)
    (bytes-pairs p.activities p.start p.end (words p)
    (bytes-chain p.horizon (λ t. bytes 4 (p.word t)) (λ t _. bytes-bytes 4 (p.word t)))))))))

-- ---- the round trip

-- two runs of fields in rows of 4 bytes that stand at a position, and what stands behind them
stands-pairs : (s : List ℕ) (at n : ℕ) (f g : ℕ → ℕ) (c : List ℕ) → Stands s at (pair_rows n f g ++ c)
    → ((j : ℕ) → j < n → f j < 65536) → ((j : ℕ) → j < n → g j < 65536)
    → ((j : ℕ) → j < n → field s (pair_row at j) 2 ≡ f j) × ((j : ℕ) → j < n → field s (pair_row at j + 2) 2 ≡ g j)
    × Stands s (pair_row at n) c
stands-pairs s at n f g c h small small' = (λ j l. (both j l).0, λ j l. (both j l).1, behind)
  where
    row : (j : ℕ) → j < n → Stands s (pair_row at j) (pair (f j) (g j))
    row =
        stands-row s at 4 n (λ j. pair (f j) (g j)) (λ j _. length-pair (f j) (g j))
        (stands-first s at (pair_rows n f g) c h)

    both : (j : ℕ) → j < n → (field s (pair_row at j) 2 ≡ f j) × (field s (pair_row at j + 2) 2 ≡ g j)
    both j l =
        let one = stands_next s (pair_row at j) 2 (f j) (bytes 2 (g j)) (row j l) (small j l) in
        (one.0, stands-field s (pair_row at j + 2) 2 (g j) one.1 (small' j l))

    behind : Stands s (pair_row at n) c
    behind = stands-second s at (pair_rows n f g) c h (4 * n) (length_pairs n f g)

pub reads_from : (p : Plan) → Fits p → (r : List ℕ) → Stands r 0 (plan_bytes p) → ReadsFrom p r
unfolding plan_bytes plan
reads_from p fits r stands =
    let n : ℕ = p.threads in
    let m : ℕ = p.activities in
    let H : ℕ = p.horizon in
    let (length, h₄) = stands_next r 0 4 (plan_length n m H) (from_version p) stands fits.length in
    let (version, h₅) = stands_next r 4 1 1 (from_threads p) h₄ (omega arith) in
    let (threads, h₆) = stands_next r 5 1 n (from_activities p) h₅ fits.threads in
    let (activities, h₇) = stands_next r 6 1 m (from_horizon p) h₆ fits.activities in
    let (horizon, h₉) = stands_next r 7 2 H (choices p) h₇ fits.horizon in
    let (release, period, hs) = stands-pairs r 9 n p.release p.period (spans p) h₉ fits.release fits.period in
    let (start, end, hw) = stands-pairs r (plan_thread_row n) m p.start p.end (words p) hs fits.start fits.end in
    let row = stands-row r (grid_at n m) 4 H (λ t. bytes 4 (p.word t)) (λ t _. length-bytes 4 (p.word t)) hw in
    record {
      length = length;
      version = version;
      threads = threads;
      activities = activities;
      horizon = horizon;
      release = release;
      period = period;
      start = λ a l. rw threads (start a l);
      end = λ a l. rw threads (end a l);
      word = λ t l. rw (threads, activities)
          (stands-field r (grid_at n m + tick_at t) 4 (p.word t) (row t l) (fits.word t l));
    }

pub reads_back : (p : Plan) → Fits p → ReadsBack p
reads_back p fits = reads_from p fits (plan_bytes p) (stands-whole (plan_bytes p))

-- ---- a plan's grid by itself

-- the words of a plan are those of its grid
pub word_behind : (r : List ℕ) (t : ℕ) → word_in (plan_grid r) t ≡ (plan r).word t
unfolding plan
word_behind r t = field-drop (grid_at (field r 5 1) (field r 6 1)) r (tick_at t) 4

-- a word that was read there
pub word_read : (r grid : List ℕ) (t word : ℕ) → grid ≡ plan_grid r → word ≡ word_in grid t → word ≡ (plan r).word t
word_read r grid t word e w = w ∙ ap (λ (g : List ℕ). word_in g t) e ∙ word_behind r t
