-- The record of one round of a model, of version 1 or 3: how many bytes it has, and that the parts of a model are read back from
-- them, where they fit their fields.
-- Assumes nothing.
use Prim.Native.Nat.{ℕ, ◌+◌, ◌*◌, ◌^◌, ◌<◌}
use native.Mathlib.Omega.{arith}
use mathlib.Core.Bool.{Bool, true, false, ◌||◌, cond}
use mathlib.Core.List.{List, [], ◌++◌}
use mathlib.Core.Logic.Iff
use mathlib.Core.Logic.{◌↔◌}
use mathlib.Core.Path.{◌≡◌, refl, sym, ap, subst}
use lib.Dec.{T, eqb}
use lib.ListN.{length, length-append}
use Rattle.schedule.specs.Bounded.{all, chain}
use Rattle.schedule.specs.Fields.{field, bytes, Bytes}
use Rattle.schedule.specs.Records.{Within}
use Rattle.schedule.specs.Rounds.{no_loop}
use Rattle.schedule.specs.Model.{Model, model_length, thread_row, activity_row, newest_model}
use Rattle.laws.proofs.Counting.{T_true, T_false}
use Rattle.laws.proofs.FieldLaws.{length-bytes, bytes-bytes, length-chain, bytes_append, bytes-chain}
use Rattle.laws.proofs.Parts.{Stands, stands-whole, stands-first, stands-second, stands-field, stands_next, stands-row}
use Rattle.laws.proofs.Tests.{tests}
use Rattle.schedule.specs.ModelBytes.{plain_version, later, thread_bytes, activity_bytes, round_bytes, model_bytes}
use Rattle.demands.specs.Widths.{OfWidthOne}

-- every part of a model fits the bytes that it is written in
pub record Fits (m : Model) : Type 0 where
  pub cores : m.cores < 256
  pub threads : m.threads < 256
  pub activities : m.activities < 256
  pub horizon : m.horizon < 65536
  pub least_period : (j : ℕ) → m.least_period j < 65536
  pub most_period : (j : ℕ) → m.most_period j < 65536
  pub least_release : (j : ℕ) → m.least_release j < 65536
  pub most_release : (j : ℕ) → m.most_release j < 65536
  pub priority : (j : ℕ) → m.priority j < 65536
  pub thread : (a : ℕ) → m.thread a < 256
  pub least_duration : (a : ℕ) → m.least_duration a < 65536
  pub most_duration : (a : ℕ) → m.most_duration a < 65536
  pub delay : (a : ℕ) → m.delay a < 65536
  pub temporal_mask : (a : ℕ) → m.temporal_mask a < 2 ^ 32
  pub data_mask : (a : ℕ) → m.data_mask a < 2 ^ 32
  pub width : (a : ℕ) → m.width a < 256

-- the version, from whether every width is 1
abbrev version_if : Bool → ℕ
version_if plain = cond plain 1 3

-- ---- how many bytes, and that they are bytes

length-thread : (m : Model) (j : ℕ) → length (thread_bytes m j) ≡ 10
length-thread m j = simp (length-append, length-bytes)

length-activity : (plain : Bool) (m : Model) (a : ℕ) → length (activity_bytes (version_if plain) m a) ≡ cond plain 15 17
length-activity true m a = simp (length-append, length-bytes)
length-activity false m a = simp (length-append, length-bytes)

length_round : (plain : Bool) (m : Model)
    → length (round_bytes (version_if plain) m) ≡ model_length (version_if plain) m.threads m.activities
unfolding round_bytes
length_round true m =
    simp (length-append, length-bytes)
    (omega (
      arith,
      length-chain 10 m.threads (thread_bytes m) (λ j _. length-thread m j),
      length-chain 15 m.activities (activity_bytes 1 m) (λ a _. length-activity true m a),
    ))
length_round false m =
    simp (length-append, length-bytes)
    (omega (
      arith,
      length-chain 10 m.threads (thread_bytes m) (λ j _. length-thread m j),
      length-chain 17 m.activities (activity_bytes 3 m) (λ a _. length-activity false m a),
    ))

bytes-field : (k v : ℕ) (c : List ℕ) → Bytes c → Bytes (bytes k v ++ c)
bytes-field k v c h = bytes_append (bytes k v) c (bytes-bytes k v) h

bytes-thread : (m : Model) (j : ℕ) → Bytes (thread_bytes m j)
bytes-thread m j =
    bytes-field 2 _ _ (bytes-field 2 _ _ (bytes-field 2 _ _ (bytes-field 2 _ _ (bytes-bytes 2 (m.priority j)))))

bytes-later : (version : ℕ) (more : List ℕ) → Bytes more → Bytes (later version more)
bytes-later version more h = one (eqb version 1)
  where
    one : (t : Bool) → Bytes (cond t [] more)
    one true = λ i l. absurd (omega arith)
    one false = h

bytes-activity : (version : ℕ) (m : Model) (a : ℕ) → Bytes (activity_bytes version m a)
bytes-activity version m a =
    bytes-field 1 _ _ (bytes-field 2 _ _ (bytes-field 2 _ _ (bytes-field 2 _ _ (bytes-field 4 _ _ (bytes-field 4 _ _
    (bytes-later version _ (bytes-field 1 no_loop _ (bytes-bytes 1 (m.width a)))))))))

pub bytes-model_bytes : (m : Model) → Bytes (model_bytes m)
unfolding model_bytes round_bytes
bytes-model_bytes m =
    let version : ℕ = plain_version m in
    bytes-field 4 _ _ (bytes-field 1 _ _ (bytes-field 1 _ _ (bytes-field 1 _ _ (bytes-field 1 _ _ (bytes-field 2 _ _
    (bytes_append (later version (bytes 1 1)) _ (bytes-later version (bytes 1 1) (bytes-bytes 1 1))
    (bytes_append (chain m.threads (thread_bytes m)) (chain m.activities (activity_bytes version m))
    (bytes-chain m.threads (thread_bytes m) (λ j _. bytes-thread m j))
    (bytes-chain m.activities (activity_bytes version m) (λ a _. bytes-activity version m a)))))))))

-- ---- the fields are read back

-- a field that stands at a position, and what stands behind it
next : (u : List ℕ) (at k v : ℕ) (c : List ℕ) (behind : ℕ) → at + k ≡ behind → Stands u at (bytes k v ++ c) → v < 256 ^ k
    → (field u at k ≡ v) × Stands u behind c
next u at k v c behind e h small =
    let (read, rest) = stands_next u at k v c h small in
    (read, subst (λ (x : ℕ). Stands u x c) e rest)

-- the fields of a row that stands at a position
pub record ThreadAt (m : Model) (u : List ℕ) (at j : ℕ) : Type 0 where
  pub least_period : field u at 2 ≡ m.least_period j
  pub most_period : field u (at + 2) 2 ≡ m.most_period j
  pub least_release : field u (at + 4) 2 ≡ m.least_release j
  pub most_release : field u (at + 6) 2 ≡ m.most_release j
  pub priority : field u (at + 8) 2 ≡ m.priority j

thread_at : (m : Model) → Fits m → (u : List ℕ) (at j : ℕ) → Stands u at (thread_bytes m j) → ThreadAt m u at j
thread_at m fits u at j h =
    let (a, h₂) = next u at 2 (m.least_period j) _ (at + 2) refl h (fits.least_period j) in
    let (b, h₄) = next u (at + 2) 2 (m.most_period j) _ (at + 4) (omega arith) h₂ (fits.most_period j) in
    let (c, h₆) = next u (at + 4) 2 (m.least_release j) _ (at + 6) (omega arith) h₄ (fits.least_release j) in
    let (d, h₈) = next u (at + 6) 2 (m.most_release j) _ (at + 8) (omega arith) h₆ (fits.most_release j) in
    record {
      least_period = a;
      most_period = b;
      least_release = c;
      most_release = d;
      priority = stands-field u (at + 8) 2 (m.priority j) h₈ (fits.priority j);
    }

pub record ActivityAt (version : ℕ) (m : Model) (u : List ℕ) (at a : ℕ) : Type 0 where
  pub thread : field u at 1 ≡ m.thread a
  pub least_duration : field u (at + 1) 2 ≡ m.least_duration a
  pub most_duration : field u (at + 3) 2 ≡ m.most_duration a
  pub delay : field u (at + 5) 2 ≡ m.delay a
  pub temporal_mask : field u (at + 7) 4 ≡ m.temporal_mask a
  pub data_mask : field u (at + 11) 4 ≡ m.data_mask a
  pub loop : cond (eqb version 1) no_loop (field u (at + 15) 1) ≡ no_loop
  pub width : cond (eqb version 1 || eqb version 2) 1 (field u (at + 16) 1) ≡ m.width a

activity_at : (plain : Bool) (m : Model) → Fits m → (u : List ℕ) (at a : ℕ) → (T plain → m.width a ≡ 1)
    → Stands u at (activity_bytes (version_if plain) m a) → ActivityAt (version_if plain) m u at a
activity_at plain m fits u at a one h =
    let (b, h₁) = next u at 1 (m.thread a) _ (at + 1) refl h (fits.thread a) in
    let (c, h₃) = next u (at + 1) 2 (m.least_duration a) _ (at + 3) (omega arith) h₁ (fits.least_duration a) in
    let (d, h₅) = next u (at + 3) 2 (m.most_duration a) _ (at + 5) (omega arith) h₃ (fits.most_duration a) in
    let (e, h₇) = next u (at + 5) 2 (m.delay a) _ (at + 7) (omega arith) h₅ (fits.delay a) in
    let (f, h₁₁) = next u (at + 7) 4 (m.temporal_mask a) _ (at + 11) (omega arith) h₇ (fits.temporal_mask a) in
    let (g, h₁₅) = next u (at + 11) 4 (m.data_mask a) _ (at + 15) (omega arith) h₁₁ (fits.data_mask a) in
    let (loop, width) = last plain one h₁₅ in
    record {
      thread = b;
      least_duration = c;
      most_duration = d;
      delay = e;
      temporal_mask = f;
      data_mask = g;
      loop = loop;
      width = width;
    }
  where
    last : (plain : Bool) → (T plain → m.width a ≡ 1)
        → Stands u (at + 15) (later (version_if plain) (bytes 1 no_loop ++ bytes 1 (m.width a)))
        → (cond (eqb (version_if plain) 1) no_loop (field u (at + 15) 1) ≡ no_loop)
        × (cond (eqb (version_if plain) 1 || eqb (version_if plain) 2) 1 (field u (at + 16) 1) ≡ m.width a)
    last true one h = (refl, sym (one tt))
    last false one h =
        let (loop, h₁₆) = next u (at + 15) 1 no_loop (bytes 1 (m.width a)) (at + 16) (omega arith) h (omega arith) in
        (loop, stands-field u (at + 16) 1 (m.width a) h₁₆ (fits.width a))

-- the record, read as a page: one round of the model
pub record ReadsBack (v : ℕ) (m : Model) (u : List ℕ) : Type 0 where
  pub length : field u 0 4 ≡ model_length v m.threads m.activities
  pub version : field u 4 1 ≡ v
  pub cores : field u 5 1 ≡ m.cores
  pub threads : field u 6 1 ≡ m.threads
  pub activities : field u 7 1 ≡ m.activities
  pub horizon : field u 8 2 ≡ m.horizon
  pub rounds : cond (eqb v 1) 1 (field u 10 1) ≡ 1
  pub thread : (j : ℕ) → j < m.threads → ThreadAt m u (thread_row v j) j
  pub activity : (a : ℕ) → a < m.activities → ActivityAt v m u (activity_row v m.threads a) a

-- its version and its length fit their fields, and its rows stand where the rows of its version do
version_lt : (plain : Bool) → version_if plain < 256
version_lt true = omega arith
version_lt false = omega arith

length_lt : (plain : Bool) (n m : ℕ) → n < 256 → m < 256 → model_length (version_if plain) n m < 256 ^ 4
length_lt true n m few less = omega arith
length_lt false n m few less = omega arith

thread-row : (plain : Bool) (j : ℕ) → cond plain 10 11 + 10 * j ≡ thread_row (version_if plain) j
thread-row true j = refl
thread-row false j = refl

activity-row : (plain : Bool) (n a : ℕ)
    → cond plain 10 11 + 10 * n + cond plain 15 17 * a ≡ activity_row (version_if plain) n a
activity-row true n a = refl
activity-row false n a = refl

-- the byte of the rounds, where there is one, and what stands behind it
round_at : (plain : Bool) (u c : List ℕ) → Stands u 10 (later (version_if plain) (bytes 1 1) ++ c)
    → (cond (eqb (version_if plain) 1) 1 (field u 10 1) ≡ 1) × Stands u (cond plain 10 11) c
round_at true u c h = (refl, h)
round_at false u c h = stands_next u 10 1 1 c h (omega arith)

reads_round : (plain : Bool) (m : Model) → Fits m → (T plain → OfWidthOne m)
    → ReadsBack (version_if plain) m (round_bytes (version_if plain) m)
unfolding round_bytes
reads_round plain m fits one =
    let v : ℕ = version_if plain in
    let u : List ℕ = round_bytes v m in
    let n : ℕ = m.threads in
    let k : ℕ = m.activities in
    let (length, h₄) = stands_next u 0 4 (model_length v n k) _ (stands-whole u)
    (length_lt plain n k fits.threads fits.activities) in
    let (version, h₅) = stands_next u 4 1 v _ h₄ (version_lt plain) in
    let (cores, h₆) = stands_next u 5 1 m.cores _ h₅ fits.cores in
    let (threads, h₇) = stands_next u 6 1 n _ h₆ fits.threads in
    let (activities, h₈) = stands_next u 7 1 k _ h₇ fits.activities in
    let (horizon, h₁₀) = stands_next u 8 2 m.horizon _ h₈ fits.horizon in
    let rows = chain n (thread_bytes m) in
    let others = chain k (activity_bytes v m) in
    let (rounds, h₁₁) = round_at plain u (rows ++ others) h₁₀ in
    let from : ℕ = cond plain 10 11 in
    let row = stands-row u from 10 n (thread_bytes m) (λ j _. length-thread m j) (stands-first u from rows others h₁₁) in
    let behind = stands-second u from rows others h₁₁ (10 * n) (length-chain 10 n (thread_bytes m) (λ j _. length-thread m j)) in
    let activity = stands-row u (from + 10 * n) (cond plain 15 17) k (activity_bytes v m) (λ a _. length-activity plain m a) behind in
    record {
      length = length;
      version = version;
      cores = cores;
      threads = threads;
      activities = activities;
      horizon = horizon;
      rounds = rounds;
      thread = λ j l. subst (λ (at : ℕ). ThreadAt m u at j) (thread-row plain j) (thread_at m fits u (from + 10 * j) j (row j l));
      activity = λ a l.
          subst (λ (at : ℕ). ActivityAt v m u at a) (activity-row plain n a)
          (activity_at plain m fits u (from + 10 * n + cond plain 15 17 * a) a (λ t. one t a l) (activity a l));
    }

-- ---- in the version of the model's widths

-- whether every width is 1
abbrev plain_widths : Model → Bool
plain_widths m = all m.activities (λ a. eqb (m.width a) 1)

widths_say : (m : Model) → T (plain_widths m) ↔ OfWidthOne m
widths_say m = simp tests Iff.rfl

pub version_one : (m : Model) → OfWidthOne m → plain_version m ≡ 1
unfolding plain_version
version_one m one = ap version_if (T_true (plain_widths m) ((widths_say m).1 one))

pub version-three : (m : Model) (a : ℕ) → a < m.activities → ¬ (m.width a ≡ 1) → plain_version m ≡ 3
unfolding plain_version
version-three m a l wide = ap version_if (T_false (plain_widths m) (λ t. wide ((widths_say m).0 t a l)))

pub version_known : (m : Model) → Within 1 newest_model (plain_version m)
unfolding plain_version
version_known m = one (plain_widths m)
  where
    one : (plain : Bool) → Within 1 newest_model (version_if plain)
    one true = omega arith
    one false = omega arith

pub length-model_bytes : (m : Model) → length (model_bytes m) ≡ model_length (plain_version m) m.threads m.activities
unfolding model_bytes plain_version
length-model_bytes m = length_round (plain_widths m) m

pub reads_back : (m : Model) → Fits m → ReadsBack (plain_version m) m (model_bytes m)
unfolding model_bytes plain_version
reads_back m fits = reads_round (plain_widths m) m fits (λ t. (widths_say m).0 t)
