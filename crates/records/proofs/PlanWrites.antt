-- A plan's bytes are those that are written from its parts; and with one word or one row in the place of another they are those of
-- the plan that has it.
-- Assumes nothing.
use Prim.Native.Nat.{ℕ, zero, suc, ◌+◌, ◌*◌, ◌^◌, ◌≤◌, ◌<◌}
use native.Mathlib.Nat.{add-zero, add_assoc, mul-suc, mul-le-mul_left}
use native.Mathlib.Omega.{arith}
use mathlib.Core.Bool.{Bool, true, false, cond}
use mathlib.Core.List.{List, ◌++◌, append_assoc, append-nil}
use mathlib.Core.Logic.{⊎_elim}
use mathlib.Core.Path.{◌≡◌, refl, sym, ap, ap₂, ◌∙◌}
use lib.Dec.{eqb}
use lib.ListN.{length, take, drop, length-append, drop_of_length-le}
use lib.Seq.{take-append-le, drop-append-le, take-append_seam, drop-append_seam}
use borrow.Author.Tests.{eq-eqb, ne_eqb}
use Rattle.schedule.specs.Bounded.{chain}
use Rattle.schedule.specs.Fields.{field, bytes, pair, Bytes}
use Rattle.schedule.specs.Rule.{AllHold}
use Rattle.schedule.specs.Model.{Model}
use Rattle.schedule.specs.Plan.{Plan, plan, plan_form, plan_bytes, plan_thread_row, plan_activity_row, grid_at, tick_at, pair_rows}
use Rattle.laws.proofs.Tests.{below_suc}
use Rattle.laws.proofs.FieldLaws.{field_lt, length-bytes, length-chain, chain_ext}
use Rattle.laws.proofs.PlanBytes.{Fits, ReadsBack, reads_back, bytes-plan_bytes, length-pair, length_pairs}
use Rattle.laws.proofs.PlanForm.{WellFormed, form-says, parts_determine, written-form}
use Rattle.fields.specs.Put.{put}
use Rattle.fields.proofs.PutLaws.{put-fits, put_front, put_part}
use Rattle.records.specs.Writes.{head_bytes}
use Rattle.records.proofs.WriteLaws.{length-head}

-- ---- a plan's bytes

-- the parts of a plan that was read fit the bytes that they are written in
pub plan-fits : (r : List ℕ) → Bytes r → Fits (plan r)
unfolding plan
plan-fits r b =
    let n : field r 5 1 < 256 = field_lt r b 5 1 in
    let m : field r 6 1 < 256 = field_lt r b 6 1 in
    let H : field r 7 2 < 65536 = field_lt r b 7 2 in
    record {
      threads = n;
      activities = m;
      horizon = H;
      length = omega arith;
      release = λ j _. field_lt r b _ 2;
      period = λ j _. field_lt r b _ 2;
      start = λ a _. field_lt r b _ 2;
      end = λ a _. field_lt r b _ 2;
      word = λ t _. field_lt r b _ 4;
    }

-- bytes that are well-formed beside some model are those written from what they say
pub plan-whole : (m : Model) (r : List ℕ) → Bytes r → AllHold (plan_form m r) → r ≡ plan_bytes (plan r)
plan-whole m r b h =
    let w : WellFormed m r = form-says m r h in
    let back : ReadsBack (plan r) = reads_back (plan r) (plan-fits r b) in
    parts_determine m r (plan_bytes (plan r)) b (bytes-plan_bytes (plan r)) h
    (written-form m (plan r) (plan-fits r b) w.threads w.activities w.horizon w.in_range w.words-within)
    (record {
      release = λ j l. sym (back.release j (rw w.threads l));
      period = λ j l. sym (back.period j (rw w.threads l));
      start = λ a l. sym (back.start a (rw w.activities l));
      end = λ a l. sym (back.end a (rw w.activities l));
      word = λ t l. sym (back.word t (rw w.horizon l));
    })

-- ---- one piece of a list

-- put into the first of two parts, and into the second
put-before : (i : ℕ) (b l m : List ℕ) → i + length b ≤ length l → put i b (l ++ m) ≡ put i b l ++ m
put-before i b l m h =
    put-fits i b (l ++ m) (omega (arith, length-append l m))
    ∙ ap₂ (λ (x y : List ℕ). x ++ b ++ y) (take-append-le i l m (omega arith)) (drop-append-le (i + length b) l m h)
    ∙ sym (append_assoc (take i l ++ b) (drop (i + length b) l) m)
    ∙ ap (λ (x : List ℕ). x ++ m) (sym (put-fits i b l h))

put_behind : (at i : ℕ) (b l m : List ℕ) → length l ≡ at → put (at + i) b (l ++ m) ≡ l ++ put i b m
put_behind at i b l m e =
    rw (← e)
    (sym (put_part (length l) i b (l ++ m) (omega (arith, length-append l m)))
    ∙ ap₂ (λ (x y : List ℕ). x ++ put i b y) (take-append_seam l m) (drop-append_seam l m))

-- put in the place of a whole list
put_whole : (b l : List ℕ) → length b ≡ length l → put 0 b l ≡ b
put_whole b l e =
    put_front b l (omega arith)
    ∙ ap (λ (x : List ℕ). b ++ x) (drop_of_length-le l {i = length b} (omega arith))
    ∙ append-nil b

-- put in the place of row k of rows of w bytes
put-row : (w n : ℕ) (f : ℕ → List ℕ) → ((j : ℕ) → j < n → length (f j) ≡ w) → (k : ℕ) (b : List ℕ) → k < n → length b ≡ w
    → put (w * k) b (chain n f) ≡ chain n (λ j. cond (eqb j k) b (f j))
unfolding chain
put-row w zero f h k b l e = absurd (omega arith)
put-row w (suc n) f h k b l e =
    ⊎_elim (lower (λ i. put-row w n f (λ j l. h j (omega arith)) k b i e)) last (below_suc k n l)
  where
    full : length (chain n f) ≡ w * n
    full = length-chain w n f (λ j l. h j (omega arith))

    lower : (k < n → put (w * k) b (chain n f) ≡ chain n (λ j. cond (eqb j k) b (f j))) → k < n
        → put (w * k) b (chain n f ++ f n) ≡ chain n (λ j. cond (eqb j k) b (f j)) ++ cond (eqb n k) b (f n)
    lower before i =
        put-before (w * k) b (chain n f) (f n) (omega (arith, full, mul-suc w k, mul-le-mul_left w i))
        ∙ ap₂ ◌++◌ (before i) (ap (λ (t : Bool). cond t b (f n)) (sym (ne_eqb n k (omega arith))))

    last : k ≡ n → put (w * k) b (chain n f ++ f n) ≡ chain n (λ j. cond (eqb j k) b (f j)) ++ cond (eqb n k) b (f n)
    last same =
        ap (λ (i : ℕ). put i b (chain n f ++ f n)) (ap (λ (i : ℕ). w * i) same ∙ sym (add-zero (w * n)))
        ∙ put_behind (w * n) 0 b (chain n f) (f n) full
        ∙ ap₂ ◌++◌
        (chain_ext n f (λ j. cond (eqb j k) b (f j)) (λ j i. ap (λ (t : Bool). cond t b (f j)) (sym (ne_eqb j k (omega arith)))))
        (put_whole b (f n) (e ∙ sym (h n (omega arith))) ∙ ap (λ (t : Bool). cond t b (f n)) (sym (eq-eqb n k (sym same))))

-- ---- one row, and one word

-- a plan with another start and end of an activity, and with another word at a tick
abbrev pub with_row : Plan → ℕ → ℕ → ℕ → Plan
with_row p a start end = record {
  threads = p.threads;
  activities = p.activities;
  horizon = p.horizon;
  release = p.release;
  period = p.period;
  start = λ j. cond (eqb j a) start (p.start j);
  end = λ j. cond (eqb j a) end (p.end j);
  word = p.word;
}

abbrev pub with_word : Plan → ℕ → ℕ → Plan
with_word p t word = record {
  threads = p.threads;
  activities = p.activities;
  horizon = p.horizon;
  release = p.release;
  period = p.period;
  start = p.start;
  end = p.end;
  word = λ u. cond (eqb u t) word (p.word u);
}

-- their parts fit where the new ones do
one_of : (t : Bool) (k x y : ℕ) → x < k → y < k → cond t x y < k
one_of true k x y h _ = h
one_of false k x y _ h = h

pub row_fits : (p : Plan) (a start end : ℕ) → Fits p → start < 65536 → end < 65536 → Fits (with_row p a start end)
row_fits p a start end fits small small' = record {
  threads = fits.threads;
  activities = fits.activities;
  horizon = fits.horizon;
  length = fits.length;
  release = fits.release;
  period = fits.period;
  start = λ j l. one_of (eqb j a) 65536 start (p.start j) small (fits.start j l);
  end = λ j l. one_of (eqb j a) 65536 end (p.end j) small' (fits.end j l);
  word = fits.word;
}

pub word_fits : (p : Plan) (t word : ℕ) → Fits p → word < 256 ^ 4 → Fits (with_word p t word)
word_fits p t word fits small = record {
  threads = fits.threads;
  activities = fits.activities;
  horizon = fits.horizon;
  length = fits.length;
  release = fits.release;
  period = fits.period;
  start = fits.start;
  end = fits.end;
  word = λ u l. one_of (eqb u t) (256 ^ 4) word (p.word u) small (fits.word u l);
}

-- the bytes in front of the activity rows, those rows, and the words
front : Plan → List ℕ
front p = head_bytes p.threads p.activities p.horizon ++ pair_rows p.threads p.release p.period

abbrev spans : Plan → List ℕ
spans p = pair_rows p.activities p.start p.end

abbrev words : Plan → List ℕ
words p = chain p.horizon (λ t. bytes 4 (p.word t))

in_three : (p : Plan) → plan_bytes p ≡ front p ++ (spans p ++ words p)
unfolding plan_bytes head_bytes front
in_three p = simp append_assoc

length_front : (p : Plan) → length (front p) ≡ plan_thread_row p.threads
unfolding front
length_front p =
    omega (
      arith,
      length-append (head_bytes p.threads p.activities p.horizon) (pair_rows p.threads p.release p.period),
      length-head p.threads p.activities p.horizon,
      length_pairs p.threads p.release p.period,
    )

-- a choice between two rows is a row of choices
pair-cond : (t : Bool) (x y u v : ℕ) → cond t (pair x y) (pair u v) ≡ pair (cond t x u) (cond t y v)
pair-cond true x y u v = refl
pair-cond false x y u v = refl

bytes-cond : (t : Bool) (k x u : ℕ) → cond t (bytes k x) (bytes k u) ≡ bytes k (cond t x u)
bytes-cond true k x u = refl
bytes-cond false k x u = refl

pub row_put : (p : Plan) (a start end : ℕ) → a < p.activities
    → put (plan_activity_row p.threads a) (pair start end) (plan_bytes p) ≡ plan_bytes (with_row p a start end)
unfolding front
row_put p a start end l =
    ap (put (plan_activity_row p.threads a) (pair start end)) (in_three p)
    ∙ put_behind (plan_thread_row p.threads) (4 * a) (pair start end) (front p) (spans p ++ words p) (length_front p)
    ∙ ap (λ (x : List ℕ). front p ++ x)
    (put-before (4 * a) (pair start end) (spans p) (words p)
    (omega (arith, length-pair start end, length_pairs p.activities p.start p.end))
    ∙ ap (λ (x : List ℕ). x ++ words p)
    (put-row 4 p.activities (λ j. pair (p.start j) (p.end j)) (λ j _. length-pair (p.start j) (p.end j)) a
    (pair start end) l (length-pair start end)
    ∙ chain_ext p.activities _ _ (λ j _. pair-cond (eqb j a) start end (p.start j) (p.end j))))
    ∙ sym (in_three (with_row p a start end))

pub word-put : (p : Plan) (t word : ℕ) → t < p.horizon
    → put (grid_at p.threads p.activities + tick_at t) (bytes 4 word) (plan_bytes p) ≡ plan_bytes (with_word p t word)
unfolding front
word-put p t word l =
    ap₂ (λ (i : ℕ) (x : List ℕ). put i (bytes 4 word) x) (add_assoc (plan_thread_row p.threads) (4 * p.activities) (tick_at t))
    (in_three p)
    ∙ put_behind (plan_thread_row p.threads) (4 * p.activities + tick_at t) (bytes 4 word) (front p) (spans p ++ words p)
    (length_front p)
    ∙ ap (λ (x : List ℕ). front p ++ x)
    (put_behind (4 * p.activities) (tick_at t) (bytes 4 word) (spans p) (words p)
    (length_pairs p.activities p.start p.end)
    ∙ ap (λ (x : List ℕ). spans p ++ x)
    (put-row 4 p.horizon (λ u. bytes 4 (p.word u)) (λ u _. length-bytes 4 (p.word u)) t (bytes 4 word) l
    (length-bytes 4 word)
    ∙ chain_ext p.horizon _ _ (λ u _. bytes-cond (eqb u t) 4 word (p.word u))))
    ∙ sym (in_three (with_word p t word))
