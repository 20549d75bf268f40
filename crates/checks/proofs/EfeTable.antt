-- efe and the ticks from which activities can wait, as the table loops make them.
-- Assumes nothing.
use Prim.Native.Nat.{ℕ, zero, suc, ◌+◌, ◌*◌, ◌≤◌, ◌<◌, max, min}
use native.Mathlib.Decide.{dec_lt, ℕ_discrete}
use native.Mathlib.Omega.{arith}
use mathlib.Core.Bool.{Bool, true, false, cond}
use mathlib.Core.List.{List}
use mathlib.Core.Path.{◌≡◌, refl, sym, subst, ap, ap₂, ◌∙◌}
use lib.Dec.{T}
use lib.ListN.{length, get_or, set}
use lib.Seq.{get_or-set_same, get_or-set_other, set_out}
use Rattle.schedule.specs.Bounded.{bit, greatest}
use Rattle.schedule.specs.Fields.{Bytes}
use Rattle.schedule.specs.Model.{Model, model, temporally, by_data, Ordered}
use Rattle.schedule.specs.Plan.{Plan, plan, active}
use Rattle.schedule.specs.Checks.{count_of, efe, efe_from}
use Rattle.laws.proofs.Counting.{count_le}
use Rattle.laws.proofs.Sums.{greatest_ext, greatest_bound}
use Rattle.laws.proofs.EfeLaws.{efe_equation}
use Rattle.laws.proofs.Ranges.{delay_lt, release_lt, horizon_lt}
use Rattle.tables.specs.Columns.{TableOf}
use Rattle.tables.proofs.TableLaws.{Filled}
use Rattle.checks.specs.Tables.{after, waits_from, finish_of}

-- one predecessor's term, and the two that the paper writes
term : (t d : Bool) (x y : ℕ) → cond t (x + y) (cond d x 0) ≡ max (cond t (x + y) 0) (cond d x 0)
term true true x y = omega arith
term true false x y = omega arith
term false d x y = omega arith

split : (n : ℕ) (f g : ℕ → ℕ) → greatest n (λ b. max (f b) (g b)) ≡ max (greatest n f) (greatest n g)
unfolding greatest
split zero f g = refl
split (suc n) f g = omega (arith, split n f g)

-- the latest that predecessors let go is the larger of the temporal ones' and the data ones'
after-parts : (m : Model) (n : ℕ) (done : ℕ → ℕ) (a : ℕ)
    → after m n done a
    ≡ max (greatest n (λ b. cond (temporally m b a) (done b + m.delay b) 0)) (greatest n (λ b. cond (by_data m b a) (done b) 0))
unfolding after
after-parts m n done a =
    greatest_ext n _ _ (λ b _. term (temporally m b a) (by_data m b a) (done b) (m.delay b))
    ∙ split n (λ b. cond (temporally m b a) (done b + m.delay b) 0) (λ b. cond (by_data m b a) (done b) 0)

-- one predecessor's term, as the code reads it
pub term_reads : (temporal on_data b done done' delay delay' free : ℕ) (t d : Bool)
    → free ≡ cond t (min (done + delay) 4294967295) (cond d done 0)
    → t ≡ bit temporal b → d ≡ bit on_data b → done ≡ done' → delay ≡ delay' → done' < 2147483648 → delay' < 65536
    → free ≡ cond (bit temporal b) (done' + delay') (cond (bit on_data b) done' 0)
term_reads temporal on_data b done done' delay delay' free t d e ht hd h k early short =
    let whole : min (done + delay) 4294967295 ≡ done + delay = omega arith in
    e ∙ ap (λ (y : ℕ). cond t y (cond d done 0)) whole
    ∙ ap (λ (x : Bool). cond x (done + delay) (cond d done 0)) ht
    ∙ ap₂ (λ (y : ℕ) (x : Bool). cond (bit temporal b) (done + y) (cond x done 0)) k hd
    ∙ ap (λ (y : ℕ). cond (bit temporal b) (y + delay') (cond (bit on_data b) y 0)) h

-- it depends on the predecessors alone, which have lower numbers
pub after_ext : (m : Model) → Ordered m → (done other : ℕ → ℕ) (a : ℕ) → a < m.activities
    → ((b : ℕ) → b < a → done b ≡ other b) → after m m.activities done a ≡ after m m.activities other a
unfolding after
after_ext m o done other a l h = greatest_ext m.activities _ _ (λ b lb.
    same (temporally m b a) (by_data m b a) (m.delay b) (λ t. h b (o.temporal a b l lb t)) (λ t. h b (o.on_data a b l lb t)))
  where
    same : {b : ℕ} (t d : Bool) (y : ℕ) → (T t → done b ≡ other b) → (T d → done b ≡ other b)
        → cond t (done b + y) (cond d (done b) 0) ≡ cond t (other b + y) (cond d (other b) 0)
    same true d y e f = ap (λ (x : ℕ). x + y) (e tt)
    same false true y e f = f tt
    same false false y e f = refl

-- with delays of two bytes it passes the latest of them by no more
pub after_bound : (m : Model) (n : ℕ) (done : ℕ → ℕ) (a x : ℕ) → ((b : ℕ) → b < n → done b ≤ x)
    → ((b : ℕ) → m.delay b < 65536) → after m n done a ≤ x + 65535
unfolding after
after_bound m n done a x h short =
    greatest_bound n _ (x + 65535) (λ b l. one (temporally m b a) (by_data m b a) (done b) (m.delay b) (h b l) (short b))
  where
    one : (t d : Bool) (y z : ℕ) → y ≤ x → z < 65536 → cond t (y + z) (cond d y 0) ≤ x + 65535
    one true d y z p q = omega arith
    one false true y z p q = omega arith
    one false false y z p q = omega arith

-- efe(a) from when the predecessors could be finished
pub efe-after : (m : Model) (p : Plan) → Ordered m → (a : ℕ) → a < m.activities
    → max (p.release (m.thread a)) (after m m.activities (λ b. efe m p b + count_of m p b) a) ≡ efe m p a
unfolding efe_from
efe-after m p o a l =
    ap (max (p.release (m.thread a))) (after-parts m m.activities (λ b. efe m p b + count_of m p b) a)
    ∙ sym (efe_equation m p o a l)

-- the tick from which a can wait, from its efe and its predecessors' ends
pub from-after : (m : Model) (p : Plan) (a : ℕ)
    → max (efe m p a) (after m m.activities p.end a) ≡ waits_from m p a
unfolding waits_from
from-after m p a = ap (max (efe m p a)) (after-parts m m.activities p.end a)

pub count_lt : (m : Model) (p : Plan) (a : ℕ) → m.horizon < 65536 → count_of m p a < 65536
unfolding count_of
count_lt m p a h = omega (arith, count_le m.horizon (λ t. active p t a))

module _ (m : Model) (p : Plan) (ordered : Ordered m) (short : (b : ℕ) → m.delay b < 65536)
    (soon : (j : ℕ) → p.release j < 65536) (brief : m.horizon < 65536) where
  -- one entry more of the table of when activities could be finished
  pub finish_next : (l : List ℕ) (a e k n : ℕ) → n ≡ m.activities → a < m.activities
      → ((i : ℕ) → i < a → get_or l i 0 ≡ finish_of m p i)
      → e ≡ max (p.release (m.thread a)) (after m n (λ b. get_or l b 0) a) → k ≡ count_of m p a
      → e + k ≡ finish_of m p a
  finish_next l a e k n q la h x y =
      ap₂ ◌+◌ (x ∙ ap (λ (i : ℕ). max (p.release (m.thread a)) (after m i (λ b. get_or l b 0) a)) q
      ∙ ap (max (p.release (m.thread a))) (after_ext m ordered (λ b. get_or l b 0) (finish_of m p) a la h)
      ∙ efe-after m p ordered a la) y

  -- it passes the entries before it by less than 131072
  pub finish_bound : (l : List ℕ) (a e k n x : ℕ) → ((i : ℕ) → get_or l i 0 ≤ x)
      → e ≡ max (p.release (m.thread a)) (after m n (λ b. get_or l b 0) a) → k ≡ count_of m p a
      → e + k < x + 131072
  finish_bound l a e k n x h y z =
      omega (
        arith,
        y,
        z,
        soon (m.thread a),
        count_lt m p a brief,
        after_bound m n (λ b. get_or l b 0) a x (λ b _. h b) short,
      )

-- what a finish is made of has two bytes
pub record Brief (m : Model) (p : Plan) : Type 0 where
  pub delays : (b : ℕ) → m.delay b < 65536
  pub releases : (j : ℕ) → p.release j < 65536
  pub ticks : m.horizon < 65536

pub bytes_brief : (s r : List ℕ) → Bytes s → Bytes r → Brief (model s) (plan r)
bytes_brief s r hs hr = record { delays = delay_lt s hs; releases = release_lt r hr; ticks = horizon_lt s hs }

-- the entry that the loop adds is right, and below the next bound
pub entry_next : (m : Model) (p : Plan) → Ordered m → Brief m p → (counted : List ℕ) → TableOf m counted (count_of m p)
    → (l : List ℕ) (a e k n : ℕ) → n ≡ m.activities → a < n
    → Filled a (finish_of m p) l → ((i : ℕ) → get_or l i 0 ≤ 131072 * a)
    → e ≡ max (p.release (m.thread a)) (after m n (λ b. get_or l b 0) a) → k ≡ get_or counted a 0
    → (e + k ≡ finish_of m p a) × (e + k < 131072 * (a + 1))
entry_next m p o b counted h l a e k n q la f small x y =
    let here : a < m.activities = omega arith in
    let count : k ≡ count_of m p a = y ∙ h a here in (
      finish_next m p o b.delays b.releases b.ticks l a e k n q here f.filled x count,
      omega (arith, finish_bound m p o b.delays b.releases b.ticks l a e k n (131072 * a) small x count),
    )

-- entries below a bound stay so
pub set_bound : (l : List ℕ) (n v x y : ℕ) → ((i : ℕ) → get_or l i 0 ≤ x) → x ≤ y → v ≤ y → (i : ℕ) → get_or (set l n v) i 0 ≤ y
set_bound l n v x y h p q i = elim (ℕ_discrete i n) [
  | yes e ↦ elim (dec_lt n (length l)) [
    | yes room ↦ subst (λ (j : ℕ). get_or (set l n v) j 0 ≤ y) (sym e) (omega (arith, get_or-set_same l n v 0 room))
    | no room ↦ omega (arith, ap (λ (k : List ℕ). get_or k i 0) (set_out l n v (omega arith)), h i)
  ]
  | no e ↦ omega (arith, get_or-set_other l n i v 0 e, h i)
]
