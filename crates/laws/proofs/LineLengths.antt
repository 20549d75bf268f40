-- How long the printed lines are: a number has as many digits as its size says, and a line is as long as its parts.
-- Assumes nothing.
use Prim.Native.Nat.{ℕ, zero, suc, ◌+◌, ◌*◌, ◌/◌, ◌%◌, ◌^◌, ◌≤◌, ◌<◌}
use native.Mathlib.Decide.{dec_lt}
use native.Mathlib.Nat.{pow-zero, pow-suc}
use native.Mathlib.Omega.{arith}
use mathlib.Core.List.{[], ◌∷◌}
use mathlib.Core.Path.{◌≡◌, refl}
use lib.IntN.{ℤ, pos, negsuc}
use lib.ListN.{length, length-append}
use borrow.Author.Tests.{ne_eqb}
use Rattle.schedule.specs.Bounded.{chain}
use Rattle.schedule.specs.Rule.{Refusal}
use Rattle.schedule.specs.Model.{Model}
use Rattle.schedule.specs.Choice.{Choice}
use Rattle.schedule.specs.Answers.{Answer, accepted, refused, Figures}
use Rattle.schedule.specs.Report.{dash, report_row}
use Rattle.schedule.specs.Lines.{decimal, hex, three, shown, check_lines, tick_line, signed, row_text, late_line}
use Rattle.laws.proofs.LatenessLaws.{row-holds}
use Rattle.laws.proofs.LinesLaws.{decimal-small, decimal_large}

-- ---- numbers

pub length-hex : (k w : ℕ) → length (hex k w) ≡ k
unfolding hex
length-hex zero w = refl
length-hex (suc k) w = simp length-append (omega (arith, length-hex k (w / 16)))

pub length-small : (n : ℕ) → n < 10 → length (decimal n) ≡ 1
length-small n h = rw (decimal-small n h)

pub length_large : (n : ℕ) → 10 ≤ n → length (decimal n) ≡ length (decimal (n / 10)) + 1
length_large n h = rw (decimal_large n h) (length-append (decimal (n / 10)) ((48 + n % 10) ∷ []))

pub length_positive : (n : ℕ) → 1 ≤ length (decimal n)
length_positive n =
    elim (dec_lt n 10) [
      | yes s ↦ omega (arith, length-small n s)
      | no s ↦ omega (arith, length_large n (omega arith))
    ]

-- a number below 10 to the power k + 1 has at most k + 1 digits
pub length_most : (k n : ℕ) → n < 10 ^ (suc k) → length (decimal n) ≤ suc k
length_most zero n h = omega (arith, length-small n (omega (arith, pow-suc 10 0, pow-zero 10)))
length_most (suc k) n h =
    elim (dec_lt n 10) [
      | yes s ↦ omega (arith, length-small n s)
      | no s ↦
          let b : n < 10 ^ (suc k) * 10 = rw pow-suc at h in
          omega (arith, length_large n (omega arith), length_most k (n / 10) (omega arith))
    ]

pub length_three : (a b c : ℕ)
    → length (three a b c) ≡ length (decimal a) + length (decimal b) + length (decimal c) + 3
unfolding three
length_three a b c = simp length-append (omega arith)

-- ---- lines

pub length-tick : (t w : ℕ) → length (tick_line t w) ≡ length (decimal t) + 10
unfolding tick_line
length-tick t w = simp (length-append, length-hex) (omega arith)

-- the lines of at most ten thousand ticks have at most 14 bytes each
pub length-ticks : (h : ℕ) (word : ℕ → ℕ) → h ≤ 10000 → length (chain h (λ t. tick_line t (word t))) ≤ 14 * h
unfolding chain
length-ticks zero word l = omega arith
length-ticks (suc h) word l =
    simp length-append
    (omega (
      arith,
      length-ticks h word (omega arith),
      length-tick h (word h),
      length_most 3 h (omega arith),
    ))

-- ---- the report's lines

length-late : (a : ℕ) (z : ℤ) → length (late_line a z) ≡ length (decimal a) + length (row_text z) + 2
unfolding late_line
length-late a z = simp length-append (omega arith)

-- those of at most a hundred activities have at most 4 bytes each beside the rows
pub late_most : (n k : ℕ) (row : ℕ → ℤ) → n ≤ 100 → ((a : ℕ) → a < n → length (row_text (row a)) ≤ k)
    → length (chain n (λ a. late_line a (row a))) ≤ (4 + k) * n
unfolding chain
late_most zero k row l h = omega arith
late_most (suc n) k row l h =
    simp length-append
    (omega (
      arith,
      late_most n k row (omega arith) (λ a j. h a (omega arith)),
      length-late n (row n),
      length_most 1 n (omega arith),
      h n (omega arith),
    ))

kept_most : (n : ℕ) → n < 1000000 → length (row_text (pos n)) ≤ 6
unfolding row_text signed
kept_most n h = length_most 5 n h

overdue_most : (n : ℕ) → n < 99999 → length (row_text (negsuc n)) ≤ 6
unfolding row_text signed
overdue_most n h =
    rw (ne_eqb n 2147483647 (λ (e : n ≡ 2147483647). omega arith), row_text) (omega (arith, length_most 4 (suc n) (omega arith)))

dash_most : length (row_text dash) ≤ 6
unfolding row_text
dash_most = omega arith

-- a row has at most 6 bytes, where H is at most 4096 and releases and periods have two bytes
pub row_most : (m : Model) (q : Choice) (a : ℕ) → a < m.activities → m.horizon ≤ 4096
    → ((j : ℕ) → q.release j < 65536) → ((j : ℕ) → q.period j < 65536) → length (row_text (report_row m q a)) ≤ 6
row_most m q a l short releases periods =
    row-holds m q a l (λ z. length (row_text z) ≤ 6) 131072 (λ j. omega (arith, releases j, periods j)) dash_most
    (λ n h. overdue_most n (omega arith)) (λ n h. kept_most n (omega arith))

-- ---- verdicts

-- a number of at most 10 digits
abbrev pub Short : ℕ → Type 0
Short n = n < 10 ^ 10

-- what a verdict says is short: the three figures, or number, A and B
abbrev pub ShortFigures : Figures → Type 0
ShortFigures f = Short f.usage × (Short f.capacity × Short f.makespan)

abbrev pub ShortRefusal : Refusal → Type 0
ShortRefusal x = Short x.number × (Short x.A × Short x.B)

abbrev pub ShortAnswer : Answer Figures → Type 0
ShortAnswer (accepted f) = ShortFigures f
ShortAnswer (refused x) = ShortRefusal x

-- three short numbers, each with the byte that ends it
three_most : (a b c : ℕ) → Short a → Short b → Short c → length (three a b c) ≤ 33
three_most a b c x y z =
    omega (arith, length_three a b c, length_most 9 a x, length_most 9 b y, length_most 9 c z)

pub shown_most : (v : Answer Figures) → ShortAnswer v → length (shown v) ≤ 43
unfolding shown
shown_most (accepted f) h =
    omega (arith, three_most f.usage f.capacity f.makespan h.0 h.1.0 h.1.1)
shown_most (refused x) h = omega (arith, three_most x.number x.A x.B h.0 h.1.0 h.1.1)

pub check_most : (plain strict : Answer Figures) → ShortAnswer plain → ShortAnswer strict
    → length (check_lines plain strict) ≤ 97
unfolding check_lines
check_most plain strict h k =
    simp length-append (omega (arith, shown_most plain h, shown_most strict k))
