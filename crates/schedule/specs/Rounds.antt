-- What moving a plain model on to round k does to its numbers, releases and masks: "It means the plain model unrolled" (U4 of
-- 02). A result keeps the size of its field, 1, 2 or 4 bytes, of any arguments whatever: what is moved past the field's last
-- bit is cut off. On a page that meets its form rules nothing is (crate demands, Rounds: PagesUnroll).
-- Assumes nothing.
use Rattle.std.specs.Prelude.{ℕ, ◌+◌, ◌-◌, ◌*◌, ◌%◌, ◌^◌, ◌||◌, cond, eqb, ltb}
use Rattle.schedule.specs.Bounded.{with_bit}

-- the loop byte of an activity that has none
abbrev pub no_loop : ℕ
no_loop = 255

-- how many threads, or activities, all rounds have together
abbrev pub in_all : ℕ → ℕ → ℕ
in_all i n = i * n % 256

-- "thread j of round k is thread k times n + j"
abbrev pub number_in : ℕ → ℕ → ℕ → ℕ
number_in k n j = (k * n + j) % 256

-- a release "moved on by k times the period (by 0 without one)"
abbrev pub moved_release : ℕ → ℕ → ℕ → ℕ
moved_release k period release = (release + k * period) % 65536

-- "Masks move likewise": bit b of a mask becomes bit k times m + b
abbrev pub moved_mask : ℕ → ℕ → ℕ → ℕ
moved_mask k m mask = mask * 2 ^ (k * m) % 2 ^ 32

-- "With loop byte q, activity q of round k is a temporal predecessor of a in round k + 1": the mask of round k with that bit
abbrev pub with_loop : ℕ → ℕ → ℕ → ℕ → ℕ
with_loop k m q mask = cond (eqb k 0 || eqb q no_loop) mask (with_bit mask ((k - 1) * m + q))

-- a field of the rows below a bound; there is no row from there on, and it counts as 0
abbrev pub below : ℕ → (ℕ → ℕ) → ℕ → ℕ
below bound f j = cond (ltb j bound) (f j) 0
