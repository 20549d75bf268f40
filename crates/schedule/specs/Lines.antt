-- The lines that gridcheck, gridrun and gridlate print, as ASCII bytes, and the whole output of each as a function of its
-- input.
-- Assumes nothing.
use Rattle.std.specs.Prelude.{ℕ, zero, suc, ◌+◌, ◌/◌, ◌%◌, true, false, cond, List, [], ◌∷◌, ◌++◌, ltb, ℤ, pos, negsuc, get_or, replicate}
use Rattle.schedule.specs.Bounded.{chain}
use Rattle.schedule.specs.Model.{model}
use Rattle.schedule.specs.Choice.{choice}
use Rattle.schedule.specs.Plan.{Plan}
use Rattle.schedule.specs.Answers.{Answer, accepted, refused, Figures, Written}
use Rattle.schedule.specs.Answers.{plain_verdict, strict_verdict, machine_plan, run_answer}
use Rattle.schedule.specs.Report.{is_dash, rows_needed, report_answer, fills, report_rows}
use Rattle.schedule.specs.Streams.{taken, first_record, second_record}

-- a number's decimal digits, as many as there are up to k, the last the least significant
unfoldable pub digits : ℕ → ℕ → List ℕ
digits zero n = []
digits (suc k) n =
    let more : List ℕ = digits k (n / 10) ++ ((48 + n % 10) ∷ []) in
    cond (ltb n 10) ((48 + n) ∷ []) more

-- a number in decimal, with no leading zero: n has at most n + 1 digits
unfoldable pub decimal : ℕ → List ℕ
decimal n = digits (suc n) n

-- a hexadecimal digit, 0 to 9 or a to f
unfoldable pub hex_digit : ℕ → ℕ
hex_digit d = cond (ltb d 10) (48 + d) (87 + d)

-- a number's last k hexadecimal digits; a word is printed as 8
unfoldable pub hex : ℕ → ℕ → List ℕ
hex zero w = []
hex (suc k) w = hex k (w / 16) ++ (hex_digit (w % 16) ∷ [])

-- three numbers in decimal, single spaces between them, and the end of the line
unfoldable pub three : ℕ → ℕ → ℕ → List ℕ
three a b c = decimal a ++ (32 ∷ decimal b) ++ (32 ∷ decimal c) ++ (10 ∷ [])

-- "then `accepted` and the three figures, or `refused` and number, A, B"
unfoldable pub shown : Answer Figures → List ℕ
shown (accepted f) =
    32 ∷ 97 ∷ 99 ∷ 99 ∷ 101 ∷ 112 ∷ 116 ∷ 101 ∷ 100 ∷ 32 ∷ three f.usage f.capacity f.makespan
shown (refused x) =
    32 ∷ 114 ∷ 101 ∷ 102 ∷ 117 ∷ 115 ∷ 101 ∷ 100 ∷ 32 ∷ three x.number x.A x.B

-- "prints two lines, the first beginning `plain`, the second `strict`"
unfoldable pub check_lines : Answer Figures → Answer Figures → List ℕ
check_lines plain strict =
    (112 ∷ 108 ∷ 97 ∷ 105 ∷ 110 ∷ shown plain) ++ (115 ∷ 116 ∷ 114 ∷ 105 ∷ 99 ∷ 116 ∷ shown strict)

-- "a line for each tick, the tick then the word as 8 lowercase hexadecimal digits"
unfoldable pub tick_line : ℕ → ℕ → List ℕ
tick_line t word = decimal t ++ (32 ∷ hex 8 word) ++ (10 ∷ [])

-- "`run accepted` with the three figures; else only `run refused` with number, A, B": the last line of a run
abbrev pub last_line : Answer Written → List ℕ
last_line (accepted w) = 114 ∷ 117 ∷ 110 ∷ shown (accepted w.figures)
last_line (refused x) = 114 ∷ 117 ∷ 110 ∷ shown (refused x)

-- "prints on success a line for each tick .. then" the last line; "else only" that
unfoldable pub run_lines : Answer Written → Plan → List ℕ
run_lines (accepted w) p = chain p.horizon (λ t. tick_line t (p.word t)) ++ last_line (accepted w)
run_lines (refused x) p = last_line (refused x)

-- a signed number in decimal, with a minus sign where it is negative
unfoldable pub signed : ℤ → List ℕ
signed (pos n) = decimal n
signed (negsuc n) = 45 ∷ decimal (suc n)

-- a row of the report: "printed as a dash" where there is no period
unfoldable pub row_text : ℤ → List ℕ
row_text z = elim (is_dash z) [ true ↦ 45 ∷ [] | false ↦ signed z ]

-- "prints activity and figure by line"
unfoldable pub late_line : ℕ → ℤ → List ℕ
late_line a z = decimal a ++ (32 ∷ row_text z) ++ (10 ∷ [])

-- "A program like `gridrun` prints activity and figure by line, for 43 too, then the last line": the rows of n activities
-- where the report has filled them, else the last line alone
unfoldable pub late_lines : Answer Written → ℕ → List ℤ → List ℕ
late_lines answer n rows = elim (fills answer) [
  | true ↦ chain n (λ a. late_line a (get_or rows a (pos 0))) ++ last_line answer
  | false ↦ last_line answer
]

-- the longest plan's length: gridrun's buffer
abbrev pub run_room : ℕ
run_room = 16553

-- "`gridcheck` (model, plan)": all that it prints, from all that it is given
unfoldable pub gridcheck : List ℕ → List ℕ
gridcheck input =
    let s : List ℕ = first_record (taken input) in
    let r : List ℕ = second_record (taken input) in
    check_lines (plain_verdict s r) (strict_verdict s r)

-- "`gridrun` (model, choice)"
unfoldable pub gridrun : List ℕ → List ℕ
gridrun input =
    let s : List ℕ = first_record (taken input) in
    let q : List ℕ = second_record (taken input) in
    run_lines (run_answer s q run_room) (machine_plan (model s) (choice q))

-- `gridlate` (model, choice): the report on a list of as many rows as are needed
unfoldable pub gridlate : List ℕ → List ℕ
gridlate input =
    let s : List ℕ = first_record (taken input) in
    let q : List ℕ = second_record (taken input) in
    late_lines (report_answer s q rows_needed) (model s).activities (report_rows s q (replicate rows_needed (pos 0)))
