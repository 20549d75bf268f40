-- The parts that the lines of specs/Lines.antt are made of, in the order in which they are written, and their lengths.
-- Assumes nothing.
use Prim.Native.Nat.{ℕ, zero, suc, ◌+◌, ◌≤◌, ◌<◌}
use native.Mathlib.Numerals.{add-one}
use native.Mathlib.Omega.{arith}
use mathlib.Core.List.{List, [], ◌∷◌, ◌++◌, append_assoc}
use mathlib.Core.Path.{◌≡◌, refl, ap, ◌∙◌}
use lib.ListN.{length, length-append}
use Rattle.schedule.specs.Answers
use Rattle.schedule.specs.Answers.{Answer, accepted, refused}
use Rattle.schedule.specs.Bounded.{chain, total}
use Rattle.schedule.specs.Plan.{plan}
use Rattle.schedule.specs.Lines.{decimal, hex, three, shown, check_lines, tick_line, run_lines}
use Rattle.laws.proofs.Tests.{up_to}
use Rattle.laws.proofs.LineLengths.{length-tick}
use Rattle.text.specs.declared.Said.{Said}
use Rattle.text.specs.Said.{verdict_said, run_said, plain_name, strict_name, run_name, verdict_word, line}
use Rattle.text.specs.Appended.{number, ticks_of, word_of, tick_text, tick_length}

-- ---- numbers

pub length-number : (n end : ℕ) → length (number n end) ≡ length (decimal n) + 1
unfolding number
length-number n end = length-append (decimal n) (end ∷ [])

pub three-parts : (a b c : ℕ) → three a b c ≡ number a 32 ++ (number b 32 ++ number c 10)
unfolding three number
three-parts a b c = simp append_assoc

-- ---- lines

pub length-line : (name : List ℕ) (s : Said)
    → length (line name s) ≡ length name + length (verdict_word s.passed) + length (three s.a s.b s.c)
unfolding line
length-line name s = simp length-append (omega arith)

shown-said : (v : Answer Answers.Figures) (name : List ℕ) → name ++ shown v ≡ line name (verdict_said v)
unfolding shown line verdict_word
shown-said (accepted f) name = refl
shown-said (refused x) name = refl

-- `plain` and `strict`
pub check-parts : (plain strict : Answer Answers.Figures) {first second : Said} → first ≡ verdict_said plain
    → second ≡ verdict_said strict → check_lines plain strict ≡ line plain_name first ++ line strict_name second
unfolding check_lines
check-parts plain strict e d = simp (e, d, ← shown-said)

-- ---- ticks

pub tick-parts : (t w : ℕ) → tick_line t w ≡ number t 32 ++ (hex 8 w ++ (10 ∷ []))
unfolding tick_line number
tick-parts t w = simp append_assoc

pub chain-none : (f : ℕ → List ℕ) → chain 0 f ≡ []
unfolding chain
chain-none f = refl

chain-suc : (t : ℕ) (f : ℕ → List ℕ) → chain (suc t) f ≡ chain t f ++ f t
unfolding chain
chain-suc t f = refl

pub chain_next : (t : ℕ) (f : ℕ → List ℕ) → chain (t + 1) f ≡ chain t f ++ f t
chain_next t f = rw add-one (chain-suc t f)

pub tick_text_is : (s : List ℕ) (t w : ℕ) → w ≡ word_of s t → tick_text s t ≡ tick_line t w
unfolding tick_text
tick_text_is s t w e = rw e

pub length_text : (s : List ℕ) (t : ℕ) → length (tick_text s t) ≡ tick_length t
unfolding tick_text
length_text s t = length-tick t (word_of s t)

pub length-ticks : (s : List ℕ) (h : ℕ) → length (chain h (tick_text s)) ≡ total h tick_length
unfolding total chain
length-ticks s zero = refl
length-ticks s (suc h) = simp (length-append, length-ticks s h, length_text)

-- where all rows fit, each fits behind those before it
pub chain_most : (f : ℕ → List ℕ) (h t : ℕ) → t < h → length (chain t f) + length (f t) ≤ length (chain h f)
chain_most f zero t l = absurd (omega arith)
chain_most f (suc h) t l =
    let last : length (chain (suc h) f) ≡ length (chain h f) + length (f h) =
    ap length (chain-suc h f) ∙ length-append (chain h f) (f h)
    in
    up_to (λ i. length (chain i f) + length (f i) ≤ length (chain (suc h) f)) h
    (λ i s. omega (arith, last, chain_most f h i s))
    (omega arith)
    t
    l

-- `run`
run-said : (v : Answer Answers.Written) (s : List ℕ)
    → run_lines v (plan s) ≡ chain (ticks_of v s) (tick_text s) ++ line run_name (run_said v)
unfolding run_lines ticks_of tick_text word_of shown line verdict_word chain
run-said (accepted w) s = refl
run-said (refused x) s = refl

pub run-parts : (v : Answer Answers.Written) (s : List ℕ) {h : ℕ} {said : Said} → h ≡ ticks_of v s → said ≡ run_said v
    → run_lines v (plan s) ≡ chain h (tick_text s) ++ line run_name said
run-parts v s e d = simp (e, d) (run-said v s)
