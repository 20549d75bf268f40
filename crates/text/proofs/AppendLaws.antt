-- Text stored at a position: parts stored one behind the other are stored as one, from the front or from the back; and
-- text that is stored at 0 is printed.
-- Assumes nothing.
use Prim.Native.Nat.{ℕ, suc, ◌+◌, ◌-◌, ◌*◌, ◌/◌, ◌%◌, ◌^◌, ◌≤◌, ◌<◌}
use native.Mathlib.Nat.{zero-add, add-zero, add_assoc, add-suc, suc-add}
use native.Mathlib.Omega.{arith}
use mathlib.Core.List.{List, [], ◌∷◌, ◌++◌, append_assoc}
use mathlib.Core.Path.{◌≡◌, refl, sym, ap, ◌∙◌}
use lib.ListN.{length, set, take, drop, length-append}
use lib.Seq.{sets, sets-eq, length-sets, set_comm}
use borrow.Rule.Slice.PartMut.{put_mid, Post-is}
use borrow.Author.Tests.{le-leb, lt-leb}
use Rattle.schedule.specs.Lines.{decimal, hex, hex_digit}
use Rattle.laws.proofs.LineLengths.{length_large}
use Rattle.text.specs.Printed.{leaves, printed}
use Rattle.text.specs.declared.Writer.{Writer}
use Rattle.text.specs.Appended.{Appended}
use Rattle.text.specs.Wrote.{Wrote}
use Rattle.text.proofs.DigitLaws.{first_digits, first_next, first-all, decimal_one, decimal-more}

-- ---- stores

-- the first part, then the second behind it
pub sets_append : (a b old : List ℕ) (at : ℕ) → sets old at (a ++ b) ≡ sets (sets old at a) (at + length a) b
sets_append [] b old at = rw add-zero
sets_append (x ∷ a) b old at = rw (add-suc, ← suc-add) (sets_append a b (set old at x) (suc at))

-- the last byte first, then those before it
pub sets_last : (a : List ℕ) (d : ℕ) (old : List ℕ) (at : ℕ)
    → sets old at (a ++ (d ∷ [])) ≡ sets (set old (at + length a) d) at a
sets_last [] d old at = rw add-zero
sets_last (x ∷ a) d old at =
    sets_last a d (set old at x) (suc at)
    ∙ ap (λ (l : List ℕ). sets l (suc at) a)
    (set_comm old at (suc at + length a) x d (λ e. omega arith)
    ∙ ap (λ (i : ℕ). set (set old i d) at x) (suc-add at (length a) ∙ sym (add-suc at (length a))))

-- ---- text appended

pub appended_none : (at : ℕ) (old : List ℕ) → Appended at [] old at old
appended_none at old = record { moved = sym (add-zero at); stored = refl }

pub appended_byte : (at b : ℕ) (old : List ℕ) → Appended at (b ∷ []) old (at + 1) (set old at b)
appended_byte at b old = record { moved = refl; stored = refl }

-- two parts appended are the whole appended
pub appended_both : {at : ℕ} {a b old : List ℕ} {next end : ℕ} {mid new : List ℕ}
    → Appended at a old next mid → Appended next b mid end new → Appended at (a ++ b) old end new
appended_both {at} {a} {b} {old} p q = record {
  moved = omega (arith, length-append a b, p.moved, q.moved);
  stored = q.stored ∙ (simp (p.stored, p.moved)) ∙ sym (sets_append a b old at);
}

-- a part of the buffer is written over
pub appended_copy : (at : ℕ) (s old : List ℕ) → at + length s ≤ length old
    → Appended at s old (at + length s) (put_mid at (at + length s - at) old s)
appended_copy at s old h = record {
  moved = refl;
  stored = ap (λ (l : List ℕ). take at old ++ (s ++ l)) (Post-is at (at + length s) old (omega arith))
      ∙ sym (append_assoc (take at old) s (drop (at + length s) old))
      ∙ sym (sets-eq s old at h);
}

-- ---- text written behind what is written

pub wrote_none : (w : Writer) → Wrote w [] w
wrote_none w = record { same = refl; appended = appended_none w.at w.out.now }

pub wrote_both : {w w' w'' : Writer} {a b : List ℕ} → Wrote w a w' → Wrote w' b w'' → Wrote w (a ++ b) w''
wrote_both p q = record { same = q.same ∙ p.same; appended = appended_both p.appended q.appended }

pub wrote_length : {w w' : Writer} {a : List ℕ} → Wrote w a w' → length w'.out.now ≡ length w.out.now
wrote_length {w} {a} p = ap length p.appended.stored ∙ length-sets w.out.now w.at a

-- ---- a word's digits stored from the first to the last, of which i are passed

module _ (word at i : ℕ) (old out : List ℕ) (passed : Appended at (first_digits word i) old (at + i) out) where
  pub hex_next : {d : ℕ} → d ≡ hex_digit (word / 2 ^ (28 - 4 * i) % 16) → i < 8
      → Appended at (first_digits word (i + 1)) old (at + (i + 1)) (set out (at + i) d)
  hex_next {d} e h = rw (first_next word i h, ← e, ← add_assoc at i 1) (appended_both passed (appended_byte (at + i) d out))

  pub hex-done : i ≡ 8 → Appended at (hex 8 word) old (at + 8) out
  hex-done e = rw (first-all word i e, e) at passed

-- ---- a number's decimal digits stored from the last to the first, of which those of the rest are left

module _ (rest at : ℕ) (out : List ℕ) where
  pub decimal_next : {d : ℕ} → d ≡ hex_digit (rest % 10 % 16) → (i : ℕ) → i + 1 ≡ length (decimal rest) → 10 ≤ rest
      → sets (set out (at + i) d) at (decimal (rest / 10)) ≡ sets out at (decimal rest)
  decimal_next e i l h =
      let before : i ≡ length (decimal (rest / 10)) = omega (arith, length_large rest h) in
      rw (decimal-more rest h, e, before, sets_last)

  pub decimal-done : {d : ℕ} → d ≡ hex_digit (rest % 16) → rest < 10 → set out at d ≡ sets out at (decimal rest)
  decimal-done e h = rw (e, decimal_one rest h)

-- ---- printed

-- a text stored at 0, where it fits
appended_printed : {next : ℕ} (text : List ℕ) {old new : List ℕ} → length text ≤ length old
    → Appended 0 text old next new → leaves next new ≡ printed text old
unfolding printed
appended_printed text {old} h p =
    simp (
      le-leb (length text) (length old) h,
      p.stored,
      p.moved,
      sets-eq text old 0 (rw zero-add h),
      zero-add,
    )

-- a text of two parts, where they fit, and where they do not
pub printed-whole : {text a b old : List ℕ} {next end : ℕ} {mid new : List ℕ} → text ≡ a ++ b
    → Appended 0 a old next mid → Appended next b mid end new → length a + length b ≤ length old
    → leaves end new ≡ printed text old
printed-whole {text} {a} {b} parts p q h =
    rw parts (appended_printed (a ++ b) (omega (arith, length-append a b)) (appended_both p q))

-- written by a writer that begins at 0, whose buffer is handed back at the end
pub printed_written : {text a b new : List ℕ} {w w' w'' : Writer} → text ≡ a ++ b → w.at ≡ 0 → Wrote w a w' → Wrote w' b w''
    → length a + length b ≤ length w.out.now → (w.out.ghost_name ≡ w''.out.ghost_name → new ≡ w''.out.now)
    → leaves w''.at new ≡ printed text w.out.now
printed_written {w'} {w''} parts z p q h last =
    let begins = rw z at p.appended in
    rw (last (sym (q.same ∙ p.same))) (printed-whole parts begins q.appended h)

pub printed-nothing : {text : List ℕ} (a b old : List ℕ) → text ≡ a ++ b → length old < length a + length b
    → leaves 0 old ≡ printed text old
unfolding printed
printed-nothing {text} a b old parts h =
    simp (lt-leb (length text) (length old) (omega (arith, ap length parts, length-append a b)))
