-- A word with one bit as an edit wants it, and the words of a plan after the edit.
-- Assumes nothing.
use Prim.Native.Nat.{ℕ, ◌-◌, ◌^◌, ◌<◌}
use native.Mathlib.Decide.{dec_lt, ℕ_discrete}
use native.Mathlib.Omega.{arith}
use mathlib.Core.Bool.{Bool, true, false, ◌&&◌, ◌||◌, not, cond}
use mathlib.Core.Path.{◌≡◌, refl, sym, ap, ◌∙◌}
use lib.Dec.{eqb, ltb}
use borrow.Author.Tests.{eq-eqb, ne_eqb}
use Rattle.schedule.specs.Bounded.{bit, with_bit, without_bit}
use Rattle.schedule.specs.Plan.{Plan}
use Rattle.laws.proofs.WordLaws.{bit_with, bit-without, bit_past, with_lt}
use Rattle.edit_rules.specs.declared.Edit.{Edit}
use Rattle.edit_rules.specs.Edits.{word_with, edited_word}

-- a word of 32 bits stays one
without_lt : (w b : ℕ) → w < 2 ^ 32 → without_bit w b < 2 ^ 32
unfolding without_bit
without_lt w b h = one (ltb b 32 && bit w b)
  where
    one : (t : Bool) → cond t (w - 2 ^ b) w < 2 ^ 32
    one true = omega arith
    one false = h

pub word_lt : (e : Edit) (w : ℕ) → w < 2 ^ 32 → word_with e w < 2 ^ 32
word_lt e w h = one e.on
  where
    one : (on : Bool) → cond on (with_bit w e.activity) (without_bit w e.activity) < 2 ^ 32
    one true = with_lt w e.activity h
    one false = without_lt w e.activity h

-- the edit's bit is as it wants it, and the others are as they were
pub bit_edited : (e : Edit) (w c : ℕ) → w < 2 ^ 32 → e.activity < 32
    → bit (word_with e w) c ≡ cond (eqb c e.activity) e.on (bit w c)
bit_edited e w c h a = one e.on
  where
    set : (t x : Bool) → (x || t) ≡ cond t true x
    set true true = refl
    set true false = refl
    set false true = refl
    set false false = refl

    unset : (t x : Bool) → (x && not t) ≡ cond t false x
    unset true true = refl
    unset true false = refl
    unset false true = refl
    unset false false = refl

    cleared : bit (without_bit w e.activity) c ≡ cond (eqb c e.activity) false (bit w c)
    cleared =
        elim (dec_lt c 32) [
          | yes l ↦ bit-without w e.activity c h a l ∙ unset (eqb c e.activity) (bit w c)
          | no l ↦
              bit_past (without_bit w e.activity) c (without_lt w e.activity h) (omega arith)
              ∙ sym (ap (λ (t : Bool). cond t false (bit w c)) (ne_eqb c e.activity (omega arith)) ∙ bit_past w c h (omega arith))
        ]

    one : (on : Bool) → bit (cond on (with_bit w e.activity) (without_bit w e.activity)) c
        ≡ cond (eqb c e.activity) on (bit w c)
    one true = bit_with w e.activity c a ∙ set (eqb c e.activity) (bit w c)
    one false = cleared

-- ---- of a plan

-- the word at the edit's tick, and at another
pub word_there : (p : Plan) (e : Edit) → edited_word p e e.tick ≡ word_with e (p.word e.tick)
unfolding edited_word
word_there p e = rw (eq-eqb e.tick e.tick refl)

pub word-elsewhere : (p : Plan) (e : Edit) (t : ℕ) → ¬ (t ≡ e.tick) → edited_word p e t ≡ p.word t
unfolding edited_word
word-elsewhere p e t ne = rw (ne_eqb t e.tick ne)

module _ (p : Plan) (e : Edit) (a : e.activity < 32) (fits : p.word e.tick < 2 ^ 32) where
  pub that_bit : bit (edited_word p e e.tick) e.activity ≡ e.on
  that_bit =
      ap (λ (w : ℕ). bit w e.activity) (word_there p e)
      ∙ bit_edited e (p.word e.tick) e.activity fits a
      ∙ ap (λ (t : Bool). cond t e.on (bit (p.word e.tick) e.activity)) (eq-eqb e.activity e.activity refl)

  pub other-bit : (t c : ℕ) → ¬ ((e.tick ≡ t) × (e.activity ≡ c)) → bit (edited_word p e t) c ≡ bit (p.word t) c
  other-bit t c other =
      elim (ℕ_discrete t e.tick) [
        | yes here ↦
            ap (λ (u : ℕ). bit (edited_word p e u) c) here
            ∙ ap (λ (w : ℕ). bit w c) (word_there p e)
            ∙ bit_edited e (p.word e.tick) c fits a
            ∙ ap (λ (b : Bool). cond b e.on (bit (p.word e.tick) c))
            (ne_eqb c e.activity (λ same. other (sym here, sym same)))
            ∙ ap (λ (u : ℕ). bit (p.word u) c) (sym here)
        | no elsewhere ↦ ap (λ (w : ℕ). bit w c) (word-elsewhere p e t elsewhere)
      ]
