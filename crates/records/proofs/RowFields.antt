-- A row whose bytes are all there, read at once, has the fields that stand at its position.
-- Assumes nothing.
use Prim.Native.Nat.{ℕ, ◌+◌, ◌*◌}
use mathlib.Core.List.{List}
use mathlib.Core.Path.{◌≡◌, refl, sym, ◌∙◌}
use lib.ListN.{get_or}
use Rattle.fields.proofs.ReadLaws.{field_one, field-two, field-two_at, field-four_at}
use Rattle.records.specs.Rows.{thread_fields, activity_fields}

-- two bytes, and four, so far behind a position
abbrev pub two : List ℕ → ℕ → ℕ → ℕ
two s at i = get_or s (at + i) 0 * 256 + get_or s (at + (i + 1)) 0

abbrev pub four : List ℕ → ℕ → ℕ → ℕ
four s at i =
    ((get_or s (at + i) 0 * 256 + get_or s (at + (i + 1)) 0) * 256 + get_or s (at + (i + 2)) 0) * 256 + get_or s (at + (i + 3)) 0

pub thread_read : (s : List ℕ) (at a b c d e : ℕ) → a ≡ get_or s at 0 * 256 + get_or s (at + 1) 0 → b ≡ two s at 2
    → c ≡ two s at 4 → d ≡ two s at 6 → e ≡ two s at 8
    → record { least_period = a; most_period = b; least_release = c; most_release = d; priority = e }
    ≡ thread_fields s at
unfolding thread_fields
thread_read s at a b c d e p q r t u =
    rw (
      p ∙ field-two s at,
      q ∙ field-two_at s at 2,
      r ∙ field-two_at s at 4,
      t ∙ field-two_at s at 6,
      u ∙ field-two_at s at 8,
    ) refl

pub activity_read : (s : List ℕ) (at a b c d e f : ℕ) → a ≡ get_or s at 0 → b ≡ two s at 1 → c ≡ two s at 3
    → d ≡ two s at 5 → e ≡ four s at 7 → f ≡ four s at 11
    → record {
      thread = record { 0 = a };
      least_duration = b;
      most_duration = c;
      delay = d;
      temporal_mask = e;
      data_mask = f;
    } ≡ activity_fields s at
unfolding activity_fields
activity_read s at a b c d e f p q r t u v =
    rw (
      p ∙ sym (field_one s at),
      q ∙ field-two_at s at 1,
      r ∙ field-two_at s at 3,
      t ∙ field-two_at s at 5,
      u ∙ field-four_at s at 7,
      v ∙ field-four_at s at 11,
    ) refl
