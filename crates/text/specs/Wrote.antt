-- Writing into a lent buffer behind what is written there. Assumes nothing.
use Rattle.std.specs.Prelude.{ℕ, ◌+◌, ◌≤◌, List, ◌≡◌, length}
use Rattle.text.specs.declared.Writer.{Writer}
use Rattle.text.specs.Appended.{Appended}

-- the text fits behind what is written
abbrev pub HasRoom : Writer → List ℕ → Type 0
HasRoom w text = w.at + length text ≤ length w.out.now

-- it stands there, in the same buffer
pub record Wrote (old : Writer) (text : List ℕ) (new : Writer) : Type 0 where
  pub same : new.out.ghost_name ≡ old.out.ghost_name
  pub appended : Appended old.at text old.out.now new.at new.out.now
