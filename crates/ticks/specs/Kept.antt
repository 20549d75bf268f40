-- A word that is kept from one change to the next.
-- Assumes nothing.
use Rattle.std.specs.Prelude.{ℕ, ◌≤◌, ◌<◌, ◌≡◌}
use Rattle.ticks.specs.declared.Kept.{Kept}

-- none of the first n ticks of f comes after tick t and before tick u
abbrev pub Quiet : ℕ → (ℕ → ℕ) → ℕ → ℕ → Type 0
Quiet n f t u = (a : ℕ) → a < n → t < f a → u ≤ f a

-- the word is that of every tick from t on, as long as it is kept
abbrev pub Stands : (ℕ → ℕ) → Kept → ℕ → Type 0
Stands word known t = (v : ℕ) → t ≤ v → v < known.until → word v ≡ known.word
