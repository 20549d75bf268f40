-- The releases by thread of a second record.
-- Assumes nothing.
use Rattle.std.specs.Prelude.{ℕ, List}
use Rattle.schedule.specs.Choice.{choice}
use Rattle.schedule.specs.Plan.{plan}
use Rattle.tables.specs.declared.figures.Second.{Second}

-- its bytes read as a choice's or as a plan's
abbrev pub releases_of : Second → List ℕ → ℕ → ℕ
releases_of Second.Choice r = (choice r).release
releases_of Second.Plan r = (plan r).release
