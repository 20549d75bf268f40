-- `tables::figures::least_release` meets its contract: the least release of the threads passed. Assumes nothing.
use mathlib.Core.Path.{◌≡◌}
use Rattle.schedule.specs.Bounded.{least}
use Rattle.tables.specs.Releases.{releases_of}
use Rattle.tables.proofs.figures.least_release.Given as goal

abbrev pub invariant-loop-j : goal.invariant-loop-j
invariant-loop-j l = l.first ≡ least l.j (releases_of l.whose l.r)
