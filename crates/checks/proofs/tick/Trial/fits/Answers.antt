-- `checks::tick::Trial::fits` meets its contract: the word counted is that of the activity and of the active ones before it.
-- Assumes nothing.
use Prim.Native.Nat.{ℕ}
use mathlib.Core.Path.{ap, ◌∙◌}
use lib.Dec.{leb}
use Rattle.tables.specs.Loads.{load_from}
use Rattle.checks.specs.Ticks.{fits_from}
use Rattle.checks.proofs.tick.Trial.fits.Goals as goal

pub returns : goal.returns
unfolding fits_from
returns c =
    let x = c.args in
    ap (λ (k : ℕ). leb k x.self.now.cores) (c.load.ensures ∙ ap (λ (w : ℕ). load_from x.self.now.widths w) c.with.ensures)
