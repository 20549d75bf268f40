-- `checks::tick::Trial::overloaded` meets its contract, by its test. Assumes nothing.
use Prim.Native.Nat.{ℕ}
use mathlib.Core.Bool.{cond}
use mathlib.Core.Path.{ap, ◌∙◌}
use lib.Dec.{leb}
use Rattle.checks.specs.Ticks.{overloaded_of}
use Rattle.checks.proofs.tick.Trial.overloaded.Goals as goal

pub returns : goal.returns
unfolding overloaded_of
returns c = c.flag.ensures ∙ ap (λ (k : ℕ). cond (leb k c.args.self.now.cores) 0 1) c.load.ensures
