-- `checks::windows::Windows::opened` meets its contract: the word of the windows that are open. Assumes nothing.
use mathlib.Core.Bool.{◌&&◌}
use lib.Dec.{leb, ltb}
use lib.ListN.{get_or}
use Rattle.std.proofs.Common.{rules}
use Rattle.checks.specs.Windows.{open_of}
use Rattle.checks.proofs.windows.Windows.opened.Goals as goal

pub returns : goal.returns
unfolding open_of
returns c =
    let x = c.args in
    c.word.ensures (λ a. leb (get_or x.self.now.froms.now a 0) x.t && ltb x.t (get_or x.self.now.ends.now a 0))
    (λ a y l p. search rules)
