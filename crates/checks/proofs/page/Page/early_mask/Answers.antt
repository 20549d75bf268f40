-- `checks::page::Page::early_mask` meets its contract: the word of those that the start comes too early after.
-- Assumes nothing.
use Prim.Native.Nat.{ℕ, ◌+◌, ◌≤◌}
use native.Mathlib.Omega.{arith}
use mathlib.Core.Bool.{Bool, not}
use mathlib.Core.Path.{ap, ◌∙◌}
use lib.Dec.{leb}
use lib.ListN.{get_or}
use Rattle.std.proofs.Common.{rules}
use Rattle.schedule.specs.Bounded.{bit, word_of, ◌⇒◌}
use Rattle.checks.specs.Rules.{early_from}
use Rattle.checks.proofs.SizesRead.{read_activities}
use Rattle.checks.proofs.page.Page.early_mask.Goals as goal

pub word-requires : goal.word-requires
word-requires c =
    let few : c.counts-sizes.result.activities ≤ 32 =
    omega (arith, read_activities _ c.counts-sizes.ensures, c.args.self.now.counted.tabulated.few) in
    search rules

pub returns : goal.returns
unfolding early_from
returns c =
    let x = c.args in
    let early : ℕ → Bool = λ b.
    not (bit x.preceding b ⇒ leb (get_or x.self.now.tables.now.ends b 0 + get_or x.delays.now b 0) x.start) in
    c.word.ensures early (λ b y l p. search rules)
    ∙ ap (λ (n : ℕ). word_of n early) (read_activities _ c.counts-sizes.ensures)
