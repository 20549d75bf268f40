-- `tables::ranking::masks` meets its contract: a word for each activity that has a place, and the priorities are the model's.
-- Assumes nothing.
use Prim.Native.Nat.{ℕ, ◌<◌}
use native.Mathlib.Omega.{arith}
use mathlib.Core.List.{List}
use mathlib.Core.Path.{◌≡◌, ap, ◌∙◌}
use lib.ListN.{get_or}
use Rattle.std.proofs.Common.{rules}
use Rattle.schedule.specs.Bounded.{word_of}
use Rattle.schedule.specs.Model.{model, priority_of}
use Rattle.tables.specs.Columns.{column_of}
use Rattle.tables.specs.Ranking.{ranks, ranking_of}
use Rattle.tables.proofs.TableLaws.{by_first, by_at, by_ext, among_first}
use Rattle.tables.proofs.RankLaws.{ranks-same}
use Rattle.tables.proofs.ranking.masks.Goals as goal

pub returns : goal.returns
unfolding ranking_of column_of
returns c =
    let x = c.args in
    let m = model x.s.now in
    let n : ℕ = c.rows-places.result.n in
    let priorities : List ℕ = c.table-priorities.result in
    let words : ℕ → ℕ = λ a. word_of n (λ b. ranks x.order (λ i. get_or priorities i 0) b a) in
    let priority : (a : ℕ) → a < m.activities → a < 32 → get_or priorities a 0 ≡ priority_of m a =
    λ a k here. ap (λ (y : List ℕ). get_or y a 0) c.table-priorities.ensures ∙ by_at m (priority_of m) a k here in
    by_first m n words c.table.result c.rows-places.ensures (c.table.ensures words (λ a y l p. search rules))
    ∙ by_ext m _ _ (λ a k here.
    among_first m _ _ _ c.rows-places.ensures (λ b lb.
    ranks-same x.order _ (priority_of m) b a
    (priority b (omega (arith, c.rows-places.ensures)) (omega (arith, c.rows-places.ensures))) (priority a k here)))
