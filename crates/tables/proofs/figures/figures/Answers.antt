-- `tables::figures::figures` meets its contract, figure by figure.
-- Assumes nothing.
use native.Mathlib.Omega.{arith}
use Prim.Native.Nat.{ℕ, ◌*◌, ◌-◌}
use mathlib.Core.List.{List}
use mathlib.Core.Path.{ap, ap₂, ◌∙◌}
use Rattle.schedule.specs.Bounded.{total, greatest, least}
use Rattle.schedule.specs.Model.{model}
use Rattle.schedule.specs.Plan.{plan, word_in}
use Rattle.schedule.specs.Checks.{load}
use Rattle.schedule.specs.Answers.{figures}
use Rattle.records.specs.declared.model.Sizes.{Sizes}
use Rattle.records.specs.Rows.{sizes_of}
use Rattle.laws.proofs.Ranges.{width_lt, word_lt}
use Rattle.laws.proofs.Sums.{total_ext}
use Rattle.laws.proofs.PlanBytes.{word_behind}
use Rattle.tables.specs.declared.loads.Widths.{Widths}
use Rattle.tables.specs.Loads.{widths_of, load_from}
use Rattle.tables.proofs.CountLaws.{product_fits}
use Rattle.tables.proofs.LoadLaws.{load_is}
use Rattle.tables.proofs.figures.figures.Goals as goal

pub overflow_mul-capacity : goal.overflow_mul-capacity
overflow_mul-capacity c =
    record { fits = product_fits c.counts-sizes.result.cores c.counts-sizes.result.horizon (omega arith) (omega arith) }

pub returns : goal.returns
unfolding figures sizes_of
returns c =
    let x = c.args in
    let m = model x.s.now in
    let p = plan x.r.now in
    let e = c.counts-sizes.ensures in
    let narrow = width_lt x.s.now (λ i _. (c.type_inv.s i).fits) in
    let words = word_lt x.r.now (λ i _. (c.type_inv.r i).fits) in
    let used =
    c.usage.ensures
    ∙ ap₂ (λ (g : List ℕ) (w : Widths). total c.counts-sizes.result.horizon (λ t. load_from w (word_in g t)))
    c.words.ensures.0 c.widths_of.ensures
    ∙ total_ext _ _ (λ t. load m p t)
    (λ t _. ap (load_from (widths_of m)) (word_behind x.r.now t) ∙ load_is m narrow (p.word t) (words t))
    ∙ ap (λ (y : Sizes). total y.horizon (λ t. load m p t)) e in
    let room = ap (λ (y : Sizes). y.cores * y.horizon) e in
    let last = c.latest_end-latest.ensures ∙ ap (λ (y : Sizes). greatest y.activities p.end) e in
    let first = c.least_release-first.ensures ∙ ap (λ (y : Sizes). least y.threads p.release) e in
    let span = c.saturating_sub.ensures ∙ ap₂ ◌-◌ last first in
    λ i. record { usage = used i; capacity = room i; makespan = span i }
