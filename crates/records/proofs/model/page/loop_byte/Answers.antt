-- `model::page::loop_byte` meets its contract, with a loop byte and without.
-- Assumes nothing.
use mathlib.Core.Bool.{true, false}
use mathlib.Core.Path.{◌≡◌, sym, ◌∙◌}
use borrow.Author.Tests.{not-false, not-true}
use Rattle.schedule.specs.Model.{page}
use Rattle.records.specs.Rows.{oldest}
use Rattle.records.proofs.model.page.loop_byte.Goals as goal

pub returns-then-has_loops : goal.returns-then-has_loops
unfolding page
returns-then-has_loops c =
    let newer : oldest c.args.s.now ≡ false =
    not-true _ (sym c.has_loops.ensures ∙ c.if-has_loops.true) in
    rw (← c.activity_place.ensures.value, newer) c.byte.ensures

pub returns-else-has_loops : goal.returns-else-has_loops
unfolding page
returns-else-has_loops c =
    let is-oldest : oldest c.args.s.now ≡ true =
    not-false _ (sym c.has_loops.ensures ∙ c.if-has_loops.false) in
    rw (is-oldest)
