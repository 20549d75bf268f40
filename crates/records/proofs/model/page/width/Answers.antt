-- `model::page::width` meets its contract, with a width and without.
-- Assumes nothing.
use mathlib.Core.Bool.{true, false}
use mathlib.Core.Path.{◌≡◌, sym, ◌∙◌}
use borrow.Author.Tests.{not-false, not-true}
use Rattle.schedule.specs.Model.{page}
use Rattle.records.specs.Rows.{older}
use Rattle.records.proofs.model.page.width.Goals as goal

pub returns-then-has_widths : goal.returns-then-has_widths
unfolding page
returns-then-has_widths c =
    let newer : older c.args.s.now ≡ false =
    not-true _ (sym c.has_widths.ensures ∙ c.if-has_widths.true) in
    rw (← c.activity_place.ensures.value, newer) c.byte.ensures

pub returns-else-has_widths : goal.returns-else-has_widths
unfolding page
returns-else-has_widths c =
    let is-older : older c.args.s.now ≡ true =
    not-false _ (sym c.has_widths.ensures ∙ c.if-has_widths.false) in
    rw (is-older)
