-- What the rules of a page's rows are tried at.
-- Assumes nothing.
use mathlib.Core.Path.{◌≡◌, refl}
use Rattle.schedule.specs.declared.RowRule.{RowRule}
use Rattle.schedule.specs.Model.{Page, row_rule}
use Rattle.schedule.specs.Opened.{form_rules}

-- none names a B
pub row-columns : (rule : RowRule) (p : Page) → (row_rule rule p).columns ≡ 1
unfolding form_rules
row-columns RowRule.Thread p = refl
row-columns RowRule.Period p = refl
row-columns RowRule.Activity p = refl
row-columns RowRule.Loop p = refl
row-columns RowRule.Width p = refl
row-columns RowRule.Masks p = refl
