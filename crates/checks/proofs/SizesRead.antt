-- A model's sizes as the code reads them.
-- Assumes nothing.
use mathlib.Core.Path.{◌≡◌, ap}
use Rattle.schedule.specs.Model.{Model}
use Rattle.records.specs.declared.model.Sizes.{Sizes}
use Rattle.records.specs.Rows.{sizes_of}

module _ (m : Model) {sizes : Sizes} (read : sizes ≡ sizes_of m) where
  pub read_cores : sizes.cores ≡ m.cores
  unfolding sizes_of
  read_cores = ap (λ (y : Sizes). y.cores) read

  pub read_activities : sizes.activities ≡ m.activities
  unfolding sizes_of
  read_activities = ap (λ (y : Sizes). y.activities) read

  pub read_horizon : sizes.horizon ≡ m.horizon
  unfolding sizes_of
  read_horizon = ap (λ (y : Sizes). y.horizon) read
