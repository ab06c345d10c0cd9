-- The grids that have a descriptor.
use Rattle.std.specs.Prelude.{◌≤◌}
use Rattle.panel.specs.declared.GridDims.{GridDims}

-- the sides of a grid that check 1 lets pass
pub record Sided (d : GridDims) : Type 0 where
  pub rows : 1 ≤ d.rows
  pub rows_most : d.rows ≤ 256
  pub cols : 1 ≤ d.cols
  pub cols_most : d.cols ≤ 256
