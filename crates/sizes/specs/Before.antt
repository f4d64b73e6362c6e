-- What the sizes of a row's windows are, and what stands before the next row. Assumes nothing.
use Rattle.std.specs.Prelude.{List, ℕ, ◌+◌, ◌-◌, ◌≤◌, ◌<◌, length}
use Rattle.planes.specs.declared.View.{View}
use Rattle.planes.specs.Stage.{box_seen}
use Rattle.sums.specs.Sum.{Columns}
use Rattle.sizes.specs.Sizes.{Sizes, bit_plane}
use Rattle.sizes.specs.declared.WindowSizes.{WindowSizes}

-- the sizes of the windows about the pixels of the view's row y, and their reciprocals: the view v is one of the box b of the mask
pub record SizesAbout (b v : View) (r : ℕ) (mask : List ℕ) (y : ℕ) (s : WindowSizes) : Type 0 where
  pub sizes : Sizes v r (box_seen b mask) (v.top + y) s.ns s.inverses
  pub ns_long : v.wide ≤ length s.ns
  pub inverses_long : v.wide ≤ length s.inverses

-- before row y: the columns of the box, and the sizes about the row before, where there is one
pub record SizesBefore (b v : View) (r : ℕ) (mask : List ℕ) (y : ℕ) (s : WindowSizes) : Type 0 where
  pub columns : Columns s.columns (bit_plane b mask) v.w v.h r (v.top + y)
  pub sizes : 0 < y → SizesAbout b v r mask (y - 1) s
