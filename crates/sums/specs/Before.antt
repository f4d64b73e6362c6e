-- The sums of a row, of two planes at the front of lists, and what stands before the next row. Assumes nothing.
use Rattle.std.specs.Prelude.{List, ℕ, ◌+◌, ◌≤◌, length, ℤ}
use Rattle.planes.specs.declared.View.{View}
use Rattle.planes.specs.Cells.{cells}
use Rattle.sums.specs.Sum.{Columns, RowSums}
use Rattle.sums.specs.declared.SquareSums.{SquareSums}

-- the sums over the squares about the pixels of the view's row y
pub record SumsAbout (v : View) (r : ℕ) (plane other : List ℤ) (y : ℕ) (s : SquareSums) : Type 0 where
  pub first : RowSums s.first (cells plane 0 v.w) v.w v.h r (v.top + y) v.left v.wide
  pub second : RowSums s.second (cells other 0 v.w) v.w v.h r (v.top + y) v.left v.wide
  pub first_long : v.wide ≤ length s.first
  pub second_long : v.wide ≤ length s.second

-- before row y: the columns of both planes
pub record SumsBefore (v : View) (r : ℕ) (plane other : List ℤ) (y : ℕ) (s : SquareSums) : Type 0 where
  pub first : Columns s.first_columns (cells plane 0 v.w) v.w v.h r (v.top + y)
  pub second : Columns s.second_columns (cells other 0 v.w) v.w v.h r (v.top + y)
