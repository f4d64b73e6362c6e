-- The steps of the minimum between two rows: what their loop keeps. Assumes nothing.
use mathlib.Core.Path.{◌≡◌}
use mathlib.Core.List.{List}
use Prim.Native.Nat.{ℕ, ◌-◌}
use lib.IntN.{ℤ}
use Rattle.rules.specs.Shape.{Shape}
use Rattle.columns.specs.Down.{Down}
use Rattle.columns.proofs.Counted.{Counted}
use Rattle.light.specs.Steps.{least_along, level_at, DarkTo}

-- l is the work area as it came, m as it is before row i goes down the columns
pub record Going (z : Shape) (s : ℕ) (mask frame : List ℕ) (l m : List ℤ) (apart tops store ahead : List ℕ) (h r count i : ℕ) : Type 0 where
  pub rows : h ≡ z.h
  pub radius : r ≡ s
  pub columns : Down store ahead z.w s z.h (least_along z s mask frame) i
  pub given : DarkTo z (level_at z s mask frame) l m apart tops (i - s)
  pub counted : Counted s z.w z.h count i
