-- Sums over squares that slide down and along a plane: what they are given, what is kept from row to row, and what they leave. One bound, 2^48,
-- holds of the values of every plane (two words of a sample, slope, offset), so a sum over at most 121 by 121 of them stays below 2^62.
-- Assumes nothing.
use Rattle.std.specs.Prelude.{◌≡◌, List, ℕ, ◌+◌, ◌-◌, ◌*◌, ◌≤◌, ◌<◌, min, get_or, length, ℤ, pos, nat_abs, ◌+ℤ◌, ◌-ℤ◌}
use mathlib.Core.Path.{ap, sym}
use native.Mathlib.Nat.{zero-add}
use Rattle.rules.specs.Window.{Plane, square, total_z}
use Rattle.rules.specs.Fold.{Σ}
use Rattle.planes.specs.declared.View.{View}
use Rattle.planes.specs.View.{InPlane}
use Rattle.planes.specs.Cells.{cells}

-- the most that a value is
abbrev pub value_most : ℕ
value_most = 281474976710656

-- a plane of w by h at the list's front, whose values are small, a box in it, and the radius of the squares
pub record Summable (l : List ℤ) (v : View) (r : ℕ) : Type 0 where
  pub in_plane : InPlane v
  pub r_most : r ≤ 60
  pub room : v.w * v.h ≤ length l
  pub small : (y x : ℕ) → y < v.h → x < v.w → nat_abs (cells l 0 v.w y x) ≤ value_most

-- a plane f whose rows can be read and whose values are small, as wide and as high as that of the box v, and the radius of the squares
pub record Readable (f : Plane ℤ) (w : ℕ) (has_row : ℕ → Type 0) (v : View) (r : ℕ) : Type 0 where
  pub in_plane : InPlane v
  pub r_most : r ≤ 60
  pub wide : w ≡ v.w
  pub rows : (y : ℕ) → y < v.h → has_row y
  pub small : (y x : ℕ) → y < v.h → x < v.w → nat_abs (f y x) ≤ value_most

-- row y of a plane at the list's front
pub cells_row : (plane : List ℤ) (w y x : ℕ) → get_or plane (y * w + x) (pos 0) ≡ cells plane 0 w y x
cells_row plane w y x = ap (λ (i : ℕ). get_or plane i (pos 0)) (sym (zero-add (y * w + x)))

-- f a + .. + f (b - 1), and 0 where b is at most a
abbrev pub range_sum : (ℕ → ℤ) → ℕ → ℕ → ℤ
range_sum f a b = Σ ◌+ℤ◌ (pos 0) a (b - a) f

-- how many columns are kept: 1024, and 61 that are none on one side and 60 on the other, rounded up
abbrev pub kept : ℕ
kept = 1152

-- columns of nothing
pub record Blank (cols : List ℤ) : Type 0 where
  pub long : length cols ≡ kept
  pub zero : (k : ℕ) → get_or cols k (pos 0) ≡ pos 0

-- the columns of the plane f of w by h before row y: of column x the sum over the rows that the squares of radius r about row y - 1 have (before row 0,
-- over the rows above row r), at place r + 1 + x. All other places hold 0
pub record Columns (cols : List ℤ) (f : Plane ℤ) (w h r y : ℕ) : Type 0 where
  pub long : length cols ≡ kept
  pub before : (k : ℕ) → k < r + 1 → get_or cols k (pos 0) ≡ pos 0
  pub is : (x : ℕ) → x < w → get_or cols (r + 1 + x) (pos 0) ≡ range_sum (λ v. f v x) (y - (r + 1)) (min h (y + r))
  pub after : (k : ℕ) → r + 1 + w ≤ k → get_or cols k (pos 0) ≡ pos 0

-- the sums over the squares about n pixels of row y of the plane f, from column x on
pub record RowSums (out : List ℤ) (f : Plane ℤ) (w h r y x n : ℕ) : Type 0 where
  pub is : (i : ℕ) → i < n → get_or out i (pos 0) ≡ total_z (λ v. v) (square w h r f y (x + i))

-- ---- what one loop does

abbrev pub entry : List ℤ → ℕ → ℤ
entry l k = get_or l k (pos 0)

-- the most that a column is: 128 values
abbrev pub column_most : ℕ
column_most = 36028797018963968

-- the n columns from place `to` on, and the n values of a plane from place `at` on, that can be added to them or taken away
pub record RowIn (cols : List ℤ) (to : ℕ) (plane : List ℤ) (at n : ℕ) : Type 0 where
  pub room : to + n ≤ length cols
  pub row : at + n ≤ length plane
  pub held : (i : ℕ) → i < n → nat_abs (entry cols (to + i)) ≤ column_most
  pub small : (i : ℕ) → i < n → nat_abs (entry plane (at + i)) ≤ value_most

-- what they become
abbrev pub entered : List ℤ → ℕ → List ℤ → ℕ → ℕ → ℤ
entered cols to plane at i = entry cols (to + i) +ℤ entry plane (at + i)

abbrev pub left : List ℤ → ℕ → List ℤ → ℕ → ℕ → ℤ
left cols to plane at i = entry cols (to + i) -ℤ entry plane (at + i)

abbrev pub slid : List ℤ → ℕ → List ℤ → ℕ → ℕ → ℕ → ℤ
slid cols to plane at old i = entered cols to plane at i -ℤ entry plane (old + i)

-- the n entries from place `to` on are g 0, g 1 and so on now, and all others are as they were
pub record Rewritten (l m : List ℤ) (to n : ℕ) (g : ℕ → ℤ) : Type 0 where
  pub is : (i : ℕ) → i < n → entry m (to + i) ≡ g i
  pub rest : (k : ℕ) → (to ≤ k → k < to + n → ⊥) → entry m k ≡ entry l k

-- columns that can be added up, 121 at a time
pub record Spannable (cols : List ℤ) : Type 0 where
  pub long : length cols ≡ kept
  pub held : (k : ℕ) → nat_abs (entry cols k) ≤ column_most

-- the sums of the d columns after each of n places from x on
pub record Spans (out cols : List ℤ) (x d n : ℕ) : Type 0 where
  pub is : (i : ℕ) → i < n → entry out i ≡ Σ ◌+ℤ◌ (pos 0) (x + i + 1) d (entry cols)
