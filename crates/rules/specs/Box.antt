-- A box: b.w columns and b.h rows of a frame, from row top and column left on, taken as a little frame of its own. Assumes nothing.
use Rattle.std.specs.Prelude.{ℕ, ◌+◌, ◌-◌, min, ◌≤◌, ◌<◌, ◌≡◌, Bool, true}
use Rattle.rules.specs.Shape.{Shape}
use Rattle.rules.specs.Window.{Plane}

-- the box's own plane
abbrev pub part : {A : Type 0} → ℕ → ℕ → Plane A → Plane A
part top left f y x = f (top + y) (left + x)

-- the box lies in the frame
pub record Fits (z b : Shape) (top left : ℕ) : Type 0 where
  pub rows : top + b.h ≤ z.h
  pub columns : left + b.w ≤ z.w

-- what the frame has within q of the box's pixel (y, x), the box has: the neighbourhood ends in the box, or is cut by the frame's own edge
pub record Sees (z b : Shape) (top left q y x : ℕ) : Type 0 where
  pub row : y < b.h
  pub column : x < b.w
  pub up : top ≤ top + y - q
  pub down : min z.h (top + y + q + 1) ≤ top + b.h
  pub west : left ≤ left + x - q
  pub east : min z.w (left + x + q + 1) ≤ left + b.w

-- each pixel of the frame at which the test holds is a pixel of the box that sees as far as q
pub record Covers (z b : Shape) (top left q : ℕ) (t : ℕ → ℕ → Bool) : Type 0 where
  pub row : (v u : ℕ) → v < z.h → u < z.w → t v u ≡ true → top ≤ v
  pub column : (v u : ℕ) → v < z.h → u < z.w → t v u ≡ true → left ≤ u
  pub sees : (v u : ℕ) → v < z.h → u < z.w → t v u ≡ true → Sees z b top left q (v - top) (u - left)
