-- A box in a plane. Assumes nothing.
use Rattle.std.specs.Prelude.{◌≡◌, List, ℕ, ◌+◌, ◌*◌, ◌≤◌, ◌<◌, length}
use Rattle.rules.specs.Shape.{Shape}
use Rattle.rules.specs.declared.Rect.{Rect}
use Rattle.rules.specs.Box.{Fits}
use Rattle.planes.specs.declared.View.{View}

-- the plane, the box, and the box as a rectangle of the plane
abbrev pub whole : View → Shape
whole v = record { w = v.w; h = v.h }

abbrev pub box_of : View → Shape
box_of v = record { w = v.wide; h = v.tall }

abbrev pub rect_of : View → Rect
rect_of v = record { x = v.left; y = v.top; w = v.wide; h = v.tall }

-- the plane is of an accepted size, and the box has a pixel and lies in it
pub record InPlane (v : View) : Type 0 where
  pub short : v.w ≤ 1024
  pub low : v.h ≤ 1024
  pub area : v.w * v.h ≤ 262144
  pub fits : Fits (whole v) (box_of v) v.top v.left
  pub across : 0 < v.wide
  pub down : 0 < v.tall

-- the plane of v is the box b of a frame, and the mask is the frame's
pub record Framed (b v : View) (mask : List ℕ) : Type 0 where
  pub box : InPlane b
  pub wide : b.wide ≡ v.w
  pub tall : b.tall ≡ v.h
  pub bytes : length mask ≡ b.w * b.h

-- the place in the plane of the first pixel of the box's row y
abbrev pub row_start : View → ℕ → ℕ
row_start v y = (v.top + y) * v.w + v.left
