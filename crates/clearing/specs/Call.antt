-- What a call that is not refused is lent, and the rectangles that Clear and Replace work on. Assumes nothing.
use Rattle.std.specs.Prelude.{◌≡◌, List, ℕ, ◌+◌, ◌-◌, ◌*◌, ◌≤◌, ◌<◌, length, ℤ}
use Rattle.rules.specs.Shape.{Shape, room}
use Rattle.rules.specs.declared.Settings.{Settings}
use Rattle.rules.specs.declared.Rect.{Rect}
use Rattle.rules.specs.Buffers.{near}
use Rattle.rules.specs.Box.{Covers}
use Rattle.planes.specs.declared.View.{View}

-- map and picture of the frame's size, and a work area that is large enough
pub record Loan (z : Shape) (map picture : List ℕ) (work : List ℤ) : Type 0 where
  pub entries : length map ≡ z.w * z.h
  pub bytes : length picture ≡ 3 * (z.w * z.h)
  pub space : room z ≤ length work

-- the whole frame
abbrev pub whole_rect : Shape → Rect
whole_rect z = record { x = 0; y = 0; w = z.w; h = z.h }

-- a rectangle's shape
abbrev pub shape_of : Rect → Shape
shape_of c = record { w = c.w; h = c.h }

-- a rectangle of at least one pixel lies in another
pub record Inside (outer inner : Rect) : Type 0 where
  pub up : outer.y ≤ inner.y
  pub down : inner.y + inner.h ≤ outer.y + outer.h
  pub west : outer.x ≤ inner.x
  pub east : inner.x + inner.w ≤ outer.x + outer.w
  pub across : 0 < inner.w
  pub tall : 0 < inner.h

-- a rectangle as a box in the frame, and in another
abbrev pub view_of : Shape → Rect → View
view_of z c = record { w = z.w; h = z.h; top = c.y; left = c.x; wide = c.w; tall = c.h }

abbrev pub in_view : Rect → Rect → View
in_view outer inner =
    record { w = outer.w; h = outer.h; top = inner.y - outer.y; left = inner.x - outer.x; wide = inner.w; tall = inner.h }

-- the box f, the rectangle p that has lines, and the rectangle o that is brought up to date: p's pixels see as far in the box as a line looks, and o's as far in p as
-- the filter's second pass looks
pub record Nested (z : Shape) (k : Settings) (f p o : Rect) : Type 0 where
  pub box : Inside (whole_rect z) f
  pub part : Inside f p
  pub rect : Inside p o
  pub lines : Covers z (shape_of f) f.y f.x (k.s + k.r) (near 0 p)
  pub entries : Covers z (shape_of p) p.y p.x k.r (near 0 o)
