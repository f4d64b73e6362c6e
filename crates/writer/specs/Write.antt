-- What the writer writes, and where. Assumes nothing.
use Rattle.std.specs.Prelude.{◌≡◌, ℕ, ◌+◌, ◌-◌, ◌≤◌, ◌<◌, max, cond, List, get_or}
use Rattle.rules.specs.declared.Rgb.{Rgb}
use Rattle.rules.specs.Window.{Plane, Shown, window}
use Rattle.rules.specs.Light.{guide}
use Rattle.rules.specs.Transmission.{Line, refine}
use Rattle.rules.specs.Picture.{recover3}
use Rattle.planes.specs.declared.View.{View}
use Rattle.planes.specs.View.{whole, row_start}

-- the view `to` of a frame, and the view v of its box b, begin at the same pixel of it
pub record Placed (to b v : View) : Type 0 where
  pub w : b.w ≡ to.w
  pub h : b.h ≡ to.h
  pub top : b.top + v.top ≡ to.top
  pub left : b.left + v.left ≡ to.left

-- the map entry of the frame's pixel (y, x), which is a pixel of the view `to`: from the lines F over the window about the same pixel of the view v
abbrev pub entry_over : View → View → ℕ → Plane Rgb → Plane (Shown Line) → Plane ℕ
entry_over to v r f F y x =
    let at = v.top + (y - to.top) in
    let of = v.left + (x - to.left) in
    cond (F at of).seen (refine (guide (f y x)) (window (whole v) r F at of)) 10000

-- the cleared pixel, from the map m and the floor t0
abbrev pub recovered_by : Rgb → ℕ → Plane Rgb → Plane ℕ → Plane Rgb
recovered_by a t0 f m y x = recover3 a (f y x) (max (m y x) t0)

-- the view's entries are transmissions
pub record Entries (to : View) (map : List ℕ) : Type 0 where
  pub most : (y x : ℕ) → y < to.tall → x < to.wide → get_or map (row_start to y + x) 0 ≤ 10000
