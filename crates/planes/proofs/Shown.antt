-- What is known of a box in a frame: how large it is, and where its pixels stand. Assumes nothing.
use mathlib.Core.Path.{◌≡◌, ap}
use mathlib.Core.List.{List}
use Prim.Native.Nat.{ℕ, ◌+◌, ◌*◌, ◌≤◌, ◌<◌}
use native.Mathlib.Nat.{mul-le-mul, mul-le-mul_right}
use native.Mathlib.Omega.{arith}
use lib.ListN.{get_or}
use Rattle.rules.specs.declared.Settings.{Settings}
use Rattle.rules.specs.declared.Rgb.{Rgb}
use Rattle.rules.specs.Light.{guide}
use Rattle.rules.specs.Buffers.{pixels, seen_in, masked}
use Rattle.planes.specs.declared.View.{View}
use Rattle.planes.specs.View.{InPlane, row_start}
use Rattle.planes.specs.Stage.{GivenView, seen_at, masked_at, box_seen, box_pixels}

-- a box that is given lies in its frame
module _ {v : View} {k : Settings} {a : Rgb} {mask frame : List ℕ} where
  pub given_in : GivenView v k a mask frame → InPlane v
  given_in g = record { short = g.size.wide; low = g.size.tall; area = g.size.area; fits = g.fits; across = g.across; down = g.down }

-- row y of w by h pixels ends among them
pub row_end : (w h y : ℕ) → y < h → y * w + w ≤ w * h
row_end w h y l = let m : (y + 1) * w ≤ h * w = mul-le-mul_right w (omega arith) in omega arith

-- a box is no wider than an accepted plane
pub box_short : {v : View} → InPlane v → v.wide ≤ 1024
box_short i = omega (arith, i.short, i.fits.columns)

module _ (v : View) where
  -- the box is no larger than its plane
  pub box_area : InPlane v → v.wide * v.tall ≤ 262144
  box_area i =
      let m : v.wide * v.tall ≤ v.w * v.h = mul-le-mul (omega (arith, i.fits.columns)) (omega (arith, i.fits.rows)) in
      omega (arith, i.area)

  -- row y of the box ends in the plane
  pub row_inside : (y : ℕ) → InPlane v → y < v.tall → row_start v y + v.wide ≤ v.w * v.h
  row_inside y i hy = omega (arith, row_end v.w v.h (v.top + y) (omega (arith, i.fits.rows)), i.fits.columns)

  place : (y x : ℕ) → row_start v y + x ≡ (v.top + y) * v.w + (v.left + x)
  place y x = omega arith

  -- the pixel (y, x) of the box, whether it is seen, and its bytes
  pub seen_at_lem : (mask : List ℕ) (y x : ℕ) → seen_at mask (row_start v y + x) ≡ box_seen v mask y x
  unfolding seen_in
  seen_at_lem mask y x = ap (seen_at mask) (place y x)

  pub shown_at : (mask frame : List ℕ) (y x : ℕ) → masked_at mask frame (row_start v y + x) ≡ box_pixels v mask frame y x
  unfolding masked seen_in pixels
  shown_at mask frame y x = ap (masked_at mask frame) (place y x)

  -- has a guide of at most 765
  pub shown_guide : (mask frame : List ℕ) → ((i : ℕ) → get_or frame i 0 ≤ 255) → (y x : ℕ) → guide (box_pixels v mask frame y x).value ≤ 765
  unfolding masked pixels
  shown_guide mask frame byte y x =
      let p = (v.top + y) * v.w + (v.left + x) in
      omega (arith, byte (3 * p), byte (3 * p + 1), byte (3 * p + 2))
