-- Frames and maps as buffers: what a list of bytes or entries shows as a plane, and the list that a plane is written to.
-- Then what Haze, Clear and Replace leave in them. Assumes nothing.
use Rattle.std.specs.Prelude.{ℕ, zero, suc, ◌+◌, ◌-◌, ◌*◌, ◌/◌, ◌%◌, List, Bool, not, cond, ◌&&◌, get_or, ltb, leb, eqb}
use Rattle.rules.specs.Shape.{Shape}
use Rattle.rules.specs.declared.Settings.{Settings}
use Rattle.rules.specs.declared.Rgb.{Rgb}
use Rattle.rules.specs.declared.Rect.{Rect}
use Rattle.rules.specs.Window.{Plane, Shown, from}
use Rattle.rules.specs.Light.{at}
use Rattle.rules.specs.Transmission.{map_entry}
use Rattle.rules.specs.Picture.{cleared, haze3}
use Rattle.rules.specs.Setup.{Setup, shape}

-- ---- a frame: row after row from the top, each pixel R, G, B

-- the pixel at position p
abbrev pub pixel_at : List ℕ → ℕ → Rgb
pixel_at l p = record { r = get_or l (3 * p) 0; g = get_or l (3 * p + 1) 0; b = get_or l (3 * p + 2) 0 }

unfoldable pub pixels : Shape → List ℕ → Plane Rgb
pixels z l y x = pixel_at l (y * z.w + x)

-- ---- a mask: one byte a pixel, in row order; 0 hides it

unfoldable pub seen_in : Shape → List ℕ → Plane Bool
seen_in z mask y x = not (eqb (get_or mask (y * z.w + x) 0) 0)

-- the frame's pixels, seen or hidden
unfoldable pub masked : Shape → List ℕ → List ℕ → Plane (Shown Rgb)
masked z mask frame y x = record { seen = seen_in z mask y x; value = pixels z frame y x }

-- ---- and back

abbrev pub channel : ℕ → Rgb → ℕ
channel zero i = i.r
channel (suc zero) i = i.g
channel (suc (suc c)) i = i.b

-- byte q of the frame that a plane is written to
abbrev pub byte_at : Shape → Plane Rgb → ℕ → ℕ
byte_at z f q = channel (q % 3) (at z f (q / 3))

unfoldable pub bytes : Shape → Plane Rgb → List ℕ
bytes z f = from 0 (3 * (z.w * z.h)) (byte_at z f)

-- ---- a map: one entry a pixel, in row order

unfoldable pub values : Shape → List ℕ → Plane ℕ
values z l y x = get_or l (y * z.w + x) 0

unfoldable pub entries : Shape → Plane ℕ → List ℕ
entries z f = from 0 (z.w * z.h) (at z f)

-- ---- Haze

unfoldable pub hazed : Shape → Rgb → List ℕ → List ℕ → List ℕ
hazed z a clean map = bytes z (λ y x. haze3 a (pixels z clean y x) (values z map y x))

-- ---- Clear

-- what a run of calls goes on: the frame, its map and its cleared frame
pub record State : Type 0 where
  pub frame : List ℕ
  pub map : List ℕ
  pub picture : List ℕ

-- a frame's pixels under the setup's mask, and their map and picture
abbrev pub shown_by : Setup → List ℕ → Plane (Shown Rgb)
shown_by p frame = masked (shape p) p.mask frame

abbrev pub map_of : Setup → Plane (Shown Rgb) → Plane ℕ
map_of p = map_entry (shape p) p.settings p.light

abbrev pub picture_of : Setup → Plane (Shown Rgb) → Plane Rgb
picture_of p = cleared (shape p) p.settings p.light

unfoldable pub clear : Setup → List ℕ → State
clear p frame =
    let z = shape p in
    record { frame = frame; map = entries z (map_of p (shown_by p frame)); picture = bytes z (picture_of p (shown_by p frame)) }

-- ---- Replace

-- (y, x) is at most q rows and q columns from the rectangle; with q = 0, it lies in it
unfoldable pub near : ℕ → Rect → ℕ → ℕ → Bool
near q c y x = (leb c.y (y + q) && ltb y (c.y + c.h + q)) && (leb c.x (x + q) && ltb x (c.x + c.w + q))

-- the new values where the test holds, the old ones elsewhere
unfoldable pub patch : {A : Type 0} → (ℕ → ℕ → Bool) → Plane A → Plane A → Plane A
patch t new old y x = cond (t y x) (new y x) (old y x)

-- a map, and a frame, with new values where the test holds
abbrev pub map_with : Shape → (ℕ → ℕ → Bool) → Plane ℕ → List ℕ → List ℕ
map_with z t new old = entries z (patch t new (values z old))

abbrev pub frame_with : Shape → (ℕ → ℕ → Bool) → Plane Rgb → List ℕ → List ℕ
frame_with z t new old = bytes z (patch t new (pixels z old))

-- the rectangle's own pixels, at their places in the frame
unfoldable pub placed : Rect → List ℕ → Plane Rgb
placed c new y x = pixels (record { w = c.w; h = c.h }) new (y - c.y) (x - c.x)

-- the frame with the new pixels
abbrev pub pasted : Shape → Rect → List ℕ → List ℕ → List ℕ
pasted z c new frame = frame_with z (near 0 c) (placed c new) frame

abbrev pub reach : Settings → ℕ
reach k = k.s + 2 * k.r

unfoldable pub replace : Setup → Rect → List ℕ → State → State
replace p c new s =
    let z = shape p in
    let frame = pasted z c new s.frame in
    let f = shown_by p frame in
    let t = near (reach p.settings) c in
    record { frame = frame; map = map_with z t (map_of p f) s.map; picture = frame_with z t (picture_of p f) s.picture }
