-- From light to transmission, step by step. z is the frame's shape, k the settings, a the light, f the frame as a plane of pixels, seen or hidden. Assumes nothing.
use Rattle.std.specs.Prelude.{ℕ, ◌+◌, ◌-◌, ◌*◌, ◌/◌, min, List, cond, length, ℤ, pos, negsuc, ◌+ℤ◌, ◌-ℤ◌, ◌*ℤ◌}
use Rattle.std.specs.Int.Signed.{shr_z}
use Rattle.rules.specs.Shape.{Shape}
use Rattle.rules.specs.declared.Settings.{Settings}
use Rattle.rules.specs.declared.Rgb.{Rgb}
use Rattle.rules.specs.Window.{Plane, Shown, alike, window, least, total, total_z}
use Rattle.rules.specs.Light.{guide}

-- ---- 1. ratio of a byte i under light a, and the least over the channels

abbrev pub ratio : ℕ → ℕ → ℕ
ratio i a = min (10000 * i / a) 10000

abbrev pub least_ratio : Rgb → Rgb → ℕ
least_ratio a i = min (ratio i.r a.r) (min (ratio i.g a.g) (ratio i.b a.b))

-- ---- 2. coarse transmission, from d, the least ratio over the window of radius s

abbrev pub coarse_of : ℕ → ℕ → ℕ
coarse_of omega d = 10000 - omega * d / 10000

unfoldable pub coarse : Shape → Settings → Rgb → Plane (Shown Rgb) → Plane ℕ
coarse z k a f y x = coarse_of k.omega (least 10000 (window z k.s (λ v u. alike (least_ratio a) (f v u)) y x))

-- ---- 3. guide g: R+G+B. What the filter reads of a pixel is guide and coarse value

pub record Sample : Type 0 where
  pub g : ℕ
  pub t : ℕ

unfoldable pub sample : Shape → Settings → Rgb → Plane (Shown Rgb) → Plane (Shown Sample)
sample z k a f y x = alike (λ i. record { g = guide i; t = coarse z k a f y x }) (f y x)

-- ---- 4. the four sums over a window, and P and Q of n and the sums

abbrev pub Sg : List Sample → ℕ
Sg = total (λ i. i.g)

abbrev pub St : List Sample → ℕ
St = total (λ i. i.t)

abbrev pub Sgg : List Sample → ℕ
Sgg = total (λ i. i.g * i.g)

abbrev pub Sgt : List Sample → ℕ
Sgt = total (λ i. i.g * i.t)

abbrev pub P : ℕ → ℕ → ℕ → ℕ → ℤ
P n sg st sgt = pos (n * sgt) -ℤ pos (sg * st)

-- the difference is never cut off, and Q is above 0 (proofs/Spread)
abbrev pub Q : ℕ → ℕ → ℕ → ℕ → ℕ
Q n sg sgg e = n * sgg - sg * sg + n * n * e

-- ---- 5. slope and offset, rounded down (shr_z is the quotient toward minus infinity)

abbrev pub slope_of : ℕ → ℕ → ℕ → ℕ → ℕ → ℕ → ℤ
slope_of n sg st sgg sgt e = shr_z (pos 1024 *ℤ P n sg st sgt) (Q n sg sgg e)

abbrev pub offset_of : ℕ → ℕ → ℕ → ℤ → ℤ
offset_of n sg st a = shr_z (pos (1024 * st) -ℤ a *ℤ pos sg) n

abbrev pub slope : ℕ → List Sample → ℤ
slope e l = slope_of (length l) (Sg l) (St l) (Sgg l) (Sgt l) e

abbrev pub offset : ℕ → List Sample → ℤ
offset e l = offset_of (length l) (Sg l) (St l) (slope e l)

pub record Line : Type 0 where
  pub a : ℤ
  pub b : ℤ

unfoldable pub line : ℕ → List Sample → Line
line e l = record { a = slope e l; b = offset e l }

unfoldable pub fit : Shape → Settings → Rgb → Plane (Shown Rgb) → Plane (Shown Line)
fit z k a f y x = alike (λ i. line k.e (window z k.r (sample z k a f) y x)) (f y x)

-- ---- 6. refined value, from n, the sums of slopes and of offsets, and g at the pixel itself

abbrev pub held : ℕ → ℤ → ℕ
held top (pos n) = min n top
held top (negsuc n) = 0

abbrev pub refine_of : ℕ → ℤ → ℤ → ℕ → ℕ
refine_of n sa sb g = held 10000 (shr_z (sa *ℤ pos g +ℤ sb) (1024 * n))

unfoldable pub refine : ℕ → List Line → ℕ
refine g l = refine_of (length l) (total_z (λ i. i.a) l) (total_z (λ i. i.b) l) g

unfoldable pub refined : Shape → Settings → Rgb → Plane (Shown Rgb) → Plane ℕ
refined z k a f y x = refine (guide (f y x).value) (window z k.r (fit z k a f) y x)

-- the map entry: the refined value, and 10,000 at a hidden pixel
unfoldable pub map_entry : Shape → Settings → Rgb → Plane (Shown Rgb) → Plane ℕ
map_entry z k a f y x = cond (f y x).seen (refined z k a f y x) 10000
