-- From transmission to picture, and back: one channel, one pixel, the cleared frame, the band figure. Assumes nothing.
use Rattle.std.specs.Prelude.{ℕ, suc, ◌+◌, ◌-◌, ◌*◌, ◌/◌, max, List, length, take, drop, ℤ, pos, negsuc, neg_ℤ, ◌+ℤ◌, ◌-ℤ◌, ◌*ℤ◌, Float}
use Rattle.std.specs.Float.{binary64}
use Rattle.std.specs.Float.Ieee.{div, of_int}
use Rattle.rules.specs.Shape.{Shape}
use Rattle.rules.specs.declared.Settings.{Settings}
use Rattle.rules.specs.declared.Rgb.{Rgb}
use Rattle.rules.specs.declared.Figure.{Figure}
use Rattle.rules.specs.Window.{Plane, Shown, least, total}
use Rattle.rules.specs.Transmission.{held, map_entry}

-- ---- Clear: byte i under light a at transmission t

-- the whole number nearest to n / t, halves up
abbrev pub rounded : ℕ → ℕ → ℕ
rounded n t = (2 * n + t) / (2 * t)

-- the whole number nearest to p / t, halves away from zero (proofs/Nearest)
abbrev pub nearest : ℤ → ℕ → ℤ
nearest (pos n) t = pos (rounded n t)
nearest (negsuc n) t = neg_ℤ (pos (rounded (suc n) t))

unfoldable pub recover : ℕ → ℕ → ℕ → ℕ
recover a i t = held 255 (pos a +ℤ nearest ((pos i -ℤ pos a) *ℤ pos 10000) t)

unfoldable pub recover3 : Rgb → Rgb → ℕ → Rgb
recover3 a i t = record { r = recover a.r i.r t; g = recover a.g i.g t; b = recover a.b i.b t }

-- the cleared pixel: T is the larger of map entry and t0. At a hidden pixel T is 10,000, and that is the pixel itself (proofs/HiddenPixels)
unfoldable pub cleared : Shape → Settings → Rgb → Plane (Shown Rgb) → Plane Rgb
cleared z k a f y x = recover3 a (f y x).value (max (map_entry z k a f y x) k.t0)

-- ---- Haze: clean byte j under light a at transmission t

abbrev pub haze : ℕ → ℕ → ℕ → ℕ
haze a j t = (j * t + a * (10000 - t) + 5000) / 10000

unfoldable pub haze3 : Rgb → Rgb → ℕ → Rgb
haze3 a j t = record { r = haze a.r j.r t; g = haze a.g j.g t; b = haze a.b j.b t }

-- ---- Band figure

-- two whole numbers, each turned into a double, and divided once
unfoldable pub quotient : ℕ → ℕ → Float
quotient n d = div binary64 (of_int binary64 (pos n)) (of_int binary64 (pos d))

-- the entries of the rows start..end of a map, the last row left out
abbrev pub band : Shape → List ℕ → ℕ → ℕ → List ℕ
band z map start end = take ((end - start) * z.w) (drop (start * z.w) map)

abbrev pub figure_of : List ℕ → Figure
figure_of l = record { mean = quotient (total (λ t. t) l) (10000 * length l); least = quotient (least 10000 l) 10000 }

unfoldable pub figure : Shape → List ℕ → ℕ → ℕ → Figure
figure z map start end = figure_of (band z map start end)
