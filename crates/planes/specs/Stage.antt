-- What the pipeline over a box is given, and what stands in the work area between its passes. First come two planes of the box with what the filter
-- reads of each pixel, then two planes of the part of the box that has lines: slopes and offsets. Assumes nothing.
use Rattle.std.specs.Prelude.{◌≡◌, Bool, true, not, cond, List, ℕ, ◌+◌, ◌*◌, ◌≤◌, ◌<◌, eqb, length, get_or, ℤ, pos, nat_abs}
use Rattle.rules.specs.Shape.{Shape}
use Rattle.rules.specs.declared.Settings.{Settings}
use Rattle.rules.specs.declared.Rgb.{Rgb}
use Rattle.rules.specs.Window.{Plane, Shown}
use Rattle.rules.specs.Transmission.{Sample, Line}
use Rattle.rules.specs.Buffers.{pixel_at, seen_in, masked}
use Rattle.rules.specs.Box.{part, Fits}
use Rattle.rules.specs.Good.{GoodSize, GoodSettings, GoodLight}
use Rattle.planes.specs.declared.View.{View}
use Rattle.planes.specs.View.{whole, box_of}
use Rattle.planes.specs.Cells.{cells}

-- a frame z and its mask of their lengths, size, settings and light that are not refused, and a box b of at least one pixel in it
pub record Given (z b : Shape) (top left : ℕ) (k : Settings) (a : Rgb) (mask frame : List ℕ) : Type 0 where
  pub size : GoodSize z
  pub settings : GoodSettings k
  pub light : GoodLight a
  pub shown : length mask ≡ z.w * z.h
  pub bytes : length frame ≡ 3 * (z.w * z.h)
  pub fits : Fits z b top left
  pub across : 0 < b.w
  pub down : 0 < b.h

-- the same of a view
abbrev pub GivenView : View → Settings → Rgb → List ℕ → List ℕ → Type 0
GivenView v k a mask frame = Given (whole v) (box_of v) v.top v.left k a mask frame

-- the byte at position p of the mask shows its pixel, and the frame's pixel there
abbrev pub seen_at : List ℕ → ℕ → Bool
seen_at mask p = not (eqb (get_or mask p 0) 0)

abbrev pub masked_at : List ℕ → List ℕ → ℕ → Shown Rgb
masked_at mask frame p = record { seen = seen_at mask p; value = pixel_at frame p }

-- which of the box's pixels the frame's mask shows, and the box's pixels
abbrev pub box_seen : View → List ℕ → Plane Bool
box_seen v mask = part v.top v.left (seen_in (whole v) mask)

abbrev pub box_pixels : View → List ℕ → List ℕ → Plane (Shown Rgb)
box_pixels v mask frame = part v.top v.left (masked (whole v) mask frame)

-- ---- samples: four terms in two words. A window has at most 121 by 121 pixels, so guides add up to less than 2^24 and coarse values to less
-- than 2^28, and the terms above them to less than 2^39: of a sum of words, each half is the sum of its terms

-- the guide, and its product with the coarse value
abbrev pub product_word : Sample → ℕ
product_word i = i.g + 16777216 * (i.g * i.t)

-- the coarse value, and the guide squared
abbrev pub square_word : Sample → ℕ
square_word i = i.t + 268435456 * (i.g * i.g)

-- a word of a sample, 0 of a hidden one: it adds nothing to a sum
abbrev pub word_of : (Sample → ℕ) → Shown Sample → ℕ
word_of word i = cond i.seen (word i.value) 0

-- the samples S of w by h pixels, of which M says which are seen, in two planes
pub record Sampled (l : List ℤ) (w h : ℕ) (M : Plane Bool) (S : Plane (Shown Sample)) : Type 0 where
  pub room : 2 * (w * h) ≤ length l
  pub seen : (y x : ℕ) → y < h → x < w → (S y x).seen ≡ M y x
  pub g_le : (y x : ℕ) → y < h → x < w → (S y x).value.g ≤ 765
  pub t_le : (y x : ℕ) → y < h → x < w → (S y x).value.t ≤ 10000
  pub products : (y x : ℕ) → y < h → x < w → cells l 0 w y x ≡ pos (word_of product_word (S y x))
  pub squares : (y x : ℕ) → y < h → x < w → cells l (w * h) w y x ≡ pos (word_of square_word (S y x))

-- some samples
pub record Sampling (l : List ℤ) (w h : ℕ) (M : Plane Bool) : Type 0 where
  pub S : Plane (Shown Sample)
  pub sampled : Sampled l w h M S

-- ---- lines

-- a number of a line, 0 of a hidden one
abbrev pub term_of : (Line → ℤ) → Shown Line → ℤ
term_of term i = cond i.seen (term i.value) (pos 0)

-- the lines F of w by h pixels, of which M says which are seen, in two planes from base on
pub record Lined (l : List ℤ) (base w h : ℕ) (M : Plane Bool) (F : Plane (Shown Line)) : Type 0 where
  pub room : base + 2 * (w * h) ≤ length l
  pub seen : (y x : ℕ) → y < h → x < w → (F y x).seen ≡ M y x
  pub a_le : (y x : ℕ) → y < h → x < w → (F y x).seen ≡ true → nat_abs (F y x).value.a ≤ 2560000
  pub b_le : (y x : ℕ) → y < h → x < w → (F y x).seen ≡ true → nat_abs (F y x).value.b ≤ 2147483648
  pub slopes : (y x : ℕ) → y < h → x < w → cells l base w y x ≡ term_of (λ i. i.a) (F y x)
  pub offsets : (y x : ℕ) → y < h → x < w → cells l (base + w * h) w y x ≡ term_of (λ i. i.b) (F y x)

-- some lines
pub record Lining (l : List ℤ) (base w h : ℕ) (M : Plane Bool) : Type 0 where
  pub F : Plane (Shown Line)
  pub lined : Lined l base w h M F
