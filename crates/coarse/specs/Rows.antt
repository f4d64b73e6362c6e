-- The rows of the first pass: the scales of a light, least ratios and their minima along a row, and samples in the work area. Assumes nothing.
use Rattle.std.specs.Prelude.{◌≡◌, cond, List, ℕ, ◌+◌, ◌*◌, ◌≤◌, ◌<◌, min, get_or, ℤ, pos}
use Rattle.rules.specs.declared.Rgb.{Rgb}
use Rattle.rules.specs.Window.{Plane, Shown, alike}
use Rattle.rules.specs.Light.{guide}
use Rattle.rules.specs.Transmission.{Sample, least_ratio, coarse_of}
use Rattle.planes.specs.declared.View.{View}
use Rattle.planes.specs.Cells.{cells, SameFrom}
use Rattle.planes.specs.Stage.{box_pixels, word_of, product_word, square_word}
use Rattle.pixel.specs.Over.{Over}
use Rattle.windows.specs.Span.{windowed}

-- the entry at a is the scale of the light a
abbrev pub Scaled : List ℕ → ℕ → Type 0
Scaled l a = Over 10000 a 65536 (get_or l a 0)

-- what goes into the minimum: the least ratio of a pixel, 10,000 of a hidden one
abbrev pub ratio_at : Rgb → Shown Rgb → ℕ
ratio_at a i = cond i.seen (least_ratio a i.value) 10000

-- these of the box's pixels, each the least over its window of radius s along the row
abbrev pub least_along : View → Rgb → ℕ → List ℕ → List ℕ → Plane ℕ
least_along v a s mask frame y x = windowed min (λ u. ratio_at a (box_pixels v mask frame y u)) s v.wide x

-- the sample of a pixel, from the least ratio d of its window
abbrev pub sample_of : ℕ → Shown Rgb → ℕ → Shown Sample
sample_of omega i d = alike (λ j. record { g = guide j; t = coarse_of omega d }) i

-- m is l but for the words of the first n samples of S, from `to` and from `two` on
pub record SamplesPut (l m : List ℤ) (to two : ℕ) (S : ℕ → Shown Sample) (n : ℕ) : Type 0 where
  pub products : (x : ℕ) → x < n → get_or m (to + x) (pos 0) ≡ pos (word_of product_word (S x))
  pub squares : (x : ℕ) → x < n → get_or m (two + x) (pos 0) ≡ pos (word_of square_word (S x))
  pub kept : (i : ℕ) → (to ≤ i → i < to + n → ⊥) → (two ≤ i → i < two + n → ⊥) → get_or m i (pos 0) ≡ get_or l i (pos 0)

-- m has the words of the first n rows of the samples S of w by h pixels, and is l past the two planes
pub record SampledTo (l m : List ℤ) (w h : ℕ) (S : Plane (Shown Sample)) (n : ℕ) : Type 0 where
  pub products : (y x : ℕ) → y < n → x < w → cells m 0 w y x ≡ pos (word_of product_word (S y x))
  pub squares : (y x : ℕ) → y < n → x < w → cells m (w * h) w y x ≡ pos (word_of square_word (S y x))
  pub rest : SameFrom l m (2 * (w * h))
