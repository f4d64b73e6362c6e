-- What C hands over and gets back, as the values of document 01. The numbers of an array stand in the order of the header's struct. Assumes nothing.
use Rattle.std.specs.Prelude.{ℕ, List, get_or, Float}
use Rattle.rules.specs.declared.Size.{Size}
use Rattle.rules.specs.declared.Settings.{Settings}
use Rattle.rules.specs.declared.Rgb.{Rgb}
use Rattle.rules.specs.declared.Rect.{Rect}
use Rattle.rules.specs.declared.Figure.{Figure}
use Rattle.rules.specs.declared.Finding.{Finding}
use Rattle.rules.specs.declared.Band.{Band}
use Rattle.rules.specs.declared.Band.TheVariants as band
use Rattle.rules.specs.Setup.{Setup, handed}

-- ---- numbers and arrays

abbrev pub size : ℕ → ℕ → Size
size w h = record { w = w; h = h }

abbrev pub settings_in : List ℕ → Settings
settings_in l = record { s = get_or l 0 0; r = get_or l 1 0; omega = get_or l 2 0; e = get_or l 3 0; t0 = get_or l 4 0; share = get_or l 5 0 }

abbrev pub rgb_in : List ℕ → Rgb
rgb_in l = record { r = get_or l 0 0; g = get_or l 1 0; b = get_or l 2 0 }

abbrev pub rect_in : List ℕ → Rect
rect_in l = record { x = get_or l 0 0; y = get_or l 1 0; w = get_or l 2 0; h = get_or l 3 0 }

abbrev pub figure_in : Float → Float → Figure
figure_in mean least = record { mean = mean; least = least }

abbrev pub finding_in : List ℕ → ℕ → Finding
finding_in lights comparisons = record { light = rgb_in lights; comparisons = comparisons }

-- size, settings and light together
abbrev pub setup_in : ℕ → ℕ → List ℕ → List ℕ → List ℕ → Setup
setup_in w h settings lights mask = handed (size w h) (settings_in settings) (rgb_in lights) mask

-- ---- places for results

-- what stands in those of a figure after an answer of Band figure
abbrev pub figure_after : Band → Figure → Figure
figure_after (band.Figure f) old = f
figure_after (band.Refused e) old = old
