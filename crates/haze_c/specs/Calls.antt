-- What the exported functions for frames promise, as instances of the one promise. Assumes nothing.
use Rattle.std.specs.Prelude.{ℕ, List, length, ℤ}
use Rattle.rules.specs.declared.Size.{Size}
use Rattle.rules.specs.declared.Settings.{Settings}
use Rattle.rules.specs.declared.Rgb.{Rgb}
use Rattle.rules.specs.declared.Rect.{Rect}
use Rattle.rules.specs.declared.Figure.{Figure}
use Rattle.rules.specs.declared.Finding.{Finding}
use Rattle.rules.specs.Shape.{described}
use Rattle.rules.specs.Picture.{figure}
use Rattle.rules.specs.Setup.{Setup}
use Rattle.rules.specs.Count.{clear_comparisons, replace_comparisons}
use Rattle.rules.specs.Buffers.{hazed}
use Rattle.rules.specs.Refusals.{refuse_haze, refuse_band}
use Rattle.rules.specs.Promise.{wiped, finding, Lent, no_light, no_clear, no_replace, after_clear, after_replace}
use Rattle.boundary.specs.Returns.{Returns}

-- what Light may write: the work area and the places of what it finds
pub record LightPlaces : Type 0 where
  pub work : List ℤ
  pub found : Finding

abbrev pub light_places : List ℤ → Finding → LightPlaces
light_places work f = record { work = work; found = f }

abbrev pub LightReturns : Size → Settings → List ℕ → List ℕ → LightPlaces → ℕ → LightPlaces → Type 0
LightReturns z k mask frame p =
    Returns
    (no_light z k mask frame p.work)
    (light_places (wiped (described z) p.work) (finding z k mask frame))
    p

-- what Clear and Replace may write: the buffers and the place of the comparisons
pub record FramePlaces : Type 0 where
  pub lent : Lent
  pub comparisons : ℕ

abbrev pub frame_places : Lent → ℕ → FramePlaces
frame_places l count = record { lent = l; comparisons = count }

abbrev pub ClearReturns : Setup → FramePlaces → ℕ → FramePlaces → Type 0
ClearReturns p l = Returns (no_clear p l.lent) (frame_places (after_clear p l.lent) (clear_comparisons p)) l

abbrev pub ReplaceReturns : Setup → Rect → List ℕ → FramePlaces → ℕ → FramePlaces → Type 0
ReplaceReturns p c new l = Returns (no_replace p c new l.lent) (frame_places (after_replace p c new l.lent) (replace_comparisons p c)) l

abbrev pub AddReturns : Size → Rgb → List ℕ → List ℕ → List ℕ → ℕ → List ℕ → Type 0
AddReturns z a clean map hazy = Returns (refuse_haze z a (length clean) map (length hazy)) (hazed (described z) a clean map) hazy

abbrev pub BandReturns : Size → List ℕ → ℕ → ℕ → Figure → ℕ → Figure → Type 0
BandReturns z map start end f = Returns (refuse_band z map start end) (figure (described z) map start end) f
