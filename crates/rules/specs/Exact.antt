-- The method of document 001 in exact arithmetic: what the whole numbers of document 01 stand for. The equations bear the paper's numbers. Units are
-- document 01's: I is the guide, 0..765, so the paper's ε is E/765²; t is in ten-thousandths. At the frame's edge a window has fewer pixels, and
-- their number stands for the paper's r². How far the whole numbers are from these: proofs/WholeNumbers. Assumes nothing.
use Rattle.std.specs.Prelude.{ℕ, max}
use mathlib.Core.List.{List, foldr}
use Rattle.rules.specs.Shape.{Shape}
use Rattle.rules.specs.declared.Settings.{Settings}
use Rattle.rules.specs.declared.Rgb.{Rgb}
use Rattle.rules.specs.Window.{Plane, Shown, alike, window}
use Rattle.rules.specs.Light.{guide}
use Rattle.rules.specs.Transmission.{Sample, sample}
use Rattle.rules.specs.Setup.{Setup, shape}
use Rattle.rules.specs.Buffers.{pixels, shown_by, channel, values}
use Rattle.rules.specs.Fraction.{Fraction, whole, ◌+ᶠ◌, ◌-ᶠ◌, ◌*ᶠ◌, ◌/ᶠ◌, smaller, heldᶠ, mean, part}

-- ---- equation 14: coarse transmission. A ratio is at most 1, as in document 01

unfoldable pub ratioᶠ : ℕ → ℕ → Fraction
ratioᶠ i a = smaller (whole i /ᶠ whole a) (whole 1)

unfoldable pub least_ratioᶠ : Rgb → Rgb → Fraction
least_ratioᶠ a i = smaller (ratioᶠ i.r a.r) (smaller (ratioᶠ i.g a.g) (ratioᶠ i.b a.b))

abbrev pub leastᶠ : List Fraction → Fraction
leastᶠ l = foldr smaller (whole 1) l

-- 1 − ω·d of the least ratio d, in ten-thousandths
abbrev pub coarse_ofᶠ : ℕ → Fraction → Fraction
coarse_ofᶠ omega d = whole 10000 *ᶠ (whole 1 -ᶠ part omega *ᶠ d)

unfoldable pub coarseᶠ : Shape → Settings → Rgb → Plane (Shown Rgb) → Plane Fraction
coarseᶠ z k a f y x = coarse_ofᶠ k.omega (leastᶠ (window z k.s (λ v u. alike (least_ratioᶠ a) (f v u)) y x))

-- ---- the guided filter, over the whole coarse values: I and t of a pixel, mean μ and variance σ² of I in a window

abbrev pub I : Sample → Fraction
I i = whole i.g

abbrev pub t : Sample → Fraction
t i = whole i.t

abbrev pub μ : List Sample → Fraction
μ l = mean I l

abbrev pub σ² : List Sample → Fraction
σ² l = mean (λ i. I i *ᶠ I i) l -ᶠ μ l *ᶠ μ l

-- equation 17
unfoldable pub slopeᶠ : ℕ → List Sample → Fraction
slopeᶠ e l = (mean (λ i. I i *ᶠ t i) l -ᶠ μ l *ᶠ mean t l) /ᶠ (σ² l +ᶠ whole e)

-- equation 18
unfoldable pub offsetᶠ : ℕ → List Sample → Fraction
offsetᶠ e l = mean t l -ᶠ slopeᶠ e l *ᶠ μ l

pub record Lineᶠ : Type 0 where
  pub a : Fraction
  pub b : Fraction

unfoldable pub lineᶠ : ℕ → List Sample → Lineᶠ
lineᶠ e l = record { a = slopeᶠ e l; b = offsetᶠ e l }

unfoldable pub fitᶠ : Shape → Settings → Rgb → Plane (Shown Rgb) → Plane (Shown Lineᶠ)
fitᶠ z k a f y x = alike (λ i. lineᶠ k.e (window z k.r (sample z k a f) y x)) (f y x)

-- equation 19: the refined value, before it is held
unfoldable pub refineᶠ : ℕ → List Lineᶠ → Fraction
refineᶠ g l = mean (λ i. i.a) l *ᶠ whole g +ᶠ mean (λ i. i.b) l

unfoldable pub refinedᶠ : Shape → Settings → Rgb → Plane (Shown Rgb) → Plane Fraction
refinedᶠ z k a f y x = refineᶠ (guide (f y x).value) (window z k.r (fitᶠ z k a f) y x)

-- ---- equation 20: byte i under light a at transmission t, which is the larger of map entry and t0; before it is held

abbrev pub recoverᶠ : ℕ → ℕ → ℕ → Fraction
recoverᶠ a i t = (whole i -ᶠ whole a) /ᶠ part t +ᶠ whole a

-- ---- equation 4: clean byte j under light a at transmission t

abbrev pub hazeᶠ : ℕ → ℕ → ℕ → Fraction
hazeᶠ a j t = whole j *ᶠ part t +ᶠ whole a *ᶠ (whole 1 -ᶠ part t)

-- ---- what the buffers stand for: an entry of a frame's map at a seen pixel, byte c of a pixel of the picture by frame and map, and of a hazed frame

abbrev pub mapᶠ : Setup → List ℕ → Plane Fraction
mapᶠ p frame y x = heldᶠ 10000 (refinedᶠ (shape p) p.settings p.light (shown_by p frame) y x)

abbrev pub pictureᶠ : Setup → List ℕ → List ℕ → ℕ → Plane Fraction
pictureᶠ p frame map c y x =
    heldᶠ 255 (recoverᶠ (channel c p.light) (channel c (pixels (shape p) frame y x)) (max (values (shape p) map y x) p.settings.t0))

abbrev pub hazedᶠ : Shape → Rgb → List ℕ → List ℕ → ℕ → Plane Fraction
hazedᶠ z a clean map c y x = hazeᶠ (channel c a) (channel c (pixels z clean y x)) (values z map y x)

-- ---- how far the whole numbers are: the figures

-- a map entry: 1 is what its last floor cuts off; 766 and 765 of 1024 are what the floors of slope and offset do under a guide of at most 765
abbrev pub entry_under : Fraction
entry_under = whole 1 +ᶠ whole 766 /ᶠ whole 1024

abbrev pub entry_over : Fraction
entry_over = whole 765 /ᶠ whole 1024

-- a coarse value: 1 is what the floor of ω·d cuts off, ω what that of d does
abbrev pub coarse_over : ℕ → Fraction
coarse_over omega = whole 1 +ᶠ part omega

-- a byte: half a level
abbrev pub half : Fraction
half = whole 1 /ᶠ whole 2
