-- The bounds are near: frames that come within 0.03 of those of a map entry, within 0.005 of that of a coarse value, and meet half a level.
-- And case P3 in exact arithmetic. All by computing. Assumes nothing.
use Prim.Native.Nat.{ℕ, zero, suc}
use Rattle.rules.specs.Shape.{Shape}
use Rattle.rules.specs.declared.Settings.{Settings}
use Rattle.rules.specs.declared.Rgb.{Rgb}
use Rattle.rules.specs.Window.{Plane, Shown, plain, square, window}
use Rattle.rules.specs.Transmission.{coarse, sample, line, fit, refine, refined}
use Rattle.rules.specs.Picture.{recover, haze}
use Rattle.rules.specs.Fraction.{Fraction, whole, ◌+ᶠ◌, ◌-ᶠ◌, ◌*ᶠ◌, turned, ◌/ᶠ◌, ◌<ᶠ◌, ◌≤ᶠ◌, smaller, larger, heldᶠ}
use Rattle.rules.specs.Exact.{ratioᶠ, least_ratioᶠ, coarseᶠ, slopeᶠ, offsetᶠ, lineᶠ, fitᶠ, refineᶠ, refinedᶠ, recoverᶠ, hazeᶠ, half}

abbrev grey : ℕ → Rgb
grey n = record { r = n; g = n; b = n }

-- the first pixel is i and each other j, and all are seen
abbrev pixel : Rgb → Rgb → Plane Rgb
pixel i j zero zero = i
pixel i j zero (suc x) = j
pixel i j (suc y) x = j

abbrev lone : Rgb → Rgb → Plane (Shown Rgb)
lone i j = plain (pixel i j)

abbrev sized : ℕ → ℕ → Shape
sized w h = record { w = w; h = h }

-- the regularisation as the paper has it, and windows of one pixel before the filter
abbrev set : ℕ → Settings
set omega = record { s = 0; r = 5; omega = omega; e = 59; t0 = 1000; share = 1 }

-- ---- the first entry of a frame of 6 by 6, which every window has whole

abbrev first : Rgb → Rgb → ℕ
first i j = refined (sized 6 6) (set 9326) (grey 200) (lone i j) 0 0

abbrev firstᶠ : Rgb → Rgb → Fraction
firstᶠ i j = heldᶠ 10000 (refinedᶠ (sized 6 6) (set 9326) (grey 200) (lone i j) 0 0)

-- one white pixel among black ones: more than 1.721 too low
pub met_low : whole (first (grey 255) (grey 0)) +ᶠ whole 1721 /ᶠ whole 1000 <ᶠ firstᶠ (grey 255) (grey 0)
unfolding whole ◌+ᶠ◌ ◌-ᶠ◌ ◌*ᶠ◌ turned ◌/ᶠ◌ smaller larger slopeᶠ offsetᶠ lineᶠ refineᶠ fitᶠ refinedᶠ window square coarse sample line fit refine refined
met_low = record { lt = tt }

-- one black pixel among white ones: more than 0.721 too high
pub met_high : firstᶠ (grey 0) (grey 255) +ᶠ whole 721 /ᶠ whole 1000 <ᶠ whole (first (grey 0) (grey 255))
unfolding whole ◌+ᶠ◌ ◌-ᶠ◌ ◌*ᶠ◌ turned ◌/ᶠ◌ smaller larger slopeᶠ offsetᶠ lineᶠ refineᶠ fitᶠ refinedᶠ window square coarse sample line fit refine refined
met_high = record { lt = tt }

-- ---- coarse value and bytes

-- a byte 212 under light 247: more than 1.914 too high, of at most 1.9189
pub met_coarse : coarseᶠ (sized 1 1) (set 9189) (grey 247) (lone (grey 212) (grey 0)) 0 0 +ᶠ whole 1914 /ᶠ whole 1000 <ᶠ whole (coarse (sized 1 1) (set 9189) (grey 247) (lone (grey 212) (grey 0)) 0 0)
unfolding whole ◌+ᶠ◌ ◌-ᶠ◌ ◌*ᶠ◌ turned ◌/ᶠ◌ smaller ratioᶠ least_ratioᶠ coarseᶠ window square coarse
met_coarse = record { lt = tt }

-- 3½ becomes 4, and 1½ becomes 2
pub met_recover : recoverᶠ 1 2 4000 +ᶠ half ≤ᶠ whole (recover 1 2 4000)
unfolding whole ◌+ᶠ◌ ◌-ᶠ◌ ◌*ᶠ◌ turned ◌/ᶠ◌ recover
met_recover = record { le = tt }

pub met_haze : hazeᶠ 1 2 5000 +ᶠ half ≤ᶠ whole (haze 1 2 5000)
unfolding whole ◌+ᶠ◌ ◌-ᶠ◌ ◌*ᶠ◌ turned ◌/ᶠ◌
met_haze = record { le = tt }

-- ---- case P3: the entry 519 is 3782125/7284, which is 519 and 1729/7284

abbrev P3 : Fraction
P3 = refinedᶠ (sized 2 1) (set 9500) (grey 200) (lone (grey 200) (record { r = 100; g = 150; b = 180 })) 0 0

pub exact_P3 : (whole 3782125 /ᶠ whole 7284 ≤ᶠ P3) × (P3 ≤ᶠ whole 3782125 /ᶠ whole 7284)
unfolding whole ◌+ᶠ◌ ◌-ᶠ◌ ◌*ᶠ◌ turned ◌/ᶠ◌ slopeᶠ offsetᶠ lineᶠ refineᶠ fitᶠ refinedᶠ window square coarse sample
exact_P3 = (record { le = tt }, record { le = tt })
