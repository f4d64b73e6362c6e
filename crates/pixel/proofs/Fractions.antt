-- Of two fractions the smaller has the smaller ratio, rounded down and capped as ratios are; and the scale of the light gives the ratio. Assumes nothing.
use mathlib.Core.Path.{◌≡◌, refl, ap, ◌∙◌}
use mathlib.Core.Bool.{Bool, true, false, cond}
use Prim.Native.Nat.{ℕ, ◌*◌, ◌/◌, ◌≤◌, ◌<◌, min}
use native.Mathlib.Nat.{mul-le-mul, mul-le-mul_left, le_of_mul-le-mul_left}
use native.Mathlib.Omega.{arith}
use Rattle.rules.specs.Transmission.{ratio}
use Rattle.rules.proofs.Quotients.{ratio_is}
use Rattle.pixel.specs.Over.{Under}
use Rattle.pixel.proofs.Sizes.{cut_first}
use Rattle.pixel.proofs.Scaled.{over_whole}

-- where i / a is at most j / b
pub ratio_le : (i a j b : ℕ) → 0 < a → 0 < b → i * b ≤ j * a → ratio i a ≤ ratio j b
ratio_le i a j b ha hb h =
    let q = ratio_is i a ha in
    let m : ratio i a * b ≤ 10000 * j = le_of_mul-le-mul_left {k = a} (omega (arith, mul-le-mul_left b q.most)) ha in
    (ratio_is j b hb).greatest (ratio i a) q.cap m

-- t takes the second of i / a and j / b where that is no larger, else the first
pub smaller_is :
    (t : Bool) (i a k j b m : ℕ) → Under i a k → Under j b m → (t ≡ true → j * a ≤ i * b) → (t ≡ false → i * b ≤ j * a)
    → Under (cond t j i) (cond t b a) (cond t m k) × (ratio (cond t j i) (cond t b a) ≡ min (ratio i a) (ratio j b))
smaller_is true i a k j b m x y second first = (y, omega (arith, ratio_le j b i a y.some x.some (second refl)))
smaller_is false i a k j b m x y second first = (x, omega (arith, ratio_le i a j b x.some y.some (first refl)))

-- ---- the ratio by the scale of the light: a byte above the light is as the light, which is the cap

module _ (i a k : ℕ) (u : Under i a k) where
  pub ratio_scaled : min i a * k / 65536 ≡ ratio i a
  ratio_scaled =
      let low : min i a ≤ 255 = omega (arith, u.byte) in
      let cap : min i a * 10000 ≡ min (10000 * i) (10000 * a) = omega arith in
      over_whole 10000 a 65536 k (min i a) u.some u.scale (omega (arith, mul-le-mul low u.light))
      ∙ ap (λ (x : ℕ). x / a) cap
      ∙ cut_first 10000 a (10000 * i) u.some
