-- A scale M of N / d: the quotient in parts of which B make 1, and at most one part more. Assumes nothing.
use Rattle.std.specs.Prelude.{ℕ, ◌+◌, ◌*◌, ◌≤◌, ◌<◌}
use Rattle.rules.specs.declared.Rgb.{Rgb}
use Rattle.pixel.specs.declared.Scales.{Scales}

pub record Over (N d B M : ℕ) : Type 0 where
  pub least : B * N ≤ M * d
  pub most : M * d ≤ B * N + d

-- a reciprocal has 2^46 parts
abbrev pub parts : ℕ
parts = 70368744177664

-- the scales of the three channels of a light
pub record ScaledBy (a : Rgb) (k : Scales) : Type 0 where
  pub red : Over 10000 a.r 65536 k.r
  pub green : Over 10000 a.g 65536 k.g
  pub blue : Over 10000 a.b 65536 k.b

-- a byte i under a light a that has the scale k
pub record Under (i a k : ℕ) : Type 0 where
  pub byte : i ≤ 255
  pub light : a ≤ 255
  pub some : 0 < a
  pub scale : Over 10000 a 65536 k
