-- `pixel::unheld` meets its contract: product and sum fit. Assumes nothing.
use Prim.Native.Nat.{ℕ, ◌≤◌}
use mathlib.Core.Path.{◌≡◌, ap₂, ◌∙◌}
use lib.IntN.{ℤ, pos, nat_abs, ◌+ℤ◌, ◌*ℤ◌}
use native.Mathlib.Nat.{mul-le-mul}
use native.Mathlib.Omega.{arith}
use mir.Syntax.{w64}
use mir.Val.{SFits, to_z}
use Rattle.rules.proofs.Integers.{back, fits, rd, rd_is, mul_is, nat_abs-*, nat_abs-+}
use Rattle.pixel.proofs.unheld.Goals as goal
use Rattle.pixel.proofs.unheld.Goals.{Start}

module _ (s : Start) where
  abbrev g : ℕ
  g = s.args.g

  abbrev sa : ℤ
  sa = s.args.sa

  abbrev sb : ℤ
  sb = s.args.sb

  ag_is : rd sa *ℤ to_z w64 g ≡ sa *ℤ pos g
  ag_is = mul_is sa (pos g) (omega (arith, s.requires.1)) (omega (arith, s.requires.0))

  ag_le : nat_abs (sa *ℤ pos g) ≤ 28672934400000
  ag_le = omega (arith, nat_abs-* sa (pos g), mul-le-mul s.requires.1 s.requires.0)

  ag_fits : SFits w64 (rd sa *ℤ to_z w64 g)
  ag_fits = rw ag_is (fits _ (omega (arith, ag_le)))

  sum_is : rd (rd sa *ℤ to_z w64 g) +ℤ rd sb ≡ sa *ℤ pos g +ℤ sb
  sum_is = ap₂ (λ (x y : ℤ). x +ℤ y) (back _ ag_fits ∙ ag_is) (rd_is sb (omega (arith, s.requires.2)))

  sum_fits : SFits w64 (rd (rd sa *ℤ to_z w64 g) +ℤ rd sb)
  sum_fits = rw sum_is (fits _ (omega (arith, nat_abs-+ (sa *ℤ pos g) sb, ag_le, s.requires.2)))

pub overflow_add-result : goal.overflow_add-result
overflow_add-result c = sum_fits (goal.at.overflow_add-result c).Start

pub returns : goal.returns
returns c = back _ (sum_fits (goal.at.returns c).Start) ∙ sum_is (goal.at.returns c).Start
